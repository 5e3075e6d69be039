use Rattle.index_layer_law.proofs.LayerStays.{eviction_keeps_layer}
use Rattle.index_layer_law.proofs.laws.eviction_law.Goals as goal

pub returns : goal.returns
returns c = eviction_keeps_layer
