use Rattle.index_layer_law.proofs.FreshLayer.{fresh_is_layered}
use Rattle.index_layer_law.proofs.laws.fresh_law.Goals as goal

pub returns : goal.returns
returns c = fresh_is_layered
