use Rattle.index_layer_law.proofs.TurnRests.{rest_is_layered}
use Rattle.index_layer_law.proofs.laws.rest_law.Goals as goal

pub returns : goal.returns
returns c = rest_is_layered
