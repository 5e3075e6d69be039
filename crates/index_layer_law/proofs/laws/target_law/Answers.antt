use Rattle.index_layer_law.proofs.TurnWalks.{targets_stand}
use Rattle.index_layer_law.proofs.laws.target_law.Goals as goal

pub returns : goal.returns
returns c = targets_stand
