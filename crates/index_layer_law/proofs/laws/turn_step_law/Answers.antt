use Rattle.index_layer_law.proofs.TurnSteps.{turn_step_keeps, turn_step_leaves}
use Rattle.index_layer_law.proofs.TurnVolatile.{turn_step_leaves_volatile}
use Rattle.index_layer_law.proofs.laws.turn_step_law.Goals as goal

pub returns : goal.returns
returns c = record { keeps = turn_step_keeps; leaves = turn_step_leaves; volatile = turn_step_leaves_volatile }
