use Rattle.index_layer_law.proofs.CallLaw.{call_step_keeps}
use Rattle.index_layer_law.proofs.laws.call_step_law.Goals as goal

pub returns : goal.returns
returns c = call_step_keeps
