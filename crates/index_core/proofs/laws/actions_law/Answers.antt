use Rattle.index_core.proofs.Costs.{actions_are_few}
use Rattle.index_core.proofs.laws.actions_law.Goals as goal

pub returns : goal.returns
returns c = actions_are_few
