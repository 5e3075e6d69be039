use Rattle.lone_call_law.proofs.Tries.{tries_go, tries_end}
use Rattle.lone_call_law.proofs.laws.lone_tries.Goals as goal

pub returns-clause-goes : goal.returns-clause-goes
returns-clause-goes c = tries_go

pub returns-clause-ends : goal.returns-clause-ends
returns-clause-ends c = tries_end
