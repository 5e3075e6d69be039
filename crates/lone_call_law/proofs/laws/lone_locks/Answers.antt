use Rattle.lone_call_law.proofs.Locks.{locks_go, stages_lose, fewest_lose, worn_has_none}
use Rattle.lone_call_law.proofs.laws.lone_locks.Goals as goal

pub returns-clause-goes : goal.returns-clause-goes
returns-clause-goes c = locks_go

pub returns-clause-stages : goal.returns-clause-stages
returns-clause-stages c = stages_lose

pub returns-clause-fewest : goal.returns-clause-fewest
returns-clause-fewest c = fewest_lose

pub returns-clause-worn : goal.returns-clause-worn
returns-clause-worn c = worn_has_none
