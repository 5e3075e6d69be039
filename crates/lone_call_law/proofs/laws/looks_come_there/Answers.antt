use Rattle.lone_call_law.proofs.Targets.{target_stands}
use Rattle.lone_call_law.proofs.There.{rest_is_still, idle_is_quiet, looks_come_there}
use Rattle.lone_call_law.proofs.laws.looks_come_there.Goals as goal

pub returns-clause-still : goal.returns-clause-still
returns-clause-still c = rest_is_still

pub returns-clause-quiet : goal.returns-clause-quiet
returns-clause-quiet c = idle_is_quiet

pub returns-clause-comes : goal.returns-clause-comes
returns-clause-comes c = looks_come_there

pub returns-clause-stands : goal.returns-clause-stands
returns-clause-stands c = target_stands
