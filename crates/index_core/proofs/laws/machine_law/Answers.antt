use Rattle.index_core.proofs.Causes.{nothing_told, calls_hear}
use Rattle.index_core.proofs.CrashLaws.{placed_are_timely}
use Rattle.index_core.proofs.MachineLaw.{machine_law, begin_law, first_ready, places_follow}
use Rattle.index_core.proofs.laws.machine_law.Goals as goal

pub returns-clause-keeps : goal.returns-clause-keeps
returns-clause-keeps c = machine_law

pub returns-clause-begins : goal.returns-clause-begins
returns-clause-begins c = begin_law

pub returns-clause-ready : goal.returns-clause-ready
returns-clause-ready c = first_ready

pub returns-clause-places : goal.returns-clause-places
returns-clause-places c = places_follow

pub returns-clause-timely : goal.returns-clause-timely
returns-clause-timely c = placed_are_timely

pub returns-clause-untold : goal.returns-clause-untold
returns-clause-untold c = nothing_told

pub returns-clause-hears : goal.returns-clause-hears
returns-clause-hears c = calls_hear
