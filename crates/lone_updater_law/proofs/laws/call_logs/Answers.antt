use Rattle.lone_updater_law.proofs.CallLogs.{log_goes, log_ends}
use Rattle.lone_updater_law.proofs.InStep.{calls_are_in_step}
use Rattle.lone_updater_law.proofs.ReadyCounts.{empty_are_counted, ready_are_counted}
use Rattle.lone_updater_law.proofs.laws.call_logs.Goals as goal

pub returns-clause-in_step : goal.returns-clause-in_step
returns-clause-in_step c = calls_are_in_step

pub returns-clause-goes : goal.returns-clause-goes
returns-clause-goes c = log_goes

pub returns-clause-ends : goal.returns-clause-ends
returns-clause-ends c = log_ends

pub returns-clause-counted : goal.returns-clause-counted
returns-clause-counted c = ready_are_counted

pub returns-clause-empty : goal.returns-clause-empty
returns-clause-empty c = empty_are_counted
