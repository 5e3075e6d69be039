use Rattle.index_core.proofs.Rechecks.{parts_become_known, steps_keep_known, turns_keep_known, rechecks_act, rechecks_go_on, rechecks_are_answered, same_tells, same_is_soon, same_outlasts}
use Rattle.index_core.proofs.laws.recheck_law.Goals as goal

pub returns-clause-known : goal.returns-clause-known
returns-clause-known c = parts_become_known

pub returns-clause-steps : goal.returns-clause-steps
returns-clause-steps c = steps_keep_known

pub returns-clause-turns : goal.returns-clause-turns
returns-clause-turns c = turns_keep_known

pub returns-clause-acts : goal.returns-clause-acts
returns-clause-acts c = rechecks_act

pub returns-clause-goes_on : goal.returns-clause-goes_on
returns-clause-goes_on c = rechecks_go_on

pub returns-clause-answered : goal.returns-clause-answered
returns-clause-answered c = rechecks_are_answered

pub returns-clause-same : goal.returns-clause-same
returns-clause-same c = same_tells

pub returns-clause-soon : goal.returns-clause-soon
returns-clause-soon c = same_is_soon

pub returns-clause-outlasts : goal.returns-clause-outlasts
returns-clause-outlasts c = same_outlasts
