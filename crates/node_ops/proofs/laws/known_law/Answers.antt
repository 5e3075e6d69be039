use Rattle.node_ops.proofs.Rechecks.{parts_are_known, parts_are_few, known_is_kept, statuses_leave_known}
use Rattle.node_ops.proofs.laws.known_law.Goals as goal

pub returns-clause-known : goal.returns-clause-known
returns-clause-known c = parts_are_known

pub returns-clause-few : goal.returns-clause-few
returns-clause-few c = parts_are_few

pub returns-clause-kept : goal.returns-clause-kept
returns-clause-kept c = known_is_kept

pub returns-clause-turned : goal.returns-clause-turned
returns-clause-turned c = statuses_leave_known
