use Rattle.node_ops.proofs.Rechecks.{rechecks_are_told, rechecks_stay_sure, rechecks_outlast, rechecks_tell, same_tells}
use Rattle.node_ops.proofs.laws.recheck_law.Goals as goal

pub returns-clause-told : goal.returns-clause-told
returns-clause-told c = rechecks_are_told

pub returns-clause-sure : goal.returns-clause-sure
returns-clause-sure c = rechecks_stay_sure

pub returns-clause-outlasts : goal.returns-clause-outlasts
returns-clause-outlasts c = rechecks_outlast

pub returns-clause-tells : goal.returns-clause-tells
returns-clause-tells c = rechecks_tell

pub returns-clause-same : goal.returns-clause-same
returns-clause-same c = same_tells
