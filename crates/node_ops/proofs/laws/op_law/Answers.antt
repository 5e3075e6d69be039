use Rattle.node_ops.proofs.OpLaw.{turns_keep_op, op_told, counts_own_change, holds_own_name, pends_own_change}
use Rattle.node_ops.proofs.laws.op_law.Goals as goal

pub returns-clause-kept : goal.returns-clause-kept
returns-clause-kept c = turns_keep_op

pub returns-clause-told : goal.returns-clause-told
returns-clause-told c = op_told

pub returns-clause-change : goal.returns-clause-change
returns-clause-change c = counts_own_change

pub returns-clause-name : goal.returns-clause-name
returns-clause-name c = holds_own_name

pub returns-clause-pending : goal.returns-clause-pending
returns-clause-pending c = pends_own_change
