use Rattle.std.proofs.Common.{sym, subst}
use Rattle.node_ops.specs.declared.del.Del.TheVariants.{Single}
use Rattle.node_ops.specs.Calls.{IsCall}
use Rattle.node_ops.proofs.CallSound.{del_is_call}
use Rattle.node_ops.proofs.single_del.SingleDel.op.Goals as goal

pub name-requires : goal.name-requires
name-requires c = subst IsCall (sym c.call.ensures) (del_is_call (Single c.args.self.now) c.requires)
