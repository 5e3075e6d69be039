-- Only a write finds the node of its name worn, and only since no lock can be taken of it.
use Rattle.std.specs.Prelude.{IsSome}
use Rattle.cat_history.specs.declared.op.NameOp.{NameOp}
use Rattle.cat_history.specs.declared.op.NameOp.TheVariants as op
use Rattle.version_lock.specs.Versions.{IsWorn}
use Rattle.node_ops.specs.Asked.{name_asked}
use Rattle.index_law.specs.Worlds.{World, facts}
use Rattle.lone_hops_law.specs.lone_call_law.specs.LoneCalls.{FindsWorn}
use Rattle.lone_hops_law.specs.lone_call_law.specs.Rooms.{target_node}
use Rattle.index_core.specs.declared.party.CoreCall.{CoreCall}
use Rattle.index_core.specs.declared.party.CoreCall.TheVariants as call
use Rattle.index_core.specs.CoreCalls.{limit_of, op_of}

pub worn_target : (w : World) (o : NameOp) → FindsWorn w o → IsWorn ((facts w).version (target_node w (name_asked o))) w.generation
worn_target w (op.Get name) worn = absurd worn
worn_target w (op.Put name value) worn = worn
worn_target w (op.Del name) worn = worn

pub worn_found : (w : World) (c : CoreCall) → IsSome (limit_of c) → IsWorn ((facts w).version (target_node w (name_asked (op_of c)))) w.generation → FindsWorn w (op_of c)
worn_found w (call.Put name value limit) writes worn = worn
worn_found w (call.Get name) writes worn = absurd (cc)
worn_found w (call.Del name limit) writes worn = worn
worn_found w (call.Part low count) writes worn = absurd (cc)
worn_found w (call.Recheck node version) writes worn = absurd (cc)
worn_found w (call.Turn stamp release) writes worn = absurd (cc)
