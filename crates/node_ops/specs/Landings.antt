-- How a call comes by its node and its hops: from its walk, as it ends at its target.
use Rattle.std.specs.Prelude.{◌≡◌, ℕ, Option, Some, None}
use Rattle.pm_words.specs.declared.machine.Turn.{Turn}
use Rattle.pm_words.specs.declared.machine.Turn.TheVariants.{Go, Done}
use Rattle.data_list.specs.declared.target.Walked.{Walked}
use Rattle.data_list.specs.declared.target.Walked.TheVariants as walked
use Rattle.data_list.specs.declared.walk.Walk.{Walk}
use Rattle.data_list.specs.Walks.{walk_turned}
use Rattle.node_ops.specs.declared.call.Call.{Call}
use Rattle.node_ops.specs.declared.lookup.LookupAt.{LookupAt}
use Rattle.node_ops.specs.declared.lookup.LookupAt.TheVariants as look
use Rattle.node_ops.specs.declared.get.Get.TheVariants as get
use Rattle.node_ops.specs.declared.put.Put.TheVariants as put
use Rattle.node_ops.specs.declared.single_put.SinglePut.TheVariants as single_put
use Rattle.node_ops.specs.declared.del.Del.TheVariants as del
use Rattle.node_ops.specs.declared.single_del.SingleDel.TheVariants as single_del
use Rattle.node_ops.specs.declared.part.Part.TheVariants as part
use Rattle.node_ops.specs.declared.running.Running.{Running}
use Rattle.node_ops.specs.declared.running.Running.TheVariants.{Getting, Putting, Deleting, Parting}
use Rattle.node_ops.specs.Calls.{at_node}
use Rattle.node_ops.specs.RunningSteps.{running_call, running_turned}

-- The walk that a call is on, if it is on one.
abbrev pub lookup_walk : LookupAt → Option Walk
lookup_walk (look.Walk walk) = Some walk
lookup_walk _ = None

abbrev pub walk_in : Running → Option Walk
walk_in (Getting (get.Looking lookup)) = lookup_walk lookup.at
walk_in (Putting (put.Single (single_put.Looking lookup value))) = lookup_walk lookup.at
walk_in (Deleting (del.Single (single_del.Looking lookup))) = lookup_walk lookup.at
walk_in (Parting (part.Looking lookup count)) = lookup_walk lookup.at
walk_in _ = None

-- As the walk goes on, the call stays as it is. As it ends, the call has the target's node, and the hops of the walk.
abbrev pub LandsBy : Call → Call → Turn Walk Walked → Type 0
LandsBy before after (Go walk) = after ≡ before
LandsBy before after (Done (walked.Target target)) = after ≡ at_node before target.node target.hops
LandsBy before after (Done (walked.Again why)) = ⊥

-- No other turn changes the call: neither its name and limit, nor its node and hops.
abbrev pub Lands : Call → ℕ → Option Walk → Call → Type 0
Lands before x None after = after ≡ before
Lands before x (Some walk) after = LandsBy before after (walk_turned walk x)

abbrev pub TurnsLand : Type 0
TurnsLand = (running next : Running) (x : ℕ) → running_turned running x ≡ Go next →
    Lands (running_call running) x (walk_in running) (running_call next)
