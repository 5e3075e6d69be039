-- How many actions a call makes. What it has left as it begins is a bound, but one for a walk of twice as many hops as
-- there are nodes, and for a put one with a split. What a call spares of that is known once its walk has ended, and
-- once it is known whether it splits.
use Rattle.std.specs.Prelude.{◌≡◌, ℕ, ◌+◌, ◌-◌, ◌*◌, ◌<◌, Bool, true, false, if◌then◌else◌}
use Rattle.pm_words.specs.declared.again.Again.{Again}
use Rattle.pm_words.specs.declared.again.Again.TheVariants as again
use Rattle.pm_words.specs.declared.machine.Turn.TheVariants.{Go, Done}
use Rattle.call_stages.specs.declared.once.Once.{Once}
use Rattle.call_stages.specs.declared.once.Once.TheVariants as once
use Rattle.call_stages.specs.declared.once.Placed.{Placed}
use Rattle.node_ops.specs.declared.call.Call.{Call}
use Rattle.node_ops.specs.declared.lookup.LookupAt.{LookupAt}
use Rattle.node_ops.specs.declared.lookup.LookupAt.TheVariants as look
use Rattle.node_ops.specs.declared.get.Get.TheVariants as get
use Rattle.node_ops.specs.declared.put.Put.{Put}
use Rattle.node_ops.specs.declared.put.Put.TheVariants as put
use Rattle.node_ops.specs.declared.single_put.SinglePut.TheVariants as single_put
use Rattle.node_ops.specs.declared.del.Del.TheVariants as del
use Rattle.node_ops.specs.declared.single_del.SingleDel.TheVariants as single_del
use Rattle.node_ops.specs.declared.part.Part.TheVariants as part
use Rattle.node_ops.specs.declared.running.Running.{Running}
use Rattle.node_ops.specs.declared.running.Running.TheVariants.{Getting, Putting, Deleting, Parting}
use Rattle.node_ops.specs.RunningSteps.{IsRunning, running_call, running_turned, running_left}

-- Whether its walk has ended, in a look-up and in a call.
abbrev pub lookup_landed : LookupAt → Bool
lookup_landed (look.Floor floor) = false
lookup_landed (look.Walk walk) = false
lookup_landed _ = true

abbrev pub has_landed : Running → Bool
has_landed (Getting (get.Looking lookup)) = lookup_landed lookup.at
has_landed (Putting (put.Single (single_put.Looking lookup value))) = lookup_landed lookup.at
has_landed (Deleting (del.Single (single_del.Looking lookup))) = lookup_landed lookup.at
has_landed (Parting (part.Looking lookup count)) = lookup_landed lookup.at
has_landed _ = true

-- The actions, ten for each, of the hops that a call's walk might have made and didn't.
abbrev pub hops_spared : Call → ℕ
hops_spared call = 10 * (2 * call.view.layout.nodes - (call.hops + 1))

-- The actions of a split that a put doesn't make, which writes into its node.
abbrev pub split_spared : Running → ℕ
split_spared (Putting (put.Single (single_put.Filling fill))) = 30000
split_spared (Putting (put.Single (single_put.Replacing call hold bitmap hit value))) = 30000
split_spared (Putting (put.Single (single_put.Finishing finish))) = 30000
split_spared _ = 0

abbrev pub spared : Running → ℕ
spared running =
    (if has_landed running then hops_spared (running_call running) else 0) + split_spared running

-- With each turn that doesn't end the call, what is left becomes less, together with what is spared.
abbrev pub TurnsSpare : Type 0
TurnsSpare = (running next : Running) (x : ℕ) → IsRunning running → running_turned running x ≡ Go next →
    running_left next < running_left running → running_left next + spared next < running_left running + spared running

-- Why a walk ends with no target.
abbrev pub IsGivenUp : Again → Type 0
IsGivenUp (again.Locked node word) = Unit {0}
IsGivenUp (again.Hops count) = Unit {0}
IsGivenUp _ = ⊥

-- A call is answered so whose walk hasn't ended: its node is worn, or its walk gives up.
abbrev pub EndsInWalk : Once Placed → Type 0
EndsInWalk (once.Done placed) = ⊥
EndsInWalk (once.Spent clock) = ⊥
EndsInWalk (once.Worn node word) = Unit {0}
EndsInWalk (once.Again why) = IsGivenUp why

abbrev pub WalksEndSo : Type 0
WalksEndSo = (running : Running) (x : ℕ) (answer : Once Placed) → IsRunning running → has_landed running ≡ false →
    running_turned running x ≡ Done answer → EndsInWalk answer

-- A put that takes place has made no split.
abbrev pub PutsSpareSplits : Type 0
PutsSpareSplits = (machine : Put) (x : ℕ) (placed : Placed) → IsRunning (Putting machine) →
    running_turned (Putting machine) x ≡ Done (once.Done placed) → split_spared (Putting machine) ≡ 30000
