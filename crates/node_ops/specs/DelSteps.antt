-- A delete, step by step.
use Rattle.std.specs.Prelude.{◌≡◌, ℕ, ◌+◌, ◌/◌, ◌^◌, ◌<◌, ◌≤◌, ◌==◌, nat_lt, if◌then◌else◌, Option, Some, None, IfSome}
use Rattle.std.specs.Prelude.{IsSome}
use Rattle.pm_words.specs.declared.action.Action.{Action}
use Rattle.pm_words.specs.declared.action.Action.TheVariants.{Load, Store}
use Rattle.pm_words.specs.declared.again.Again.TheVariants.{LogFull}
use Rattle.pm_words.specs.declared.machine.Turn.{Turn}
use Rattle.pm_words.specs.declared.machine.Turn.TheVariants.{Go, Done}
use Rattle.data_node.specs.Bits.{without_live, live_count}
use Rattle.call_stages.specs.declared.view.View.{View}
use Rattle.call_stages.specs.declared.once.Once.{Once}
use Rattle.call_stages.specs.declared.once.Once.TheVariants as once
use Rattle.call_stages.specs.declared.once.Placed.{Placed}
use Rattle.smo_log.specs.declared.take.Take.{Take}
use Rattle.smo_log.specs.declared.take.Taken.{Taken}
use Rattle.smo_log.specs.declared.take.Taken.TheVariants.{Line, Full}
use Rattle.smo_log.specs.Takes.{IsTake, take_from, take_asks, take_turned, take_left}
use Rattle.split_merge.specs.declared.merging.Merge.{Merge}
use Rattle.split_merge.specs.declared.merging.Merged.{Merged}
use Rattle.split_merge.specs.Splits.{IsOwnLine}
use Rattle.split_merge.specs.Merges.{IsMerge, LeadsNear, merge_from, merge_asks, merge_turned, merge_left}
use Rattle.node_ops.specs.declared.call.Call.{Call}
use Rattle.node_ops.specs.declared.lookup.Hit.{Hit}
use Rattle.node_ops.specs.declared.lookup.Hold.{Hold}
use Rattle.node_ops.specs.declared.lookup.Found.{Found}
use Rattle.node_ops.specs.declared.lookup.Looked.{Looked}
use Rattle.node_ops.specs.declared.lookup.Looked.TheVariants as looked
use Rattle.node_ops.specs.declared.lookup.Lookup.{Lookup}
use Rattle.node_ops.specs.declared.finish.Finish.{Finish}
use Rattle.node_ops.specs.declared.finish.FinishAt.{FinishAt}
use Rattle.node_ops.specs.declared.finish.FinishAt.TheVariants as finish_at
use Rattle.node_ops.specs.declared.del.Del.{Del}
use Rattle.node_ops.specs.declared.del.Del.TheVariants.{Single, Merging}
use Rattle.node_ops.specs.declared.single_del.SingleDel.{SingleDel}
use Rattle.node_ops.specs.declared.single_del.SingleDel.TheVariants.{Looking, Next, Taking, Refusing, Clearing}
use Rattle.node_ops.specs.declared.single_del.SingleDel.TheVariants.{Finishing}
use Rattle.node_ops.specs.declared.single_del.CountedDel.{CountedDel}
use Rattle.node_ops.specs.declared.single_del.SingleDelDone.{SingleDelDone}
use Rattle.node_ops.specs.declared.single_del.SingleDelDone.TheVariants.{Answered, Counted}
use Rattle.node_ops.specs.Calls.{IsCall, IsInside, IsToldOf, call_address}
use Rattle.version_lock.specs.Versions.{IsLockWord}
use Rattle.pm_words.specs.Fences.{line_of, fence_start}
use Rattle.pm_words.specs.Offsets.{version_offset, bitmap_offset, next_offset}
use Rattle.node_ops.specs.LookupSteps.{IsHit, IsLookup, lookup_asks, lookup_turned, lookup_left}
use Rattle.node_ops.specs.FinishSteps.{IsFinish, finish_asks, finish_turned, finish_left}

-- what stays the same while it is made
abbrev pub del_call : Del → Call
del_call (Single (Looking lookup)) = lookup.call
del_call (Single (Next call hold bitmap hit)) = call
del_call (Single (Taking call hold bitmap hit take)) = call
del_call (Single (Refusing call hold bitmap hit)) = call
del_call (Single (Clearing call hold bitmap hit line)) = call
del_call (Single (Finishing finish line)) = finish.call
del_call (Merging call hold old place merge) = call

abbrev pub del_asks : Del → Action
del_asks (Single (Looking lookup)) = lookup_asks lookup
del_asks (Single (Next call hold bitmap hit)) = Load (call_address call next_offset)
del_asks (Single (Taking call hold bitmap hit take)) = take_asks take
del_asks (Single (Refusing call hold bitmap hit)) = Store (call_address call version_offset) (hold.locked + 1)
del_asks (Single (Clearing call hold bitmap hit line)) =
    Store (call_address call bitmap_offset) (without_live bitmap hit.slot)
del_asks (Single (Finishing finish line)) = finish_asks finish
del_asks (Merging call hold old place merge) = merge_asks merge

-- how many names the node has once the slot is clear
abbrev pub names_left : Call → ℕ → Hit → ℕ
names_left call bitmap hit = live_count call.view.layout.slots (without_live bitmap hit.slot)

-- the name is in this slot: where it leaves few names, it looks where its node leads
abbrev pub del_slot : Call → Hold → ℕ → Hit → Del
del_slot call hold bitmap hit =
    if nat_lt (call.view.layout.slots / 2) (names_left call bitmap hit)
    then Single (Clearing call hold bitmap hit None)
    else Single (Next call hold bitmap hit)

-- a name that is not there takes its place without a store
abbrev pub del_hit : Call → Hold → ℕ → Option Hit → Del
del_hit call hold bitmap (Some hit) = del_slot call hold bitmap hit
del_hit call hold bitmap None =
    Single (Finishing (record { call = call; hold = hold; old = None; new = None; at = finish_at.Add }) None)

abbrev pub del_found : Call → Found → Del
del_found call found = del_hit call found.hold found.directory.bitmap found.hit

-- after a turn of the look-up
abbrev pub del_looked : Call → Turn Lookup Looked → Turn Del (Once Placed)
del_looked call (Go lookup) = Go (Single (Looking lookup))
del_looked call (Done (looked.Early answer)) = Done answer
del_looked call (Done (looked.Found found)) = Go (del_found call found)

-- its node leads to this one; 0 is none
abbrev pub saw_next : Call → Hold → ℕ → Hit → ℕ → Del
saw_next call hold bitmap hit next =
    if next == 0 then Single (Clearing call hold bitmap hit None)
    else Single (Taking call hold bitmap hit (take_from call.view.layout call.view.caller))

-- it has looked for a line
abbrev pub took : Call → Hold → ℕ → Hit → Taken → Del
took call hold bitmap hit (Line line) = Single (Clearing call hold bitmap hit (Some line))
took call hold bitmap hit Full = Single (Refusing call hold bitmap hit)

abbrev pub del_taken : Call → Hold → ℕ → Hit → Turn Take Taken → Turn Del (Once Placed)
del_taken call hold bitmap hit (Go take) = Go (Single (Taking call hold bitmap hit take))
del_taken call hold bitmap hit (Done taken) = Go (took call hold bitmap hit taken)

-- what is left to do once the bit is clear
abbrev pub cleared : Call → Hold → Hit → Finish
cleared call hold hit = record {
  call = call;
  hold = hold;
  old = Some hit.value;
  new = None;
  at = finish_at.Fence (line_of bitmap_offset) fence_start;
}

-- with a line it merges once it has its place
abbrev pub merges_at : Finish → ℕ → FinishAt → Del
merges_at finish line (finish_at.Fence first fence) = Single (Finishing finish (Some line))
merges_at finish line finish_at.Add = Single (Finishing finish (Some line))
merges_at finish line (finish_at.Unlock place) =
    Merging finish.call finish.hold finish.old place
    (merge_from finish.call.view finish.call.node finish.hold.locked line)

-- it is at this point of its end
abbrev pub goes_on : Finish → Option ℕ → Del
goes_on finish None = Single (Finishing finish None)
goes_on finish (Some line) = merges_at finish line finish.at

abbrev pub del_finished : Option ℕ → Turn Finish (Once Placed) → Turn Del (Once Placed)
del_finished line (Go finish) = Go (goes_on finish line)
del_finished line (Done answer) = Done answer

-- after a turn of the merge, at whose end it is answered whether it merged or not
abbrev pub del_merged : Call → Hold → Option ℕ → ℕ → Turn Merge Merged → Turn Del (Once Placed)
del_merged call hold old place (Go merge) = Go (Merging call hold old place merge)
del_merged call hold old place (Done merged) =
    Done (once.Done (record { old = old; place = place; hops = call.hops }))

abbrev pub del_turned : Del → ℕ → Turn Del (Once Placed)
del_turned (Single (Looking lookup)) got = del_looked lookup.call (lookup_turned lookup got)
del_turned (Single (Next call hold bitmap hit)) got = Go (saw_next call hold bitmap hit got)
del_turned (Single (Taking call hold bitmap hit take)) got = del_taken call hold bitmap hit (take_turned take got)
del_turned (Single (Refusing call hold bitmap hit)) got = Done (once.Again LogFull)
del_turned (Single (Clearing call hold bitmap hit line)) got = Go (Single (Finishing (cleared call hold hit) line))
del_turned (Single (Finishing finish line)) got = del_finished line (finish_turned finish got)
del_turned (Merging call hold old place merge) got = del_merged call hold old place (merge_turned merge got)

-- it merges
abbrev pub del_merges : CountedDel → Del
del_merges counted = merges_at counted.finish counted.line (finish_at.Unlock counted.place)

-- its change is counted; the line is one of its caller's
pub record IsCounted (counted : CountedDel) : Type 0 where
  pub here : IsFinish counted.finish
  pub own : IsOwnLine counted.finish.call.view counted.line

-- The turn leaves this work on one node where it has no end, and comes to its end where it has one.
abbrev pub SingleDelTurns : Turn Del (Once Placed) → SingleDel → Option SingleDelDone → Type 0
SingleDelTurns turn single None = turn ≡ Go (Single single)
SingleDelTurns turn single (Some (Answered answer)) = turn ≡ Done answer
SingleDelTurns turn single (Some (Counted counted)) = (turn ≡ Go (del_merges counted)) × IsCounted counted

-- the name is in this live slot
pub record IsClearing (of : Call) (hold : Hold) (bitmap : ℕ) (found : Hit) : Type 0 where
  pub call : IsCall of
  pub locked : IsLockWord hold.locked
  pub fits : bitmap < 2 ^ 64
  pub hit : IsHit of.view.layout.slots bitmap found

-- it leaves at most half as many names as a node has slots
abbrev pub LeavesFew : Call → ℕ → Hit → Type 0
LeavesFew call bitmap hit = names_left call bitmap hit ≤ call.view.layout.slots / 2

-- it looks for a line of its caller
pub record IsTakeOf (view : View) (take : Take) : Type 0 where
  pub here : IsTake take
  pub layout_is : take.layout ≡ view.layout
  pub caller_is : take.caller ≡ view.caller

-- it has no place yet
abbrev pub IsUnplaced : FinishAt → Type 0
IsUnplaced (finish_at.Fence line fence) = Unit {0}
IsUnplaced finish_at.Add = Unit {0}
IsUnplaced (finish_at.Unlock place) = ⊥

-- the end of a write; a line that it has is one of its caller's
pub record IsEnding (finish : Finish) (line : Option ℕ) : Type 0 where
  pub here : IsFinish finish
  pub own : IfSome line (IsOwnLine finish.call.view)

-- its change has its place; the merge is of the call's node
abbrev pub IsMerging : Call → Hold → Merge → Type 0
IsMerging of hold merge = IsInside of hold.locked merge.view merge.node merge.word (IsMerge merge) (Unit {0})

-- what its fields keep
abbrev pub IsDel : Del → Type 0
IsDel (Single (Looking lookup)) = IsLookup lookup × IsSome lookup.call.limit
IsDel (Single (Next call hold bitmap hit)) = IsClearing call hold bitmap hit × LeavesFew call bitmap hit
IsDel (Single (Taking call hold bitmap hit take)) =
    IsClearing call hold bitmap hit × LeavesFew call bitmap hit × IsTakeOf call.view take
IsDel (Single (Refusing call hold bitmap hit)) = IsClearing call hold bitmap hit
IsDel (Single (Clearing call hold bitmap hit line)) =
    IsClearing call hold bitmap hit × IfSome line (λ number. LeavesFew call bitmap hit × IsOwnLine call.view number)
IsDel (Single (Finishing finish line)) = IsEnding finish line × IfSome line (λ number. IsUnplaced finish.at)
IsDel (Merging call hold old place merge) = IsMerging call hold merge

-- where nodes are merged, they lead to the layout's
abbrev pub del_leads : Del → ℕ → Type 0
del_leads (Merging call hold old place merge) got = LeadsNear merge merge.at got
del_leads _ got = Unit {0}

abbrev pub del_takes : Del → ℕ → Type 0
del_takes del got = IsDel del × IsToldOf (del_call del) (del_asks del) got × del_leads del got

-- with a line, it may merge at last
abbrev pub merge_to_come : Option ℕ → ℕ
merge_to_come None = 0
merge_to_come (Some line) = 30006

abbrev pub del_left : Del → ℕ
del_left (Single (Looking lookup)) = lookup_left lookup + 30052
del_left (Single (Next call hold bitmap hit)) = 30051
del_left (Single (Taking call hold bitmap hit take)) = take_left take + 30025
del_left (Single (Refusing call hold bitmap hit)) = 1
del_left (Single (Clearing call hold bitmap hit line)) = 19 + merge_to_come line
del_left (Single (Finishing finish line)) = finish_left finish + merge_to_come line
del_left (Merging call hold old place merge) = merge_left merge
