-- A put, step by step.
use Rattle.std.specs.Prelude.{◌≡◌, ℕ, ◌+◌, ◌/◌, ◌^◌, ◌<◌, Option, Some, None, slice_index}
use Rattle.std.specs.Prelude.{IsSome}
use Rattle.pm_words.specs.declared.action.Action.{Action}
use Rattle.pm_words.specs.declared.action.Action.TheVariants.{Store}
use Rattle.pm_words.specs.declared.again.Again.{Again}
use Rattle.pm_words.specs.declared.again.Again.TheVariants.{NeedsSplit}
use Rattle.pm_words.specs.declared.machine.Turn.{Turn}
use Rattle.pm_words.specs.declared.machine.Turn.TheVariants.{Go, Done}
use Rattle.data_node.specs.Slots.{AreAllLive}
use Rattle.data_node.specs.Bits.{lowest_clear}
use Rattle.call_stages.specs.declared.once.Once.{Once}
use Rattle.call_stages.specs.declared.once.Once.TheVariants as once
use Rattle.call_stages.specs.declared.once.Placed.{Placed}
use Rattle.node_ops.specs.declared.call.Call.{Call}
use Rattle.node_ops.specs.declared.lookup.Hit.{Hit}
use Rattle.node_ops.specs.declared.lookup.Hold.{Hold}
use Rattle.node_ops.specs.declared.lookup.Found.{Found}
use Rattle.node_ops.specs.declared.lookup.Looked.{Looked}
use Rattle.node_ops.specs.declared.lookup.Looked.TheVariants as looked
use Rattle.node_ops.specs.declared.lookup.Lookup.{Lookup}
use Rattle.node_ops.specs.declared.finish.Finish.{Finish}
use Rattle.node_ops.specs.declared.finish.FinishAt.TheVariants as finish_at
use Rattle.node_ops.specs.declared.fill.Fill.{Fill}
use Rattle.node_ops.specs.declared.fill.FillAt.TheVariants as fill_at
use Rattle.node_ops.specs.declared.put.Put.{Put}
use Rattle.node_ops.specs.declared.put.Put.TheVariants.{Single, Splitting}
use Rattle.node_ops.specs.declared.single_put.SinglePut.{SinglePut}
use Rattle.node_ops.specs.declared.single_put.SinglePut.TheVariants.{Looking, Filling, Replacing, Finishing}
use Rattle.node_ops.specs.declared.single_put.FullNode.{FullNode}
use Rattle.node_ops.specs.declared.single_put.SinglePutDone.{SinglePutDone}
use Rattle.node_ops.specs.declared.single_put.SinglePutDone.TheVariants.{Answered, Full}
use Rattle.split_merge.specs.declared.splitting.Split.{Split}
use Rattle.split_merge.specs.declared.splitting.SplitDone.{SplitDone}
use Rattle.split_merge.specs.declared.splitting.SplitDone.TheVariants as done
use Rattle.split_merge.specs.Splits.{IsSplit, LeadsIn, split_from, split_asks, split_turned, split_left}
use Rattle.node_ops.specs.Calls.{IsCall, IsInside, IsToldOf, call_address}
use Rattle.version_lock.specs.Versions.{IsLockWord}
use Rattle.pm_words.specs.Fences.{line_of, fence_start}
use Rattle.pm_words.specs.Offsets.{slot_offset, value_word}
use Rattle.node_ops.specs.LookupSteps.{IsHit, IsLookup, lookup_asks, lookup_turned, lookup_left}
use Rattle.node_ops.specs.FillSteps.{IsFill, fill_asks, fill_turned, fill_left}
use Rattle.node_ops.specs.FinishSteps.{IsFinish, finish_asks, finish_turned, finish_left}

-- what stays the same while it is made
abbrev pub put_call : Put → Call
put_call (Single (Looking lookup value)) = lookup.call
put_call (Single (Filling fill)) = fill.call
put_call (Single (Replacing call hold bitmap hit value)) = call
put_call (Single (Finishing finish)) = finish.call
put_call (Splitting call hold bitmap value split) = call

abbrev pub put_asks : Put → Action
put_asks (Single (Looking lookup value)) = lookup_asks lookup
put_asks (Single (Filling fill)) = fill_asks fill
put_asks (Single (Replacing call hold bitmap hit value)) = Store (call_address call (slot_offset hit.slot value_word)) value
put_asks (Single (Finishing finish)) = finish_asks finish
put_asks (Splitting call hold bitmap value split) = split_asks split

-- no slot is clear
abbrev pub put_full : Call → Hold → ℕ → Option Hit → ℕ → Put
put_full call hold bitmap (Some hit) value = Single (Replacing call hold bitmap hit value)
put_full call hold bitmap None value =
    Splitting call hold bitmap value (split_from call.view call.node hold.locked)

-- the slot whose value is replaced: where none is clear, the one that has the name
abbrev pub replaced_hit : Option ℕ → Option Hit → Option Hit
replaced_hit (Some slot) hit = None
replaced_hit None hit = hit

-- the lowest clear slot takes the name, if there is one
abbrev pub put_into : Call → Found → ℕ → Option ℕ → Put
put_into call found value (Some slot) = Single (Filling (record {
  call = call;
  hold = found.hold;
  bitmap = found.directory.bitmap;
  prints = slice_index found.directory.prints (slot / 8);
  slot = slot;
  hit = found.hit;
  value = value;
  at = fill_at.Word 0;
}))
put_into call found value None = put_full call found.hold found.directory.bitmap found.hit value

abbrev pub put_found : Call → Found → ℕ → Put
put_found call found value = put_into call found value (lowest_clear found.directory.bitmap call.view.layout.slots)

-- after a turn of the look-up
abbrev pub put_looked : Call → ℕ → Turn Lookup Looked → Turn Put (Once Placed)
put_looked call value (Go lookup) = Go (Single (Looking lookup value))
put_looked call value (Done (looked.Early answer)) = Done answer
put_looked call value (Done (looked.Found found)) = Go (put_found call found value)

-- after a step of the writing
abbrev pub put_filled : Turn Fill Finish → Turn Put (Once Placed)
put_filled (Go fill) = Go (Single (Filling fill))
put_filled (Done finish) = Go (Single (Finishing finish))

abbrev pub put_finished : Turn Finish (Once Placed) → Turn Put (Once Placed)
put_finished (Go finish) = Go (Single (Finishing finish))
put_finished (Done answer) = Done answer

-- what is left to do once the value is stored in place
abbrev pub replaced : Call → Hold → Hit → ℕ → Finish
replaced call hold hit value = record {
  call = call;
  hold = hold;
  old = Some hit.value;
  new = Some value;
  at = finish_at.Fence (line_of (slot_offset hit.slot value_word)) fence_start;
}

-- why the call is to be made again, once the split has ended
abbrev pub split_done : ℕ → SplitDone → Again
split_done node (done.Done fresh) = NeedsSplit node
split_done node (done.Again why) = why

-- after a turn of the split
abbrev pub put_split : Call → Hold → ℕ → ℕ → Turn Split SplitDone → Turn Put (Once Placed)
put_split call hold bitmap value (Go split) = Go (Splitting call hold bitmap value split)
put_split call hold bitmap value (Done answer) = Done (once.Again (split_done call.node answer))

abbrev pub put_turned : Put → ℕ → Turn Put (Once Placed)
put_turned (Single (Looking lookup value)) got = put_looked lookup.call value (lookup_turned lookup got)
put_turned (Single (Filling fill)) got = put_filled (fill_turned fill got)
put_turned (Single (Replacing call hold bitmap hit value)) got = Go (Single (Finishing (replaced call hold hit value)))
put_turned (Single (Finishing finish)) got = put_finished (finish_turned finish got)
put_turned (Splitting call hold bitmap value split) got =
    put_split call hold bitmap value (split_turned split got)

-- it splits its node
abbrev pub put_splits : FullNode → Put
put_splits full = Splitting full.call full.hold full.bitmap full.value
    (split_from full.call.view full.call.node full.hold.locked)

-- it has locked the call's node
pub record IsFullNode (full : FullNode) : Type 0 where
  pub call : IsCall full.call
  pub locked : IsLockWord full.hold.locked

-- The turn leaves this work on one node where it has no end, and comes to its end where it has one.
abbrev pub SinglePutTurns : Turn Put (Once Placed) → SinglePut → Option SinglePutDone → Type 0
SinglePutTurns turn single None = turn ≡ Go (Single single)
SinglePutTurns turn single (Some (Answered answer)) = turn ≡ Done answer
SinglePutTurns turn single (Some (Full full)) = (turn ≡ Go (put_splits full)) × IsFullNode full

-- no slot is clear, and the name is in this one
pub record IsReplacing (of : Call) (hold : Hold) (bitmap : ℕ) (found : Hit) (number : ℕ) : Type 0 where
  pub call : IsCall of
  pub locked : IsLockWord hold.locked
  pub hit : IsHit of.view.layout.slots bitmap found
  pub value : number < 2 ^ 64

-- no slot is clear, and none has the name; the split is of the call's node
abbrev pub IsSplitting : Call → Hold → ℕ → Split → Type 0
IsSplitting of hold bitmap split =
    IsInside of hold.locked split.view split.node split.word (IsSplit split) (AreAllLive bitmap of.view.layout.slots)

-- what its fields keep
abbrev pub IsPut : Put → Type 0
IsPut (Single (Looking lookup value)) = IsLookup lookup × (value < 2 ^ 64) × IsSome lookup.call.limit
IsPut (Single (Filling fill)) = IsFill fill
IsPut (Single (Replacing call hold bitmap hit value)) = IsReplacing call hold bitmap hit value
IsPut (Single (Finishing finish)) = IsFinish finish
IsPut (Splitting call hold bitmap value split) = IsSplitting call hold bitmap split

-- where a node is split, it leads to one of the layout's
abbrev pub put_leads : Put → ℕ → Type 0
put_leads (Splitting call hold bitmap value split) got = LeadsIn split split.at got
put_leads _ got = Unit {0}

abbrev pub put_takes : Put → ℕ → Type 0
put_takes put got = IsPut put × IsToldOf (put_call put) (put_asks put) got × put_leads put got

abbrev pub put_left : Put → ℕ
put_left (Single (Looking lookup value)) = lookup_left lookup + 30057
put_left (Single (Filling fill)) = fill_left fill + 18
put_left (Single (Replacing call hold bitmap hit value)) = 19
put_left (Single (Finishing finish)) = finish_left finish
put_left (Splitting call hold bitmap value split) = split_left split
