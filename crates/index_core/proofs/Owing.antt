-- Each turn of a call pays what it counts from what it owes.
use Rattle.std.proofs.Common.{◌≡◌, ℕ, ◌+◌, ◌-◌, ◌<◌, ◌≤◌, ◌^◌, true, false, List, [], ◌∷◌, length, refl, ◌∙◌, arith}
use Rattle.std.specs.Prelude.{Option, Some, None, Result, Ok, Err, OnOk, min, nat_le}
use Rattle.std.proofs.lemmas.Bool.{leb-true, leb-false}
use Rattle.std.proofs.Math.Nat.{min-eq_left, min-eq_right}
use Rattle.index_core.specs.declared.party.PartyState.{PartyState}
use Rattle.pm_words.specs.declared.machine.Turn.{Turn}
use Rattle.pm_words.specs.declared.machine.Turn.TheVariants.{Go, Done}
use Rattle.cat_history.specs.declared.op.Change.{Change}
use Rattle.call_stages.specs.declared.once.Once.{Once}
use Rattle.call_stages.specs.declared.once.Placed.{Placed}
use Rattle.call_stages.specs.Stages.{counted}
use Rattle.node_ops.specs.declared.call.Call.{Call}
use Rattle.node_ops.specs.declared.lookup.Hold.{Hold}
use Rattle.split_merge.specs.declared.splitting.Split.{Split}
use Rattle.split_merge.proofs.OfSplits.{stages_are_of_splits}
use Rattle.node_ops.proofs.SplitFacts.{split_uncounted}
use Rattle.node_ops.proofs.MergeFacts.{merge_uncounted, merging_stage, placed_still}
use Rattle.node_ops.specs.declared.lookup.Looked.{Looked}
use Rattle.node_ops.specs.declared.lookup.Looked.TheVariants as looked
use Rattle.node_ops.specs.declared.lookup.Lookup.{Lookup}
use Rattle.pm_words.specs.declared.fence.Fence.{Fence}
use Rattle.node_ops.specs.declared.finish.Finish.{Finish}
use Rattle.node_ops.specs.declared.finish.FinishAt.{FinishAt}
use Rattle.node_ops.specs.declared.finish.FinishAt.TheVariants as finish_at
use Rattle.node_ops.specs.declared.get.Get.{Get}
use Rattle.node_ops.specs.declared.get.Get.TheVariants as get
use Rattle.node_ops.specs.declared.put.Put.{Put}
use Rattle.node_ops.specs.declared.put.Put.TheVariants as put
use Rattle.node_ops.specs.declared.single_put.SinglePut.TheVariants as single_put
use Rattle.node_ops.specs.declared.del.Del.{Del}
use Rattle.node_ops.specs.declared.del.Del.TheVariants as del
use Rattle.node_ops.specs.declared.single_del.SingleDel.TheVariants as single_del
use Rattle.node_ops.specs.declared.part.Part.{Part}
use Rattle.node_ops.specs.declared.part.Part.TheVariants as part
use Rattle.node_ops.specs.declared.running.Running.{Running}
use Rattle.node_ops.specs.declared.running.Running.TheVariants.{Getting, Putting, Deleting, Parting}
use Rattle.pm_words.specs.Fences.{fence_next}
use Rattle.node_ops.specs.LookupSteps.{lookup_turned}
use Rattle.node_ops.specs.FinishSteps.{finish_fenced}
use Rattle.node_ops.specs.GetSteps.{get_turned, get_looked}
use Rattle.node_ops.specs.PutSteps.{put_finished}
use Rattle.node_ops.specs.DelSteps.{del_finished, del_merged}
use Rattle.node_ops.specs.PartSteps.{part_turned, placed_turn}
use Rattle.split_merge.specs.declared.merging.Merge.{Merge}
use Rattle.split_merge.specs.declared.merging.Merged.{Merged}
use Rattle.split_merge.specs.Merges.{merge_turned}
use Rattle.node_ops.specs.RunningSteps.{running_turned, wrapped}
use Rattle.data_list.specs.WalkStages.{live_sight}
use Rattle.node_ops.specs.declared.part.ReadingAt.{ReadingAt}
use Rattle.node_ops.specs.declared.part.ReadingAt.TheVariants as reading_at
use Rattle.node_ops.specs.declared.part.Way.{Way}
use Rattle.node_ops.specs.declared.part.Way.TheVariants as ways
use Rattle.node_ops.specs.CallStages.{behind_sight, reading_at_held, stage_by, stage_of, lookup_stage, finish_stage, part_stage, found_full, has_place}
use Rattle.node_ops.proofs.OpLaw.{lookup_counts}
use Rattle.index_law.specs.Worlds.{written}
use Rattle.index_core.specs.PartyStates.{owes, machine_owes, owed}

-- what a call owes after a turn
abbrev pub owes_after : Turn Running (Once Placed) → ℕ
owes_after (Go running) = owes running
owes_after (Done answer) = 0

abbrev pub many : Option Change → ℕ
many None = 0
many (Some change) = 1

put_one : (put : Put) → owes (Putting put) ≤ 1
put_one (put.Single (single_put.Looking lookup value)) = omega arith
put_one (put.Single (single_put.Filling fill)) = omega arith
put_one (put.Single (single_put.Replacing call hold bitmap hit value)) = omega arith
put_one (put.Splitting call hold bitmap value split) = omega arith
put_one (put.Single (single_put.Finishing finish)) = at finish.at
  where
    at : (at : FinishAt) → owes (Putting (put.Single (single_put.Finishing (record finish { at = at })))) ≤ 1
    at (finish_at.Fence line fence) = omega arith
    at finish_at.Add = omega arith
    at (finish_at.Unlock place) = omega arith

del_one : (del : Del) → owes (Deleting del) ≤ 1
del_one (del.Single (single_del.Looking lookup)) = omega arith
del_one (del.Single (single_del.Next call hold bitmap hit)) = omega arith
del_one (del.Single (single_del.Taking call hold bitmap hit take)) = omega arith
del_one (del.Single (single_del.Refusing call hold bitmap hit)) = omega arith
del_one (del.Single (single_del.Clearing call hold bitmap hit line)) = omega arith
del_one (del.Merging call hold old place merge) = omega arith
del_one (del.Single (single_del.Finishing finish line)) = at finish.at
  where
    at : (at : FinishAt) → owes (Deleting (del.Single (single_del.Finishing (record finish { at = at }) line))) ≤ 1
    at (finish_at.Fence line fence) = omega arith
    at finish_at.Add = omega arith
    at (finish_at.Unlock place) = omega arith

pub owes_one : (running : Running) → owes running ≤ 1
owes_one (Getting get) = omega arith
owes_one (Putting put) = put_one put
owes_one (Deleting del) = del_one del
owes_one (Parting part) = omega arith

-- a call that owes one and counts nothing may turn as it likes
after_one : (turn : Turn Running (Once Placed)) → owes_after turn ≤ 1
after_one (Go running) = owes_one running
after_one (Done answer) = omega arith

get_pays : (get : Get) (x : ℕ) → (owes_after (wrapped Getting (get_turned get x)) ≡ 0) × (counted (stage_of (Getting get)) ≡ None)
get_pays (get.Looking lookup) x = (at (lookup_turned lookup x), lookup_counts (live_sight []) lookup.call lookup.at)
  where
    at : (turn : Turn Lookup Looked) → owes_after (wrapped Getting (get_looked lookup.call turn)) ≡ 0
    at (Go next) = refl
    at (Done (looked.Early answer)) = refl
    at (Done (looked.Found found)) = refl
get_pays (get.Checking call hold old) x = (refl, refl)

-- no turn of a part counts anything
pub part_counts : (p : Part) → counted (part_stage p) ≡ None
part_counts (part.Looking lookup count) = lookup_counts (live_sight []) lookup.call lookup.at
part_counts (part.Ordering call seen count load) = refl
part_counts (part.Locking call seen count locked) = refl
part_counts (part.Dating call seen count way) = refl
part_counts (part.Reading reading) = by_way reading.way reading.at
  where
    by_way : (way : Way) (at : ReadingAt) → counted (stage_by way reading.call.node reading.hold.locked (behind_sight reading.behind) (reading_at_held reading at)) ≡ None
    by_way (ways.Served words) at = refl
    by_way ways.Alone at = refl
    by_way (ways.Held words) reading_at.Clock = refl
    by_way (ways.Held words) reading_at.Bitmap = refl
    by_way (ways.Held words) (reading_at.Load slot word) = refl
    by_way (ways.Held words) reading_at.Check = refl
    by_way (ways.Held words) (reading_at.Store store) = refl
    by_way (ways.Held words) reading_at.Unlock = refl

part_owes : (turn : Turn Part (Once Placed)) → owes_after (wrapped Parting turn) ≡ 0
part_owes (Go p) = refl
part_owes (Done answer) = refl

put_finish_pays : (finish : Finish) (at : FinishAt) (x : ℕ)
    → owes_after (running_turned (Putting (put.Single (single_put.Finishing (record finish { at = at })))) x) + many (counted (finish_stage (record finish { at = at }))) ≤ owes (Putting (put.Single (single_put.Finishing (record finish { at = at }))))
put_finish_pays finish (finish_at.Fence line fence) x = fenced (fence_next fence x)
  where
    fenced : (next : Option Fence) → owes_after (wrapped Putting (put_finished (finish_fenced (record finish { at = finish_at.Fence line fence }) line next))) + 0 ≤ 1
    fenced (Some next) = omega arith
    fenced None = omega arith
put_finish_pays finish finish_at.Add x = omega arith
put_finish_pays finish (finish_at.Unlock place) x = omega arith

-- a delete that merges has its place
del_finish_pays : (finish : Finish) (line : Option ℕ) (at : FinishAt) (x : ℕ)
    → owes_after (running_turned (Deleting (del.Single (single_del.Finishing (record finish { at = at }) line))) x) + many (counted (finish_stage (record finish { at = at })))
    ≤ owes (Deleting (del.Single (single_del.Finishing (record finish { at = at }) line)))
del_finish_pays finish line (finish_at.Fence first fence) x = fenced line (fence_next fence x)
  where
    fenced : (line : Option ℕ) (next : Option Fence) → owes_after (wrapped Deleting (del_finished line (finish_fenced (record finish { at = finish_at.Fence first fence }) first next))) + 0 ≤ 1
    fenced None (Some next) = omega arith
    fenced None None = omega arith
    fenced (Some number) (Some next) = omega arith
    fenced (Some number) None = omega arith
del_finish_pays finish None finish_at.Add x = omega arith
del_finish_pays finish (Some number) finish_at.Add x = omega arith
del_finish_pays finish line (finish_at.Unlock place) x = omega arith

-- a put that splits counts nothing
pub splitting_counts : (call : Call) (hold : Hold) (bitmap value : ℕ) (split : Split) → counted (stage_of (Putting (put.Splitting call hold bitmap value split))) ≡ None
splitting_counts call hold bitmap value split = split_uncounted (found_full call hold bitmap) _ refl (stages_are_of_splits (found_full call hold bitmap) split)

-- nor does a delete that merges
pub merging_counts : (call : Call) (hold : Hold) (old : Option ℕ) (place : ℕ) (merge : Merge) → counted (stage_of (Deleting (del.Merging call hold old place merge))) ≡ None
merging_counts call hold old place merge = merge_uncounted (has_place call old place) _ (placed_still call old place) (merging_stage call old place merge)

merging_owes : (call : Call) (hold : Hold) (old : Option ℕ) (place : ℕ) (turn : Turn Merge Merged) → owes_after (wrapped Deleting (del_merged call hold old place turn)) ≡ 0
merging_owes call hold old place (Go merge) = refl
merging_owes call hold old place (Done merged) = refl

pub pays : (running : Running) (x : ℕ) → owes_after (running_turned running x) + many (counted (stage_of running)) ≤ owes running
pays (Getting get) x = let is = get_pays get x in let none : many (counted (stage_of (Getting get))) ≡ 0 = rw is.1 refl in let zero_after = is.0 in omega arith
pays (Putting (put.Single (single_put.Looking lookup value))) x =
    let one = after_one (running_turned (Putting (put.Single (single_put.Looking lookup value))) x) in
    let none : many (counted (lookup_stage lookup)) ≡ 0 = rw (lookup_counts (live_sight []) lookup.call lookup.at) refl in
    omega arith
pays (Putting (put.Single (single_put.Filling fill))) x = let one = after_one (running_turned (Putting (put.Single (single_put.Filling fill))) x) in omega arith
pays (Putting (put.Single (single_put.Replacing call hold bitmap hit value))) x = omega arith
pays (Putting (put.Splitting call hold bitmap value split)) x =
    let one = after_one (running_turned (Putting (put.Splitting call hold bitmap value split)) x) in
    let none : many (counted (stage_of (Putting (put.Splitting call hold bitmap value split)))) ≡ 0 = rw (splitting_counts call hold bitmap value split) refl in
    omega arith
pays (Putting (put.Single (single_put.Finishing finish))) x = put_finish_pays finish finish.at x
pays (Deleting (del.Single (single_del.Looking lookup))) x =
    let one = after_one (running_turned (Deleting (del.Single (single_del.Looking lookup))) x) in
    let none : many (counted (lookup_stage lookup)) ≡ 0 = rw (lookup_counts (live_sight []) lookup.call lookup.at) refl in
    omega arith
pays (Deleting (del.Single (single_del.Next call hold bitmap hit))) x = let one = after_one (running_turned (Deleting (del.Single (single_del.Next call hold bitmap hit))) x) in omega arith
pays (Deleting (del.Single (single_del.Taking call hold bitmap hit take))) x = let one = after_one (running_turned (Deleting (del.Single (single_del.Taking call hold bitmap hit take))) x) in omega arith
pays (Deleting (del.Single (single_del.Refusing call hold bitmap hit))) x = omega arith
pays (Deleting (del.Single (single_del.Clearing call hold bitmap hit line))) x = omega arith
pays (Deleting (del.Single (single_del.Finishing finish line))) x = del_finish_pays finish line finish.at x
pays (Deleting (del.Merging call hold old place merge)) x =
    let nothing = merging_owes call hold old place (merge_turned merge x) in
    let none : many (counted (stage_of (Deleting (del.Merging call hold old place merge)))) ≡ 0 = rw (merging_counts call hold old place merge) refl in
    omega arith
pays (Parting p) x =
    let nothing = part_owes (placed_turn (part_turned p x)) in
    let none : many (counted (stage_of (Parting p))) ≡ 0 = rw (part_counts p) refl in
    omega arith

pub written-length : (caller index : ℕ) (change : Option Change) → length (written caller index change) ≡ many change
written-length caller index None = refl
written-length caller index (Some change) = refl

-- each party owes one at most
pub owed_within : (states : List PartyState) → owed states ≤ length states
owed_within [] = omega arith
owed_within (state ∷ states) = let rest = owed_within states in let one = at_most state.machine in omega arith
  where
    at_most : (machine : Option Running) → machine_owes machine ≤ 1
    at_most None = omega arith
    at_most (Some machine) = owes_one machine

-- room for so many more beside what is owed
pub room_made : {E : Type 0} → (r : Result (Unit {0}) E) (more writes parties len cap owing : ℕ) → OnOk r (len + more ≤ cap) → more ≡ min (writes + parties) (2 ^ 64 - 1) → owing ≤ parties → cap < 2 ^ 63
    → OnOk r (writes ≤ cap - (len + owing))
room_made (Ok unit) more writes parties len cap owing room is few small =
    elim (nat_le (writes + parties) (2 ^ 64 - 1)) as (λ b. nat_le (writes + parties) (2 ^ 64 - 1) ≡ b → writes ≤ cap - (len + owing)) [
      | true ↦ λ e. let same = is ∙ min-eq_left (leb-true (writes + parties) (2 ^ 64 - 1) e) in omega arith
      | false ↦ λ e. let past = leb-false (writes + parties) (2 ^ 64 - 1) e in let most : 2 ^ 64 - 1 ≤ writes + parties = omega arith in let same = is ∙ min-eq_right most in omega arith
    ] refl
room_made (Err error) more writes parties len cap owing room is few small = tt
