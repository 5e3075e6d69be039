-- What an answer says of the call that it ends.
use Rattle.std.proofs.Common.{◌≡◌, ◌≢◌, ℕ, ◌/◌, ◌≤◌, ◌==◌, true, false, cond, ltb, [], Option, Some, None, refl, sym, subst, ap, ◌∙◌, arith, List}
use Rattle.std.specs.Prelude.{IsSomeAnd, ◌==◌}
use Rattle.std.proofs.lemmas.Bool.{leb-true}
use Rattle.pm_words.specs.declared.again.Again.{Again}
use Rattle.pm_words.specs.declared.again.Again.TheVariants as again
use Rattle.pm_words.specs.declared.machine.Turn.{Turn}
use Rattle.pm_words.specs.declared.machine.Turn.TheVariants.{Go, Done}
use Rattle.cat_history.specs.Records.{change_of}
use Rattle.data_node.specs.Bits.{lowest_clear}
use Rattle.call_stages.specs.declared.once.Once.{Once}
use Rattle.call_stages.specs.declared.once.Once.TheVariants as once
use Rattle.call_stages.specs.declared.once.Placed.{Placed}
use Rattle.call_stages.specs.Stages.{Stage, counted, placed_in, Held, Sight}
use Rattle.data_list.specs.declared.target.Target.{Target}
use Rattle.data_list.specs.declared.walk.Walk.{Walk}
use Rattle.data_list.specs.declared.walk.WalkAt.{WalkAt}
use Rattle.data_list.specs.declared.target.Walked.{Walked}
use Rattle.data_list.specs.declared.target.Walked.TheVariants as walked
use Rattle.data_list.specs.Walks.{sighting_of, walk_turned}
use Rattle.tree_floor.specs.declared.floor.Floor.{Floor}
use Rattle.tree_floor.specs.Floors.{floor_turned}
use Rattle.data_list.specs.Hops.{CanGiveUp as WalkGivesUp, HopsAt}
use Rattle.data_list.proofs.HopLaw.{walks_hop}
use Rattle.version_lock.specs.Versions.{is_worn_word, kept_count, locked_word}
use Rattle.node_ops.specs.declared.call.Call.{Call}
use Rattle.node_ops.specs.declared.lookup.Hold.{Hold}
use Rattle.node_ops.specs.declared.lookup.Hit.{Hit}
use Rattle.node_ops.specs.declared.lookup.Directory.{Directory}
use Rattle.node_ops.specs.declared.lookup.Found.{Found}
use Rattle.node_ops.specs.declared.lookup.Looked.{Looked}
use Rattle.node_ops.specs.declared.lookup.Looked.TheVariants as looked
use Rattle.node_ops.specs.declared.lookup.Lookup.{Lookup}
use Rattle.node_ops.specs.declared.lookup.LookupAt.{LookupAt}
use Rattle.node_ops.specs.declared.lookup.LookupAt.TheVariants as look
use Rattle.pm_words.specs.declared.fence.Fence.{Fence}
use Rattle.node_ops.specs.declared.fill.Fill.{Fill}
use Rattle.node_ops.specs.declared.finish.Finish.{Finish}
use Rattle.node_ops.specs.declared.finish.FinishAt.{FinishAt}
use Rattle.node_ops.specs.declared.finish.FinishAt.TheVariants as finish_at
use Rattle.node_ops.specs.declared.get.Get.{Get}
use Rattle.node_ops.specs.declared.get.Get.TheVariants as get
use Rattle.node_ops.specs.declared.put.Put.{Put}
use Rattle.node_ops.specs.declared.put.Put.TheVariants as put
use Rattle.node_ops.specs.declared.single_put.SinglePut.TheVariants as single_put
use Rattle.node_ops.specs.declared.del.Del.{Del}
use Rattle.node_ops.specs.declared.del.Del.TheVariants as del
use Rattle.node_ops.specs.declared.single_del.SingleDel.TheVariants as single_del
use Rattle.node_ops.specs.declared.running.Running.{Running}
use Rattle.node_ops.specs.declared.running.Running.TheVariants.{Getting, Putting, Deleting, Parting}
use Rattle.node_ops.specs.Calls.{at_node}
use Rattle.pm_words.specs.Fences.{fence_next}
use Rattle.node_ops.specs.LookupSteps.{value_of, is_spent, candidate_turned, came_by, came_to, floored, walked_on, goes_to, ends, lookup_turned, lookup_at_turned, IsLookupAt}
use Rattle.node_ops.specs.FinishSteps.{finish_asks, finish_turned, finish_at_turned, finish_fenced}
use Rattle.node_ops.specs.FillSteps.{fill_turned}
use Rattle.node_ops.specs.GetSteps.{get_looked}
use Rattle.node_ops.specs.PutSteps.{put_looked, put_into, put_full, put_filled, put_finished, put_split}
use Rattle.smo_log.specs.declared.take.Take.{Take}
use Rattle.smo_log.specs.declared.take.Taken.{Taken}
use Rattle.smo_log.specs.declared.take.Taken.TheVariants.{Line, Full}
use Rattle.smo_log.specs.Takes.{take_from, take_turned}
use Rattle.split_merge.specs.declared.merging.Merge.{Merge}
use Rattle.split_merge.specs.declared.merging.Merged.{Merged}
use Rattle.split_merge.specs.Merges.{merge_asks, merge_turned}
use Rattle.node_ops.specs.DelSteps.{names_left, del_looked, del_hit, del_taken, del_finished, del_merged, goes_on}
use Rattle.node_ops.specs.RunningSteps.{IsRunning, running_call, running_asks, running_turned, wrapped, wrapped_part}
use Rattle.node_ops.specs.declared.part.ReadingAt.{ReadingAt}
use Rattle.node_ops.specs.declared.part.ReadingAt.TheVariants as read
use Rattle.node_ops.specs.declared.part.Part.{Part}
use Rattle.node_ops.specs.declared.part.Part.TheVariants as part
use Rattle.node_ops.specs.declared.part.Way.{Way}
use Rattle.node_ops.specs.declared.part.Way.TheVariants as ways
use Rattle.permutation.specs.declared.load.LoadPermutation.{LoadPermutation}
use Rattle.permutation.specs.Loads.{load_turned}
use Rattle.permutation.specs.Stores.{store_turned}
use Rattle.node_ops.specs.PartSteps.{after_bitmap, after_word, store_on, part_words, part_walked, part_ordered, part_held, part_dated, part_looked, ordering_turned, seen_at, early_of, placed_of, reading_turned, words_placed}
use Rattle.node_ops.proofs.PartStages.{part_only}
use Rattle.node_ops.proofs.PartWalks.{WalksOn, walks_on}
use Rattle.node_ops.specs.Asked.{op_in, op_of_finish}
use Rattle.node_ops.specs.CallStages.{behind_sight, part_stage, reading_at_held, reading_whole, stage_by, stage_of, lookup_at_stage, lookup_stage, finish_at_held, finish_stage, found_full}
use Rattle.split_merge.specs.declared.splitting.Split.{Split}
use Rattle.split_merge.specs.declared.splitting.SplitDone.{SplitDone}
use Rattle.split_merge.specs.Splits.{split_turned}
use Rattle.split_merge.specs.SplitStages.{split_footing}
use Rattle.split_merge.specs.OfSplits.{IsOfSplit}
use Rattle.split_merge.proofs.OfSplits.{stages_are_of_splits}
use Rattle.node_ops.proofs.SplitFacts.{split_uncounted, split_unplaced}
use Rattle.node_ops.proofs.MergeFacts.{placed_still, merging_stage, merge_placed, merge_limited, merge_uncounted, goes_on_stage}
use Rattle.cat_history.specs.declared.op.Change.{Change}
use Rattle.cat_history.specs.declared.op.NameOp.{NameOp}
use Rattle.node_ops.specs.Endings.{place_for, limit_in, IsPutOp, IsDone, DoneIsCounted, IsSpent, SpentIsLate, NoFreeIsOfPuts, RefusedIsUncounted, GoesOn, TurnsKeepPlace, LastCountsNothing, PlacedIsInTime}
use Rattle.node_ops.proofs.OpLaw.{lookup_counts}
use Rattle.call_stages.specs.Stages.{Sight}
use Rattle.data_list.specs.WalkStages.{live_sight}
use Rattle.node_ops.specs.CallStages.{behind_sight}
use Rattle.node_ops.proofs.OnlyRead.{looks_only, uncounted}
use Rattle.node_ops.proofs.WriteTurns.{fill_turn_is}

-- a look-up has no place
pub lookup_placed : (kept : Sight) (call : Call) (at : LookupAt) → placed_in (lookup_at_stage kept call at) ≡ None
lookup_placed kept call at = (looks_only kept call at).placed

pub reached : (limit : Option ℕ) (clock : ℕ) → is_spent limit clock ≡ true → IsSomeAnd limit (λ most. most ≤ clock)
reached None clock e = absurd (cc)
reached (Some most) clock e = leb-true most clock e

-- how a look-up ends a call
abbrev pub EndsEarly : Option ℕ → Once Placed → Type 0
EndsEarly limit (once.Done placed) = ⊥
EndsEarly limit (once.Spent clock) = IsSomeAnd limit (λ most. most ≤ clock)
EndsEarly limit (once.Worn node word) = Unit {0}
EndsEarly limit (once.Again why) = (why ≢ again.NoFree) × (why ≢ again.LogFull)

abbrev pub LooksEnd : Option ℕ → Turn Lookup Looked → Type 0
LooksEnd limit (Go lookup) = Unit {0}
LooksEnd limit (Done (looked.Early answer)) = EndsEarly limit answer
LooksEnd limit (Done (looked.Found found)) = Unit {0}

-- as it ends a part of a range scan
pub early_placed : (limit : Option ℕ) (answer : Once Placed) → LooksEnd limit (Done (looked.Early answer)) → placed_of (early_of answer) ≡ answer
early_placed limit (once.Done placed) ends = absurd ends
early_placed limit (once.Spent clock) ends = refl
early_placed limit (once.Worn node word) ends = refl
early_placed limit (once.Again why) ends = refl

not_no_free : (walk : Walk) (x : ℕ) (why : Again) → WalkGivesUp walk x why → (why ≢ again.NoFree) × (why ≢ again.LogFull)
not_no_free walk x again.NoFree gives = absurd gives
not_no_free walk x (again.Locked node word) gives = (λ is. cc, λ is. cc)
not_no_free walk x (again.Hops count) gives = (λ is. cc, λ is. cc)
not_no_free walk x (again.Moved node first second) gives = absurd gives
not_no_free walk x (again.NeedsSplit node) gives = absurd gives
not_no_free walk x again.LogFull gives = absurd gives
not_no_free walk x (again.Held word) gives = absurd gives
not_no_free walk x (again.Epoch first second) gives = absurd gives

module _ (call : Call) where
  abbrev Ends : Turn Lookup Looked → Type 0
  Ends = LooksEnd call.limit

  came : (target : Target) → Ends (came_to call target)
  came target = came_at call.limit
    where
      came_at : (limit : Option ℕ) → Ends (came_by limit call target)
      came_at None = tt
      came_at (Some most) =
          let g = call.view.generation in
          elim (is_worn_word target.version g) as (λ b. Ends (cond b (ends (once.Worn target.node target.version))
          (goes_to (at_node call target.node target.hops) (look.Lock (sighting_of target) (locked_word g (kept_count target.version g)))))) [ true ↦ tt | false ↦ tt ]

  floored_so : (turn : Turn Floor ℕ) → Ends (floored call turn)
  floored_so (Go floor) = tt
  floored_so (Done node) = tt

  walked_so : (walk : Walk) (at : WalkAt) (x : ℕ) (turn : Turn Walk Walked) → HopsAt walk at x turn → Ends (walked_on call turn)
  walked_so walk at x (Go next) hops = tt
  walked_so walk at x (Done (walked.Again why)) hops = not_no_free walk x why hops
  walked_so walk at x (Done (walked.Target target)) hops = came target

  compared : (hold : Hold) (directory : Directory) (left : ℕ) (slot : Option ℕ) → Ends (candidate_turned call hold directory left slot)
  compared hold directory left None = tt
  compared hold directory left (Some slot) = tt

  pub looks_end : (at : LookupAt) (x : ℕ) → IsLookupAt call at → Ends (lookup_at_turned call at x)
  looks_end (look.Floor floor) x here = floored_so (floor_turned floor x)
  looks_end (look.Walk walk) x here = walked_so walk walk.at x (walk_turned walk x) (walks_hop walk x here.sound)
  looks_end (look.Read seen) x here = tt
  looks_end (look.Lock seen locked) x here = elim (x == seen.version) as (λ b. Ends (cond b (goes_to call (look.Clock locked)) (ends (once.Again (again.Moved call.node seen.version x))))) [
    | true ↦ tt
    | false ↦ (λ is. cc, λ is. cc)
  ]
  looks_end (look.Clock locked) x here =
      let hold : Hold = record { locked = locked; clock = x } in
      elim (is_spent call.limit x) as (λ b. Ends (cond b (goes_to call (look.Spent hold)) (goes_to call (look.Bitmap hold)))) [ true ↦ tt | false ↦ tt ]
  looks_end (look.Spent hold) x here = reached call.limit hold.clock here.1
  looks_end (look.Bitmap hold) x here = tt
  looks_end (look.Prints hold bitmap prints k) x here = grind (arith, compared)
  looks_end (look.Name hold directory left slot k) x here = grind (arith, compared)
  looks_end (look.Value hold directory slot) x here = tt

-- how a call comes to its answer
abbrev EndsBy : Running → Once Placed → Type 0
EndsBy running (once.Done placed) = IsDone running placed
EndsBy running (once.Spent clock) = IsSpent running clock
EndsBy running (once.Worn node word) = placed_in (stage_of running) ≡ None
EndsBy running (once.Again why) = (placed_in (stage_of running) ≡ None) × (why ≡ again.NoFree → IsPutOp (op_in running))

-- a turn that goes on, or ends the call
abbrev pub Turns : Running → ℕ → Turn Running (Once Placed) → Type 0
Turns running x (Go next) = GoesOn (running_call running).view.layout (stage_of running) (running_asks running) x (stage_of next) (counted (stage_of running))
Turns running x (Done answer) = EndsBy running answer × (counted (stage_of running) ≡ None)

-- it has no place, nor has what it goes on as
keeps_none : (running : Running) (x : ℕ) (next : Running) → counted (stage_of running) ≡ None → placed_in (stage_of running) ≡ None → placed_in (stage_of next) ≡ None → Turns running x (Go next)
keeps_none running x next uncounted unplaced still = subst (GoesOn (running_call running).view.layout (stage_of running) (running_asks running) x (stage_of next)) (sym uncounted) (still ∙ sym unplaced)

ends_early : (running : Running) (x : ℕ) (limit : Option ℕ) (answer : Once Placed) → counted (stage_of running) ≡ None → placed_in (stage_of running) ≡ None → limit ≡ (running_call running).limit
    → EndsEarly limit answer → Turns running x (Done answer)
ends_early running x limit (once.Done placed) uncounted unplaced same early = absurd early
ends_early running x limit (once.Spent clock) uncounted unplaced same early =
    (record { unplaced = unplaced; reached = subst (λ (o : Option ℕ). IsSomeAnd o (λ most. most ≤ clock)) same early }, uncounted)
ends_early running x limit (once.Worn node word) uncounted unplaced same early = (unplaced, uncounted)
ends_early running x limit (once.Again why) uncounted unplaced same early = ((unplaced, λ is. absurd (early.0 is)), uncounted)

lookup_uncounted : (lookup : Lookup) → counted (lookup_stage lookup) ≡ None
lookup_uncounted lookup = lookup_counts (live_sight []) lookup.call lookup.at

lookup_unplaced : (lookup : Lookup) → placed_in (lookup_stage lookup) ≡ None
lookup_unplaced lookup = lookup_placed (live_sight []) lookup.call lookup.at

get_turns : (get : Get) (x : ℕ) → IsRunning (Getting get) → Turns (Getting get) x (running_turned (Getting get) x)
get_turns (get.Looking lookup) x is = at (lookup_turned lookup x) (looks_end lookup.call lookup.at x is.0.here)
  where
    at : (turn : Turn Lookup Looked) → LooksEnd lookup.call.limit turn → Turns (Getting (get.Looking lookup)) x (wrapped Getting (get_looked lookup.call turn))
    at (Go next) early = keeps_none (Getting (get.Looking lookup)) x (Getting (get.Looking next)) (lookup_uncounted lookup) (lookup_unplaced lookup) (lookup_unplaced next)
    at (Done (looked.Early answer)) early = ends_early (Getting (get.Looking lookup)) x lookup.call.limit answer (lookup_uncounted lookup) (lookup_unplaced lookup) refl early
    at (Done (looked.Found found)) early = keeps_none (Getting (get.Looking lookup)) x (Getting (get.Checking lookup.call found.hold (value_of found.hit))) (lookup_uncounted lookup) (lookup_unplaced lookup) refl
get_turns (get.Checking call hold old) x is = elim (x == hold.locked) as (λ b. Turns (Getting (get.Checking call hold old)) x
    (Done (cond b (once.Done (record { old = old; place = hold.clock; hops = call.hops })) (once.Again (again.Moved call.node hold.locked x))))) [
      | true ↦ (record { place = refl; limit = refl; hops = refl }, refl)
      | false ↦ ((refl, λ same. absurd (cc)), refl)
    ]

-- what a write has left to do once its store is made
abbrev FillTurns : Turn Fill Finish → Type 0
FillTurns (Go fill) = Unit {0}
FillTurns (Done finish) = placed_in (finish_stage finish) ≡ None

fill_turns : (fill : Fill) (x : ℕ) → FillTurns (fill_turned fill x)
fill_turns fill x = fill_turn_is FillTurns fill fill.at x (λ next. tt) (λ is. refl)

-- the end of a write: its change is counted, and then told at its place
abbrev FinishTurns : Finish → ℕ → Turn Finish (Once Placed) → Type 0
FinishTurns finish x (Go next) = GoesOn finish.call.view.layout (finish_stage finish) (finish_asks finish) x (finish_stage next) (counted (finish_stage finish))
FinishTurns finish x (Done (once.Done placed)) =
    (placed_in (finish_stage finish) ≡ place_for (change_of (op_of_finish finish finish.new)) placed.place)
    × (limit_in (finish_stage finish) ≡ finish.call.limit) × (placed.hops ≡ finish.call.hops) × (counted (finish_stage finish) ≡ None)
FinishTurns finish x (Done _) = ⊥

finish_turns : (finish : Finish) (x : ℕ) → FinishTurns finish x (finish_turned finish x)
finish_turns finish x = at finish.at
  where
    fenced : (line : ℕ) (fence : Fence) (o : Option Fence) → FinishTurns (record finish { at = finish_at.Fence line fence }) x (finish_fenced (record finish { at = finish_at.Fence line fence }) line o)
    fenced line fence (Some next) = refl
    fenced line fence None = refl

    writes : (new : Option ℕ) (place : ℕ) → Some place ≡ place_for (change_of (op_of_finish finish new)) place
    writes (Some value) place = refl
    writes None place = refl

    at : (at : FinishAt) → FinishTurns (record finish { at = at }) x (finish_at_turned (record finish { at = at }) at x)
    at (finish_at.Fence line fence) = fenced line fence (fence_next fence x)
    at finish_at.Add = (refl, refl, refl)
    at (finish_at.Unlock place) = (writes finish.new place, refl, refl, refl)

-- it ends the call that makes it
finish_ends : (m : Running) (finish : Finish) (x : ℕ) (answer : Once Placed) → stage_of m ≡ finish_stage finish → running_call m ≡ finish.call → op_in m ≡ op_of_finish finish finish.new
    → FinishTurns finish x (Done answer) → Turns m x (Done answer)
finish_ends m finish x (once.Done placed) stage call op turns = (
  record {
    place = ap placed_in stage ∙ turns.0 ∙ ap (λ (o : NameOp). place_for (change_of o) placed.place) (sym op);
    limit = ap limit_in stage ∙ turns.1 ∙ ap (λ (c : Call). c.limit) (sym call);
    hops = turns.2 ∙ ap (λ (c : Call). c.hops) (sym call);
  },
  ap counted stage ∙ turns.3,
)
finish_ends m finish x (once.Spent clock) stage call op turns = absurd turns
finish_ends m finish x (once.Worn node word) stage call op turns = absurd turns
finish_ends m finish x (once.Again why) stage call op turns = absurd turns

put_turns : (put : Put) (x : ℕ) → IsRunning (Putting put) → Turns (Putting put) x (running_turned (Putting put) x)
put_turns (put.Single (single_put.Looking lookup value)) x is = at (lookup_turned lookup x) (looks_end lookup.call lookup.at x is.0.here)
  where
    full : (found : Found) (hit : Option Hit) → placed_in (stage_of (Putting (put_full lookup.call found.hold found.directory.bitmap hit value))) ≡ None
    full found (Some hit) = refl
    full found None = refl

    into : (found : Found) (clear : Option ℕ) → placed_in (stage_of (Putting (put_into lookup.call found value clear))) ≡ None
    into found (Some slot) = refl
    into found None = full found found.hit

    at : (turn : Turn Lookup Looked) → LooksEnd lookup.call.limit turn → Turns (Putting (put.Single (single_put.Looking lookup value))) x (wrapped Putting (put_looked lookup.call value turn))
    at (Go next) early = keeps_none (Putting (put.Single (single_put.Looking lookup value))) x (Putting (put.Single (single_put.Looking next value))) (lookup_uncounted lookup) (lookup_unplaced lookup) (lookup_unplaced next)
    at (Done (looked.Early answer)) early = ends_early (Putting (put.Single (single_put.Looking lookup value))) x lookup.call.limit answer (lookup_uncounted lookup) (lookup_unplaced lookup) refl early
    at (Done (looked.Found found)) early =
        let clear = lowest_clear found.directory.bitmap lookup.call.view.layout.slots in
        keeps_none (Putting (put.Single (single_put.Looking lookup value))) x (Putting (put_into lookup.call found value clear)) (lookup_uncounted lookup) (lookup_unplaced lookup) (into found clear)
put_turns (put.Single (single_put.Filling fill)) x is = at (fill_turned fill x) (fill_turns fill x)
  where
    at : (turn : Turn Fill Finish) → FillTurns turn → Turns (Putting (put.Single (single_put.Filling fill))) x (wrapped Putting (put_filled turn))
    at (Go next) turns = refl
    at (Done finish) turns = turns
put_turns (put.Single (single_put.Replacing call hold bitmap hit value)) x is = refl
put_turns (put.Single (single_put.Finishing finish)) x is = at (finish_turned finish x) (finish_turns finish x)
  where
    at : (turn : Turn Finish (Once Placed)) → FinishTurns finish x turn → Turns (Putting (put.Single (single_put.Finishing finish))) x (wrapped Putting (put_finished turn))
    at (Go next) turns = turns
    at (Done answer) turns = finish_ends (Putting (put.Single (single_put.Finishing finish))) finish x answer refl refl refl turns
put_turns (put.Splitting call hold bitmap value split) x is = at (split_turned split x)
  where
    has : (m : Split) → IsOfSplit (found_full call hold bitmap) (split_footing (found_full call hold bitmap) m).stage
    has m = stages_are_of_splits (found_full call hold bitmap) m

    at : (turn : Turn Split SplitDone) → Turns (Putting (put.Splitting call hold bitmap value split)) x (wrapped Putting (put_split call hold bitmap value turn))
    at (Go next) = keeps_none (Putting (put.Splitting call hold bitmap value split)) x (Putting (put.Splitting call hold bitmap value next)) (split_uncounted _ _ refl (has split)) (split_unplaced _ _ refl (has split)) (split_unplaced _ _ refl (has next))
    at (Done answer) = ((split_unplaced _ _ refl (has split), λ same. tt), split_uncounted _ _ refl (has split))

-- a stage with the same place goes on alike
same_place : (finish : Finish) (x : ℕ) (next other : Stage) → placed_in other ≡ placed_in next → (change : Option Change)
    → GoesOn finish.call.view.layout (finish_stage finish) (finish_asks finish) x next change → GoesOn finish.call.view.layout (finish_stage finish) (finish_asks finish) x other change
same_place finish x next other same None on = same ∙ on
same_place finish x next other same (Some change) on = (on.0, on.1, same ∙ on.2)

del_turns : (del : Del) (x : ℕ) → IsRunning (Deleting del) → Turns (Deleting del) x (running_turned (Deleting del) x)
del_turns (del.Single (single_del.Looking lookup)) x is = at (lookup_turned lookup x) (looks_end lookup.call lookup.at x is.0.here)
  where
    hits : (found : Found) (hit : Option Hit) → placed_in (stage_of (Deleting (del_hit lookup.call found.hold found.directory.bitmap hit))) ≡ None
    hits found (Some hit) =
        let bitmap = found.directory.bitmap in
        elim (ltb (lookup.call.view.layout.slots / 2) (names_left lookup.call bitmap hit)) as (λ b.
        placed_in (stage_of (Deleting (cond b (del.Single (single_del.Clearing lookup.call found.hold bitmap hit None)) (del.Single (single_del.Next lookup.call found.hold bitmap hit))))) ≡ None) [ true ↦ refl | false ↦ refl ]
    hits found None = refl

    at : (turn : Turn Lookup Looked) → LooksEnd lookup.call.limit turn → Turns (Deleting (del.Single (single_del.Looking lookup))) x (wrapped Deleting (del_looked lookup.call turn))
    at (Go next) early = keeps_none (Deleting (del.Single (single_del.Looking lookup))) x (Deleting (del.Single (single_del.Looking next))) (lookup_uncounted lookup) (lookup_unplaced lookup) (lookup_unplaced next)
    at (Done (looked.Early answer)) early = ends_early (Deleting (del.Single (single_del.Looking lookup))) x lookup.call.limit answer (lookup_uncounted lookup) (lookup_unplaced lookup) refl early
    at (Done (looked.Found found)) early =
        keeps_none (Deleting (del.Single (single_del.Looking lookup))) x (Deleting (del_hit lookup.call found.hold found.directory.bitmap found.hit)) (lookup_uncounted lookup) (lookup_unplaced lookup) (hits found found.hit)
del_turns (del.Single (single_del.Next call hold bitmap hit)) x is =
    elim (x == 0) as (λ b. placed_in (stage_of (Deleting (cond b (del.Single (single_del.Clearing call hold bitmap hit None)) (del.Single (single_del.Taking call hold bitmap hit (take_from call.view.layout call.view.caller)))))) ≡ None) [ true ↦ refl | false ↦ refl ]
del_turns (del.Single (single_del.Taking call hold bitmap hit take)) x is = at (take_turned take x)
  where
    at : (turn : Turn Take Taken) → Turns (Deleting (del.Single (single_del.Taking call hold bitmap hit take))) x (wrapped Deleting (del_taken call hold bitmap hit turn))
    at (Go next) = refl
    at (Done (Line line)) = refl
    at (Done Full) = refl
del_turns (del.Single (single_del.Refusing call hold bitmap hit)) x is = ((refl, λ same. absurd (cc)), refl)
del_turns (del.Single (single_del.Clearing call hold bitmap hit line)) x is = refl
del_turns (del.Single (single_del.Finishing finish line)) x is = at (finish_turned finish x) (finish_turns finish x)
  where
    at : (turn : Turn Finish (Once Placed)) → FinishTurns finish x turn → Turns (Deleting (del.Single (single_del.Finishing finish line))) x (wrapped Deleting (del_finished line turn))
    at (Go next) turns = same_place finish x (finish_stage next) (stage_of (Deleting (goes_on next line))) (ap placed_in (goes_on_stage next line)) (counted (finish_stage finish)) turns
    at (Done answer) turns = finish_ends (Deleting (del.Single (single_del.Finishing finish line))) finish x answer refl refl refl turns
del_turns (del.Merging call hold old place merge) x is = at (merge_turned merge x)
  where
    uncounted : counted (stage_of (Deleting (del.Merging call hold old place merge))) ≡ None
    uncounted = merge_uncounted _ _ (placed_still call old place) (merging_stage call old place merge)

    has_it : (m : Merge) → placed_in (stage_of (Deleting (del.Merging call hold old place m))) ≡ Some place
    has_it m = merge_placed _ _ (merging_stage call old place m)

    at : (turn : Turn Merge Merged) → Turns (Deleting (del.Merging call hold old place merge)) x (wrapped Deleting (del_merged call hold old place turn))
    at (Go next) = subst (GoesOn call.view.layout (stage_of (Deleting (del.Merging call hold old place merge))) (merge_asks merge) x (stage_of (Deleting (del.Merging call hold old place next)))) (sym uncounted)
        (has_it next ∙ sym (has_it merge))
    at (Done merged) = (record { place = has_it merge; limit = merge_limited _ _ (merging_stage call old place merge); hops = refl }, uncounted)

-- a part has no place, and counts nothing
part_counts : (p : Part) → counted (part_stage p) ≡ None
part_counts p = uncounted (part_stage p) (part_only p).pending

part_placed : (p : Part) → placed_in (part_stage p) ≡ None
part_placed p = (part_only p).placed

goes_part : (p next : Part) (x : ℕ) → Turns (Parting p) x (Go (Parting next))
goes_part p next x = keeps_none (Parting p) x (Parting next) (part_counts p) (part_placed p) (part_placed next)

moved_part : (p : Part) (x n first second : ℕ) → Turns (Parting p) x (Done (once.Again (again.Moved n first second)))
moved_part p x n first second = ((part_placed p, λ same. absurd (cc)), part_counts p)

-- its clock was below its limit, which is none
limit_by : (way : Way) (n w : ℕ) (kept : Sight) (h : Held) → limit_in (stage_by way n w kept h) ≡ h.limit
limit_by (ways.Served words) n w kept h = refl
limit_by (ways.Held words) n w kept h = refl
limit_by ways.Alone n w kept h = refl

part_turns : (p : Part) (x : ℕ) → IsRunning (Parting p) → Turns (Parting p) x (running_turned (Parting p) x)
part_turns (part.Looking lookup count) x is = at (lookup_turned lookup x) (walks_on lookup.call lookup.at x is.1 is.2) (looks_end lookup.call lookup.at x is.0.here)
  where
    at : (turn : Turn Lookup Looked) → WalksOn turn → LooksEnd lookup.call.limit turn → Turns (Parting (part.Looking lookup count)) x (wrapped_part (part_looked count turn))
    at (Go next) way early = goes_part (part.Looking lookup count) (part_walked next count (seen_at next.at)) x
    at (Done (looked.Early answer)) way early =
        subst (λ (a : Once Placed). Turns (Parting (part.Looking lookup count)) x (Done a)) (sym (early_placed lookup.call.limit answer early))
        (ends_early (Parting (part.Looking lookup count)) x lookup.call.limit answer (lookup_counts (live_sight []) lookup.call lookup.at) (lookup_placed (live_sight []) lookup.call lookup.at) refl early)
    at (Done (looked.Found found)) way early = absurd way
part_turns (part.Ordering call seen count load) x is = at (load_turned load x)
  where
    at : (turn : Turn LoadPermutation (Option (List ℕ))) → Turns (Parting (part.Ordering call seen count load)) x (wrapped_part (ordering_turned call seen count turn))
    at (Go next) = goes_part (part.Ordering call seen count load) (part.Ordering call seen count next) x
    at (Done order) = goes_part (part.Ordering call seen count load) (part_ordered call seen count order) x
part_turns (part.Locking call seen count locked) x is = elim (x == seen.version) as (λ b. Turns (Parting (part.Locking call seen count locked)) x
    (wrapped_part (cond b (Go (part_held call seen count locked)) (Done (once.Again (again.Moved call.node seen.version x)))))) [
      | true ↦ goes_part (part.Locking call seen count locked) (part_held call seen count locked) x
      | false ↦ moved_part (part.Locking call seen count locked) x call.node seen.version x
    ]
part_turns (part.Dating call seen count way) x is = goes_part (part.Dating call seen count way) (part_dated call seen count way x) x
part_turns (part.Reading reading) x is = at reading.at
  where
    ends_with : (at : ReadingAt) → reading_at_held (record reading { at = at }) at ≡ reading_whole reading → Turns (Parting (part.Reading (record reading { at = at }))) x (Done (once.Done (words_placed (part_words (record reading { at = at })))))
    ends_with at same = (
      record {
        place = part_placed (part.Reading (record reading { at = at }));
        limit = limit_by reading.way reading.call.node reading.hold.locked (behind_sight reading.behind) (reading_at_held (record reading { at = at }) at) ∙ ap (λ (h : Held). h.limit) same;
        hops = refl;
      },
      part_counts (part.Reading (record reading { at = at })),
    )

    at : (at : ReadingAt) → Turns (Parting (part.Reading (record reading { at = at }))) x (wrapped_part (reading_turned (record reading { at = at }) at x))
    at read.Clock = goes_part (part.Reading (record reading { at = read.Clock })) (part.Reading (record reading { hold = record { locked = reading.hold.locked; clock = x }; at = read.Bitmap })) x
    at read.Bitmap = goes_part (part.Reading (record reading { at = read.Bitmap })) (part.Reading (after_bitmap (record reading { at = read.Bitmap }) x)) x
    at (read.Load slot word) = goes_part (part.Reading (record reading { at = read.Load slot word })) (part.Reading (after_word (record reading { at = read.Load slot word }) slot word x)) x
    at (read.Store store) = goes_part (part.Reading (record reading { at = read.Store store })) (part.Reading (store_on (record reading { at = read.Store store }) (store_turned store x))) x
    at read.Unlock = ends_with read.Unlock refl
    at read.Check = elim (x == reading.hold.locked) as (λ b. Turns (Parting (part.Reading (record reading { at = read.Check }))) x
        (Done (placed_of (cond b (once.Done (part_words (record reading { at = read.Check }))) (once.Again (again.Moved reading.call.node reading.hold.locked x)))))) [
          | true ↦ ends_with read.Check refl
          | false ↦ moved_part (part.Reading (record reading { at = read.Check })) x reading.call.node reading.hold.locked x
        ]

turns : (running : Running) (x : ℕ) → IsRunning running → Turns running x (running_turned running x)
turns (Getting get) x is = get_turns get x is
turns (Putting put) x is = put_turns put x is
turns (Deleting del) x is = del_turns del x is
turns (Parting p) x is = part_turns p x is

ended : (running : Running) (x : ℕ) (answer : Once Placed) → IsRunning running → running_turned running x ≡ Done answer → EndsBy running answer × (counted (stage_of running) ≡ None)
ended running x answer is ends = subst (Turns running x) ends (turns running x is)

pub done_is_counted : DoneIsCounted
done_is_counted running x placed is last = (ended running x (once.Done placed) is last).0

pub spent_is_late : SpentIsLate
spent_is_late running x clock is last = (ended running x (once.Spent clock) is last).0

pub no_free_is_of_puts : NoFreeIsOfPuts
no_free_is_of_puts running x is last = (ended running x (once.Again again.NoFree) is last).0.1 refl

pub refused_is_uncounted : RefusedIsUncounted
refused_is_uncounted running x (once.Done placed) refused is ends_so = absurd refused
refused_is_uncounted running x (once.Spent clock) refused is ends_so = absurd refused
refused_is_uncounted running x (once.Worn node word) refused is ends_so = (ended running x (once.Worn node word) is ends_so).0
refused_is_uncounted running x (once.Again why) refused is ends_so = (ended running x (once.Again why) is ends_so).0.0

pub turns_keep_place : TurnsKeepPlace
turns_keep_place running next x is goes = subst (Turns running x) goes (turns running x is)

pub last_counts_nothing : LastCountsNothing
last_counts_nothing running x answer is last = (ended running x answer is last).1

-- a write in its place is below its limit
finish_in_time : (finish : Finish) (at : FinishAt) → (finish_at_held finish at).limit ≡ finish.call.limit
finish_in_time finish (finish_at.Fence line fence) = refl
finish_in_time finish finish_at.Add = refl
finish_in_time finish (finish_at.Unlock place) = refl

pub placed_is_in_time : PlacedIsInTime
placed_is_in_time (Getting (get.Looking lookup)) placed = absurd (placed (lookup_unplaced lookup))
placed_is_in_time (Getting (get.Checking call hold old)) placed = refl
placed_is_in_time (Putting (put.Single (single_put.Looking lookup value))) placed = absurd (placed (lookup_unplaced lookup))
placed_is_in_time (Putting (put.Single (single_put.Filling fill))) placed = refl
placed_is_in_time (Putting (put.Single (single_put.Replacing call hold bitmap hit value))) placed = refl
placed_is_in_time (Putting (put.Single (single_put.Finishing finish))) placed = finish_in_time finish finish.at
placed_is_in_time (Putting (put.Splitting call hold bitmap value split)) placed =
    absurd (placed (split_unplaced _ _ refl (stages_are_of_splits (found_full call hold bitmap) split)))
placed_is_in_time (Deleting (del.Single (single_del.Looking lookup))) placed = absurd (placed (lookup_unplaced lookup))
placed_is_in_time (Deleting (del.Single (single_del.Next call hold bitmap hit))) placed = refl
placed_is_in_time (Deleting (del.Single (single_del.Taking call hold bitmap hit take))) placed = refl
placed_is_in_time (Deleting (del.Single (single_del.Refusing call hold bitmap hit))) placed = refl
placed_is_in_time (Deleting (del.Single (single_del.Clearing call hold bitmap hit line))) placed = refl
placed_is_in_time (Deleting (del.Single (single_del.Finishing finish line))) placed = finish_in_time finish finish.at
placed_is_in_time (Deleting (del.Merging call hold old place merge)) placed = merge_limited _ _ (merging_stage call old place merge)
placed_is_in_time (Parting p) placed = absurd (placed (part_placed p))
