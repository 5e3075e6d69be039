-- A call comes by its node and its hops from its walk, and keeps them.
use Rattle.std.proofs.Common.{◌≡◌, ℕ, ◌/◌, true, false, cond, ltb, Option, Some, None, refl, subst, ◌∙◌, arith, sym, List}
use Rattle.std.specs.Prelude.{◌==◌}
use Rattle.pm_words.specs.declared.again.Again.TheVariants.{Moved}
use Rattle.pm_words.specs.declared.machine.Turn.{Turn}
use Rattle.pm_words.specs.declared.machine.Turn.TheVariants.{Go, Done}
use Rattle.version_lock.specs.Versions.{kept_count, locked_word, is_worn_word}
use Rattle.data_node.specs.Bits.{lowest_clear}
use Rattle.call_stages.specs.declared.once.Once.{Once}
use Rattle.call_stages.specs.declared.once.Once.TheVariants as once
use Rattle.call_stages.specs.declared.once.Placed.{Placed}
use Rattle.data_list.specs.declared.target.Walked.{Walked}
use Rattle.data_list.specs.declared.target.Walked.TheVariants as walked
use Rattle.data_list.specs.declared.walk.Walk.{Walk}
use Rattle.data_list.specs.Walks.{sighting_of, walk_turned}
use Rattle.tree_floor.specs.declared.floor.Floor.{Floor}
use Rattle.tree_floor.specs.Floors.{floor_turned}
use Rattle.node_ops.specs.declared.call.Call.{Call}
use Rattle.node_ops.specs.declared.lookup.Hold.{Hold}
use Rattle.node_ops.specs.declared.lookup.Hit.{Hit}
use Rattle.node_ops.specs.declared.lookup.Directory.{Directory}
use Rattle.node_ops.specs.declared.lookup.Found.{Found}
use Rattle.node_ops.specs.declared.lookup.Looked.{Looked}
use Rattle.node_ops.specs.declared.lookup.Looked.TheVariants as looked
use Rattle.node_ops.specs.declared.lookup.Lookup.{Lookup}
use Rattle.node_ops.specs.declared.lookup.LookupAt.{LookupAt}
use Rattle.node_ops.specs.declared.lookup.LookupAt.TheVariants as look
use Rattle.node_ops.specs.declared.fill.Fill.{Fill}
use Rattle.node_ops.specs.declared.finish.Finish.{Finish}
use Rattle.node_ops.specs.declared.finish.FinishAt.{FinishAt}
use Rattle.node_ops.specs.declared.finish.FinishAt.TheVariants as finish_at
use Rattle.node_ops.specs.declared.get.Get.{Get}
use Rattle.node_ops.specs.declared.get.Get.TheVariants as get
use Rattle.node_ops.specs.declared.put.Put.{Put}
use Rattle.node_ops.specs.declared.put.Put.TheVariants as put
use Rattle.node_ops.specs.declared.single_put.SinglePut.TheVariants as single_put
use Rattle.node_ops.specs.declared.del.Del.{Del}
use Rattle.node_ops.specs.declared.del.Del.TheVariants as del
use Rattle.node_ops.specs.declared.single_del.SingleDel.TheVariants as single_del
use Rattle.node_ops.specs.declared.running.Running.{Running}
use Rattle.node_ops.specs.declared.running.Running.TheVariants.{Getting, Putting, Deleting, Parting}
use Rattle.node_ops.specs.Calls.{at_node}
use Rattle.node_ops.specs.LookupSteps.{came_by, is_spent, candidate_turned, floored, walked_on, goes_to, ends, lookup_turned, lookup_at_turned}
use Rattle.node_ops.specs.FinishSteps.{finish_turned}
use Rattle.node_ops.specs.FillSteps.{fill_turned}
use Rattle.node_ops.specs.GetSteps.{get_looked}
use Rattle.node_ops.specs.PutSteps.{put_call, put_looked, put_into, put_full, put_filled, put_finished, put_split}
use Rattle.split_merge.specs.declared.splitting.Split.{Split}
use Rattle.split_merge.specs.declared.splitting.SplitDone.{SplitDone}
use Rattle.split_merge.specs.Splits.{split_turned}
use Rattle.smo_log.specs.declared.take.Take.{Take}
use Rattle.smo_log.specs.declared.take.Taken.{Taken}
use Rattle.smo_log.specs.declared.take.Taken.TheVariants.{Line, Full}
use Rattle.smo_log.specs.Takes.{take_from, take_turned}
use Rattle.split_merge.specs.declared.merging.Merge.{Merge}
use Rattle.split_merge.specs.declared.merging.Merged.{Merged}
use Rattle.split_merge.specs.Merges.{merge_turned}
use Rattle.node_ops.specs.DelSteps.{names_left, del_call, del_looked, del_hit, del_taken, del_finished, del_merged, goes_on, merges_at}
use Rattle.node_ops.specs.RunningSteps.{running_call, running_turned, wrapped, wrapped_part}
use Rattle.node_ops.specs.declared.part.ReadingAt.{ReadingAt}
use Rattle.node_ops.specs.declared.part.ReadingAt.TheVariants as read
use Rattle.node_ops.specs.declared.part.Part.{Part}
use Rattle.node_ops.specs.declared.part.Part.TheVariants as part
use Rattle.data_list.specs.declared.target.Sighting.{Sighting}
use Rattle.permutation.specs.declared.load.LoadPermutation.{LoadPermutation}
use Rattle.permutation.specs.declared.store.StorePermutation.{StorePermutation}
use Rattle.permutation.specs.Loads.{load_turned}
use Rattle.permutation.specs.Stores.{store_turned}
use Rattle.node_ops.specs.PartSteps.{part_call, part_walked, part_ordered, part_held, part_looked, ordering_turned, seen_at, store_on, with_word, reading_turned}
use Rattle.pm_words.specs.declared.again.Again.TheVariants as again
use Rattle.node_ops.proofs.PartSound.{goes_call}
use Rattle.node_ops.proofs.PartTurns.{ordered_is}
use Rattle.node_ops.proofs.WriteTurns.{fill_turn_is, finish_turn_is}
use Rattle.node_ops.specs.Landings.{lookup_walk, walk_in, LandsBy, Lands, TurnsLand}

-- after a turn of a look-up that was on this walk, if on any
abbrev LooksLand : Call → ℕ → Option Walk → Turn Lookup Looked → Type 0
LooksLand call x walk (Go lookup) = Lands call x walk lookup.call
LooksLand call x walk (Done (looked.Early answer)) = Unit {0}
LooksLand call x walk (Done (looked.Found found)) = Lands call x walk call

abbrev WalksLand : Call → Turn Walk Walked → Turn Lookup Looked → Type 0
WalksLand call turn (Go lookup) = LandsBy call lookup.call turn
WalksLand call turn (Done (looked.Early answer)) = Unit {0}
WalksLand call turn (Done (looked.Found found)) = ⊥

module _ (call : Call) where
  walks_land : (turn : Turn Walk Walked) → WalksLand call turn (walked_on call turn)
  walks_land (Go walk) = refl
  walks_land (Done (walked.Again why)) = tt
  walks_land (Done (walked.Target target)) = at call.limit
    where
      at : (limit : Option ℕ) → WalksLand call (Done (walked.Target target)) (came_by limit call target)
      at None = refl
      at (Some most) =
          let g = call.view.generation in
          elim (is_worn_word target.version g) as (λ b. WalksLand call (Done (walked.Target target)) (cond b (ends (once.Worn target.node target.version))
          (goes_to (at_node call target.node target.hops) (look.Lock (sighting_of target) (locked_word g (kept_count target.version g)))))) [ true ↦ tt | false ↦ refl ]

  walked_land : (walk : Walk) (x : ℕ) (turn : Turn Lookup Looked) → WalksLand call (walk_turned walk x) turn → LooksLand call x (Some walk) turn
  walked_land walk x (Go lookup) lands = lands
  walked_land walk x (Done (looked.Early answer)) lands = tt
  walked_land walk x (Done (looked.Found found)) lands = absurd lands

  compared : (x : ℕ) (hold : Hold) (directory : Directory) (left : ℕ) (slot : Option ℕ) → LooksLand call x None (candidate_turned call hold directory left slot)
  compared x hold directory left None = refl
  compared x hold directory left (Some slot) = refl

  floor_lands : (x : ℕ) (turn : Turn Floor ℕ) → LooksLand call x None (floored call turn)
  floor_lands x (Go floor) = refl
  floor_lands x (Done node) = refl

  looks_land : (at : LookupAt) (x : ℕ) → LooksLand call x (lookup_walk at) (lookup_at_turned call at x)
  looks_land (look.Floor floor) x = floor_lands x (floor_turned floor x)
  looks_land (look.Walk walk) x = walked_land walk x (walked_on call (walk_turned walk x)) (walks_land (walk_turned walk x))
  looks_land (look.Read seen) x = refl
  looks_land (look.Lock seen locked) x = elim (x == seen.version) as (λ b. LooksLand call x None (cond b (goes_to call (look.Clock locked)) (ends (once.Again (Moved call.node seen.version x))))) [
    | true ↦ refl
    | false ↦ tt
  ]
  looks_land (look.Clock locked) x =
      let hold : Hold = record { locked = locked; clock = x } in
      elim (is_spent call.limit x) as (λ b. LooksLand call x None (cond b (goes_to call (look.Spent hold)) (goes_to call (look.Bitmap hold)))) [ true ↦ refl | false ↦ refl ]
  looks_land (look.Spent hold) x = tt
  looks_land (look.Bitmap hold) x = refl
  looks_land (look.Prints hold bitmap prints k) x = grind (arith, compared)
  looks_land (look.Name hold directory left slot k) x = grind (arith, compared)
  looks_land (look.Value hold directory slot) x = refl

abbrev pub CallAfter : Call → Turn Fill Finish → Type 0
CallAfter call (Go fill) = fill.call ≡ call
CallAfter call (Done finish) = finish.call ≡ call

pub fill_keeps : (fill : Fill) (x : ℕ) → CallAfter fill.call (fill_turned fill x)
fill_keeps fill x = fill_turn_is (CallAfter fill.call) fill fill.at x (λ next. refl) (λ is. refl)

abbrev pub CallStays : Call → Turn Finish (Once Placed) → Type 0
CallStays call (Go finish) = finish.call ≡ call
CallStays call (Done answer) = Unit {0}

pub finish_keeps : (finish : Finish) (x : ℕ) → CallStays finish.call (finish_turned finish x)
finish_keeps finish x = finish_turn_is (CallStays finish.call) finish finish.at x (λ next. refl) (λ placed. tt)

abbrev LandsAfter : Running → ℕ → Turn Running (Once Placed) → Type 0
LandsAfter running x (Go next) = Lands (running_call running) x (walk_in running) (running_call next)
LandsAfter running x (Done answer) = Unit {0}

get_lands : (get : Get) (x : ℕ) → LandsAfter (Getting get) x (running_turned (Getting get) x)
get_lands (get.Looking lookup) x = at (lookup_turned lookup x) (looks_land lookup.call lookup.at x)
  where
    at : (turn : Turn Lookup Looked) → LooksLand lookup.call x (lookup_walk lookup.at) turn → LandsAfter (Getting (get.Looking lookup)) x (wrapped Getting (get_looked lookup.call turn))
    at (Go next) lands = lands
    at (Done (looked.Early answer)) lands = tt
    at (Done (looked.Found found)) lands = lands
get_lands (get.Checking call hold old) x = tt

put_lands : (put : Put) (x : ℕ) → LandsAfter (Putting put) x (running_turned (Putting put) x)
put_lands (put.Single (single_put.Looking lookup value)) x = at (lookup_turned lookup x) (looks_land lookup.call lookup.at x)
  where
    full : (found : Found) (hit : Option Hit) → lookup.call ≡ put_call (put_full lookup.call found.hold found.directory.bitmap hit value)
    full found (Some hit) = refl
    full found None = refl

    into : (found : Found) (clear : Option ℕ) → lookup.call ≡ put_call (put_into lookup.call found value clear)
    into found (Some slot) = refl
    into found None = full found found.hit

    at : (turn : Turn Lookup Looked) → LooksLand lookup.call x (lookup_walk lookup.at) turn → LandsAfter (Putting (put.Single (single_put.Looking lookup value))) x (wrapped Putting (put_looked lookup.call value turn))
    at (Go next) lands = lands
    at (Done (looked.Early answer)) lands = tt
    at (Done (looked.Found found)) lands =
        subst (Lands lookup.call x (lookup_walk lookup.at)) (into found (lowest_clear found.directory.bitmap lookup.call.view.layout.slots)) lands
put_lands (put.Single (single_put.Filling fill)) x = at (fill_turned fill x) (fill_keeps fill x)
  where
    at : (turn : Turn Fill Finish) → CallAfter fill.call turn → LandsAfter (Putting (put.Single (single_put.Filling fill))) x (wrapped Putting (put_filled turn))
    at (Go next) same = same
    at (Done finish) same = same
put_lands (put.Single (single_put.Replacing call hold bitmap hit value)) x = refl
put_lands (put.Single (single_put.Finishing finish)) x =
    elim (finish_turned finish x) as (λ (turn : Turn Finish (Once Placed)). CallStays finish.call turn → LandsAfter (Putting (put.Single (single_put.Finishing finish))) x (wrapped Putting (put_finished turn))) [
      | Go next ↦ λ same. same
      | Done answer ↦ λ same. tt
    ] (finish_keeps finish x)
put_lands (put.Splitting call hold bitmap value split) x =
    elim (split_turned split x) as (λ (turn : Turn Split SplitDone). LandsAfter (Putting (put.Splitting call hold bitmap value split)) x (wrapped Putting (put_split call hold bitmap value turn))) [
      | Go next ↦ refl
      | Done answer ↦ tt
    ]

del_lands : (del : Del) (x : ℕ) → LandsAfter (Deleting del) x (running_turned (Deleting del) x)
del_lands (del.Single (single_del.Looking lookup)) x = at (lookup_turned lookup x) (looks_land lookup.call lookup.at x)
  where
    hits : (found : Found) (hit : Option Hit) → lookup.call ≡ del_call (del_hit lookup.call found.hold found.directory.bitmap hit)
    hits found (Some hit) =
        let bitmap = found.directory.bitmap in
        elim (ltb (lookup.call.view.layout.slots / 2) (names_left lookup.call bitmap hit)) as (λ b.
        lookup.call ≡ del_call (cond b (del.Single (single_del.Clearing lookup.call found.hold bitmap hit None)) (del.Single (single_del.Next lookup.call found.hold bitmap hit)))) [ true ↦ refl | false ↦ refl ]
    hits found None = refl

    at : (turn : Turn Lookup Looked) → LooksLand lookup.call x (lookup_walk lookup.at) turn → LandsAfter (Deleting (del.Single (single_del.Looking lookup))) x (wrapped Deleting (del_looked lookup.call turn))
    at (Go next) lands = lands
    at (Done (looked.Early answer)) lands = tt
    at (Done (looked.Found found)) lands = subst (Lands lookup.call x (lookup_walk lookup.at)) (hits found found.hit) lands
del_lands (del.Single (single_del.Next call hold bitmap hit)) x =
    elim (x == 0) as (λ b. del_call (cond b (del.Single (single_del.Clearing call hold bitmap hit None)) (del.Single (single_del.Taking call hold bitmap hit (take_from call.view.layout call.view.caller)))) ≡ call) [ true ↦ refl | false ↦ refl ]
del_lands (del.Single (single_del.Taking call hold bitmap hit take)) x = at (take_turned take x)
  where
    at : (turn : Turn Take Taken) → LandsAfter (Deleting (del.Single (single_del.Taking call hold bitmap hit take))) x (wrapped Deleting (del_taken call hold bitmap hit turn))
    at (Go next) = refl
    at (Done (Line line)) = refl
    at (Done Full) = refl
del_lands (del.Single (single_del.Refusing call hold bitmap hit)) x = tt
del_lands (del.Single (single_del.Clearing call hold bitmap hit line)) x = refl
del_lands (del.Single (single_del.Finishing finish line)) x = at (finish_turned finish x) (finish_keeps finish x)
  where
    on : (next : Finish) (line : Option ℕ) → del_call (goes_on next line) ≡ next.call
    on next None = refl
    on next (Some number) = point next.at
      where
        point : (at : FinishAt) → del_call (merges_at next number at) ≡ next.call
        point (finish_at.Fence first fence) = refl
        point finish_at.Add = refl
        point (finish_at.Unlock place) = refl

    at : (turn : Turn Finish (Once Placed)) → CallStays finish.call turn → LandsAfter (Deleting (del.Single (single_del.Finishing finish line))) x (wrapped Deleting (del_finished line turn))
    at (Go next) same = on next line ∙ same
    at (Done answer) same = tt
del_lands (del.Merging call hold old place merge) x =
    elim (merge_turned merge x) as (λ (turn : Turn Merge Merged). LandsAfter (Deleting (del.Merging call hold old place merge)) x (wrapped Deleting (del_merged call hold old place turn))) [
      | Go next ↦ refl
      | Done merged ↦ tt
    ]

part_lands : (p : Part) (x : ℕ) → LandsAfter (Parting p) x (running_turned (Parting p) x)
part_lands (part.Looking lookup count) x = at (lookup_turned lookup x) (looks_land lookup.call lookup.at x)
  where
    walked_call : (next : Lookup) (o : Option Sighting) → part_call (part_walked next count o) ≡ next.call
    walked_call next (Some seen) = refl
    walked_call next None = refl

    at : (turn : Turn Lookup Looked) → LooksLand lookup.call x (lookup_walk lookup.at) turn
        → LandsAfter (Parting (part.Looking lookup count)) x (wrapped_part (part_looked count turn))
    at (Go next) lands = subst (λ (c : Call). Lands lookup.call x (lookup_walk lookup.at) c) (sym (walked_call next (seen_at next.at))) lands
    at (Done (looked.Early answer)) lands = tt
    at (Done (looked.Found found)) lands = tt
part_lands (part.Ordering call seen count load) x = at (load_turned load x)
  where
    ordered : (order : Option (List ℕ)) → part_call (part_ordered call seen count order) ≡ call
    ordered (Some words) = refl
    ordered None = ordered_is (λ (p : Part). part_call p ≡ call) call seen count refl (λ locked. refl)

    at : (turn : Turn LoadPermutation (Option (List ℕ))) → LandsAfter (Parting (part.Ordering call seen count load)) x (wrapped_part (ordering_turned call seen count turn))
    at (Go next) = refl
    at (Done order) = ordered order
part_lands (part.Locking call seen count locked) x = elim (x == seen.version) as (λ b. LandsAfter (Parting (part.Locking call seen count locked)) x
    (wrapped_part (cond b (Go (part_held call seen count locked)) (Done (once.Again (again.Moved call.node seen.version x)))))) [ true ↦ refl | false ↦ tt ]
part_lands (part.Dating call seen count way) x = refl
part_lands (part.Reading reading) x = at reading.at
  where
    stored : (turn : Turn StorePermutation (Unit {0})) → (store_on reading turn).call ≡ reading.call
    stored (Go store) = refl
    stored (Done nothing) = refl

    at : (at : ReadingAt) → LandsAfter (Parting (part.Reading reading)) x (wrapped_part (reading_turned reading at x))
    at read.Clock = refl
    at read.Bitmap = goes_call (record reading { bitmap = x }) _
    at (read.Load slot word) = goes_call (record reading { entries = with_word reading.entries slot word x }) _
    at read.Check = tt
    at (read.Store store) = stored (store_turned store x)
    at read.Unlock = tt

pub turns_land : TurnsLand
turns_land (Getting get) next x goes = subst (LandsAfter (Getting get) x) goes (get_lands get x)
turns_land (Putting put) next x goes = subst (LandsAfter (Putting put) x) goes (put_lands put x)
turns_land (Deleting del) next x goes = subst (LandsAfter (Deleting del) x) goes (del_lands del x)
turns_land (Parting p) next x goes = subst (LandsAfter (Parting p) x) goes (part_lands p x)
