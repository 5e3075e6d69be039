-- What is left of a call becomes less with each turn, together with what it spares.
use Rattle.std.proofs.Common.{◌≡◌, ℕ, ◌+◌, ◌-◌, ◌*◌, ◌/◌, ◌<◌, ◌==◌, true, false, cond, ltb, Option, Some, None, Bool, refl, sym, subst, ap, arith, ◌≤◌, List}
use Rattle.pm_words.specs.declared.layout.Layout.{Layout}
use Rattle.pm_words.specs.declared.again.Again.{Again}
use Rattle.pm_words.specs.declared.again.Again.TheVariants as again
use Rattle.pm_words.specs.declared.again.Again.TheVariants.{Moved}
use Rattle.pm_words.specs.declared.machine.Turn.{Turn}
use Rattle.pm_words.specs.declared.machine.Turn.TheVariants.{Go, Done}
use Rattle.pm_words.specs.Turns.{GoesBelow}
use Rattle.version_lock.specs.Versions.{kept_count, locked_word, is_worn_word}
use Rattle.data_node.specs.Bits.{lowest_clear}
use Rattle.call_stages.specs.declared.once.Once.{Once}
use Rattle.call_stages.specs.declared.once.Once.TheVariants as once
use Rattle.call_stages.specs.declared.once.Placed.{Placed}
use Rattle.data_list.specs.declared.target.Target.{Target}
use Rattle.data_list.specs.declared.target.Walked.{Walked}
use Rattle.data_list.specs.declared.target.Walked.TheVariants as walked
use Rattle.data_list.specs.declared.walk.Walk.{Walk}
use Rattle.data_list.specs.Hops.{CanGiveUp, HopsAt}
use Rattle.data_list.specs.Walks.{sighting_of, walk_turned, walk_left}
use Rattle.tree_floor.specs.declared.floor.Floor.{Floor}
use Rattle.tree_floor.specs.Floors.{floor_turned}
use Rattle.node_ops.specs.declared.call.Call.{Call}
use Rattle.node_ops.specs.declared.lookup.Hold.{Hold}
use Rattle.node_ops.specs.declared.lookup.Directory.{Directory}
use Rattle.node_ops.specs.declared.lookup.Lookup.{Lookup}
use Rattle.node_ops.specs.declared.lookup.Looked.{Looked}
use Rattle.node_ops.specs.declared.lookup.Looked.TheVariants as looked
use Rattle.node_ops.specs.declared.lookup.LookupAt.{LookupAt}
use Rattle.node_ops.specs.declared.lookup.LookupAt.TheVariants as look
use Rattle.node_ops.specs.Calls.{at_node}
use Rattle.node_ops.specs.LookupSteps.{IsLookupAt, came_by, candidate_turned, ends, floored, goes_to, is_spent, lookup_at_left, lookup_at_turned, lookup_left, lookup_turned, walked_on}
use Rattle.data_list.proofs.HopLaw.{walks_hop}
use Rattle.call_stages.specs.declared.view.View.{View}
use Rattle.node_ops.specs.declared.lookup.Hit.{Hit}
use Rattle.node_ops.specs.declared.lookup.Found.{Found}
use Rattle.node_ops.specs.declared.fill.Fill.{Fill}
use Rattle.node_ops.specs.declared.finish.Finish.{Finish}
use Rattle.node_ops.specs.declared.finish.FinishAt.{FinishAt}
use Rattle.node_ops.specs.declared.finish.FinishAt.TheVariants as finish_at
use Rattle.node_ops.specs.declared.get.Get.{Get}
use Rattle.node_ops.specs.declared.get.Get.TheVariants as get
use Rattle.node_ops.specs.declared.put.Put.{Put}
use Rattle.node_ops.specs.declared.put.Put.TheVariants as put
use Rattle.node_ops.specs.declared.single_put.SinglePut.TheVariants as single_put
use Rattle.node_ops.specs.declared.del.Del.{Del}
use Rattle.node_ops.specs.declared.del.Del.TheVariants as del
use Rattle.node_ops.specs.declared.single_del.SingleDel.TheVariants as single_del
use Rattle.node_ops.specs.declared.part.ReadingAt.{ReadingAt}
use Rattle.node_ops.specs.declared.part.ReadingAt.TheVariants as read
use Rattle.node_ops.specs.declared.part.Part.{Part}
use Rattle.node_ops.specs.declared.part.Part.TheVariants as part
use Rattle.node_ops.specs.declared.running.Running.{Running}
use Rattle.node_ops.specs.declared.running.Running.TheVariants.{Getting, Putting, Deleting, Parting}
use Rattle.split_merge.specs.declared.splitting.Split.{Split}
use Rattle.split_merge.specs.declared.splitting.SplitDone.{SplitDone}
use Rattle.split_merge.specs.Splits.{split_turned, split_left}
use Rattle.split_merge.specs.declared.merging.Merge.{Merge}
use Rattle.split_merge.specs.declared.merging.Merged.{Merged}
use Rattle.split_merge.specs.Merges.{merge_turned, merge_left}
use Rattle.smo_log.specs.declared.take.Take.{Take}
use Rattle.smo_log.specs.declared.take.Taken.{Taken}
use Rattle.smo_log.specs.declared.take.Taken.TheVariants.{Line, Full}
use Rattle.smo_log.specs.Takes.{take_from, take_turned, take_left}
use Rattle.node_ops.specs.GetSteps.{IsGet, get_left, get_looked}
use Rattle.node_ops.specs.FillSteps.{fill_turned, fill_left}
use Rattle.node_ops.specs.FinishSteps.{finish_turned, finish_left}
use Rattle.node_ops.specs.PutSteps.{IsPut, put_left, put_looked, put_into, put_full, put_filled, put_finished, put_split}
use Rattle.node_ops.specs.DelSteps.{IsDel, del_left, names_left, del_looked, del_hit, del_taken, del_finished, del_merged, goes_on, merges_at}
use Rattle.permutation.specs.declared.load.LoadPermutation.{LoadPermutation}
use Rattle.permutation.specs.declared.store.StorePermutation.{StorePermutation}
use Rattle.permutation.specs.Loads.{load_turned}
use Rattle.permutation.specs.Stores.{store_turned}
use Rattle.node_ops.specs.declared.part.Reading.{Reading}
use Rattle.node_ops.specs.PartSteps.{IsPart, part_left, part_walked, part_ordered, part_held, part_looked, ordering_turned, seen_at, store_on, after_bitmap, after_word, with_word, reading_turned}
use Rattle.node_ops.proofs.PartSound.{goes_call}
use Rattle.node_ops.proofs.PartWalks.{IsOnWay, WalksOn, on_way_is, walks_on, walks_left}
use Rattle.node_ops.specs.RunningSteps.{running_turned, running_left, wrapped, wrapped_part}
use Rattle.node_ops.proofs.Landings.{CallAfter, CallStays, fill_keeps, finish_keeps}
use Rattle.node_ops.proofs.PartTurns.{ordered_is}
use Rattle.node_ops.specs.Costs.{hops_spared, lookup_landed, spared, EndsInWalk, IsGivenUp, PutsSpareSplits, TurnsSpare, WalksEndSo}

-- what a look-up has spared
abbrev pub look_spared : Lookup → ℕ
look_spared lookup = cond (lookup_landed lookup.at) (hops_spared lookup.call) 0

-- after a turn of a look-up that had so much left and spared: it is found only where its walk has ended
abbrev pub LookSpares : ℕ → ℕ → ℕ → Turn Lookup Looked → Type 0
LookSpares bound was here (Go next) = lookup_left next + look_spared next < bound + was
LookSpares bound was here (Done (looked.Early answer)) = Unit {0}
LookSpares bound was here (Done (looked.Found found)) = was ≡ here

-- a turn of one that has landed leaves it there
abbrev StaysLanded : Call → Turn Lookup Looked → Type 0
StaysLanded call (Go next) = (lookup_landed next.at ≡ true) × (next.call ≡ call)
StaysLanded call (Done answer) = Unit {0}

module _ (call : Call) where
  compared : (hold : Hold) (directory : Directory) (left : ℕ) (slot : Option ℕ) → StaysLanded call (candidate_turned call hold directory left slot)
  compared hold directory left None = tt
  compared hold directory left (Some slot) = (refl, refl)

  stays_landed : (at : LookupAt) (x : ℕ) → lookup_landed at ≡ true → StaysLanded call (lookup_at_turned call at x)
  stays_landed (look.Floor floor) x landed = absurd (cc)
  stays_landed (look.Walk walk) x landed = absurd (cc)
  stays_landed (look.Read seen) x landed = (refl, refl)
  stays_landed (look.Lock seen locked) x landed = elim (x == seen.version) as (λ b. StaysLanded call (cond b (goes_to call (look.Clock locked)) (ends (once.Again (Moved call.node seen.version x))))) [
    | true ↦ (refl, refl)
    | false ↦ tt
  ]
  stays_landed (look.Clock locked) x landed =
      let hold : Hold = record { locked = locked; clock = x } in
      elim (is_spent call.limit x) as (λ b. StaysLanded call (cond b (goes_to call (look.Spent hold)) (goes_to call (look.Bitmap hold)))) [ true ↦ (refl, refl) | false ↦ (refl, refl) ]
  stays_landed (look.Spent hold) x landed = tt
  stays_landed (look.Bitmap hold) x landed = (refl, refl)
  stays_landed (look.Prints hold bitmap prints k) x landed = grind (arith, compared)
  stays_landed (look.Name hold directory left slot k) x landed = grind (arith, compared)
  stays_landed (look.Value hold directory slot) x landed = tt

  -- so what it spares stays as it is
  landed_spares : (bound : ℕ) (turn : Turn Lookup Looked) → StaysLanded call turn → GoesBelow {A = Looked} lookup_left bound turn → LookSpares bound (hops_spared call) (hops_spared call) turn
  landed_spares bound (Go next) stays fewer =
      let same : look_spared next ≡ hops_spared call = subst (λ (q : Bool × Call). cond q.0 (hops_spared q.1) 0 ≡ hops_spared call) (λ k. (sym stays.0 k, sym stays.1 k)) refl in
      omega (arith, same, fewer)
  landed_spares bound (Done (looked.Early answer)) stays fewer = tt
  landed_spares bound (Done (looked.Found found)) stays fewer = refl

  -- the floor, or the walk, goes on
  floor_spares : (bound : ℕ) (turn : Turn Floor ℕ) → GoesBelow {A = Looked} lookup_left bound (floored call turn) → LookSpares bound 0 (hops_spared call) (floored call turn)
  floor_spares bound (Go floor) fewer = omega (arith, fewer)
  floor_spares bound (Done node) fewer = omega (arith, fewer)

  -- the walk ends
  came_spares : (walk : Walk) (target : Target) (limit : Option ℕ) → walk.layout ≡ call.view.layout → target.hops ≡ walk.hops
      → LookSpares (walk_left walk + (3 * call.view.layout.slots + 13)) 0 (hops_spared call) (came_by limit call target)
  came_spares walk target None layout hops =
      let same : 10 * (2 * call.view.layout.nodes - (target.hops + 1)) ≡ 10 * (2 * walk.layout.nodes - (walk.hops + 1)) =
      subst (λ (q : Layout × ℕ). 10 * (2 * call.view.layout.nodes - (target.hops + 1)) ≡ 10 * (2 * q.0.nodes - (q.1 + 1))) (λ k. (sym layout k, hops k)) refl in
      omega (arith, same)
  came_spares walk target (Some most) layout hops =
      let same : 10 * (2 * call.view.layout.nodes - (target.hops + 1)) ≡ 10 * (2 * walk.layout.nodes - (walk.hops + 1)) =
      subst (λ (q : Layout × ℕ). 10 * (2 * call.view.layout.nodes - (target.hops + 1)) ≡ 10 * (2 * q.0.nodes - (q.1 + 1))) (λ k. (sym layout k, hops k)) refl in
      let g = call.view.generation in
      elim (is_worn_word target.version g) as (λ b. LookSpares (walk_left walk + (3 * call.view.layout.slots + 13)) 0 (hops_spared call) (cond b (ends (once.Worn target.node target.version))
      (goes_to (at_node call target.node target.hops) (look.Lock (sighting_of target) (locked_word g (kept_count target.version g)))))) [
        | true ↦ tt
        | false ↦ omega (arith, same)
      ]

  walk_spares : (walk : Walk) (x : ℕ) (turn : Turn Walk Walked) → walk.layout ≡ call.view.layout → HopsAt walk walk.at x turn
      → GoesBelow {A = Looked} lookup_left (walk_left walk + (3 * call.view.layout.slots + 13)) (walked_on call turn)
      → LookSpares (walk_left walk + (3 * call.view.layout.slots + 13)) 0 (hops_spared call) (walked_on call turn)
  walk_spares walk x (Go next) layout hops fewer = omega (arith, fewer)
  walk_spares walk x (Done (walked.Again why)) layout hops fewer = tt
  walk_spares walk x (Done (walked.Target target)) layout hops fewer = came_spares walk target call.limit layout hops.1

-- a turn of a look-up keeps its call's view
abbrev KeepsView : Call → Turn Lookup Looked → Type 0
KeepsView call (Go next) = next.call.view ≡ call.view
KeepsView call (Done answer) = Unit {0}

stays_view : (call : Call) (turn : Turn Lookup Looked) → StaysLanded call turn → KeepsView call turn
stays_view call (Go next) stays = ap (λ (c : Call). c.view) stays.1
stays_view call (Done answer) stays = tt

-- what holds of a look-up that takes its floor or walks, and of each that has landed
pub landing_is : (P : LookupAt → Type 0) → ((floor : Floor) → P (look.Floor floor)) → ((walk : Walk) → P (look.Walk walk)) → ((at : LookupAt) → lookup_landed at ≡ true → P at)
    → (at : LookupAt) → P at
landing_is P floors walks landed (look.Floor floor) = floors floor
landing_is P floors walks landed (look.Walk walk) = walks walk
landing_is P floors walks landed (look.Read seen) = landed (look.Read seen) refl
landing_is P floors walks landed (look.Lock seen locked) = landed (look.Lock seen locked) refl
landing_is P floors walks landed (look.Clock locked) = landed (look.Clock locked) refl
landing_is P floors walks landed (look.Spent hold) = landed (look.Spent hold) refl
landing_is P floors walks landed (look.Bitmap hold) = landed (look.Bitmap hold) refl
landing_is P floors walks landed (look.Prints hold bitmap prints k) = landed (look.Prints hold bitmap prints k) refl
landing_is P floors walks landed (look.Name hold directory left slot k) = landed (look.Name hold directory left slot k) refl
landing_is P floors walks landed (look.Value hold directory slot) = landed (look.Value hold directory slot) refl

keeps_view : (call : Call) (at : LookupAt) (x : ℕ) → KeepsView call (lookup_at_turned call at x)
keeps_view call at x =
    landing_is (λ (a : LookupAt). KeepsView call (lookup_at_turned call a x)) (λ floor. floors (floor_turned floor x)) (λ walk. walks (walk_turned walk x))
    (λ a is. stays_view call (lookup_at_turned call a x) (stays_landed call a x is)) at
  where
    floors : (turn : Turn Floor ℕ) → KeepsView call (floored call turn)
    floors (Go next) = refl
    floors (Done node) = refl

    came : (target : Target) (limit : Option ℕ) → KeepsView call (came_by limit call target)
    came target None = refl
    came target (Some most) =
        let g = call.view.generation in
        elim (is_worn_word target.version g) as (λ b. KeepsView call (cond b (ends (once.Worn target.node target.version))
        (goes_to (at_node call target.node target.hops) (look.Lock (sighting_of target) (locked_word g (kept_count target.version g)))))) [ true ↦ tt | false ↦ refl ]

    walks : (turn : Turn Walk Walked) → KeepsView call (walked_on call turn)
    walks (Go next) = refl
    walks (Done (walked.Again why)) = tt
    walks (Done (walked.Target target)) = came target call.limit

looks_spare : (lookup : Lookup) (x : ℕ) → IsLookupAt lookup.call lookup.at → GoesBelow {A = Looked} lookup_left (lookup_left lookup) (lookup_turned lookup x)
    → LookSpares (lookup_left lookup) (look_spared lookup) (hops_spared lookup.call) (lookup_turned lookup x)
looks_spare lookup x here fewer =
    landing_is (λ (at : LookupAt). IsLookupAt call at → GoesBelow {A = Looked} lookup_left (lookup_at_left call.view.layout.slots at) (lookup_at_turned call at x)
    → LookSpares (lookup_at_left call.view.layout.slots at) (cond (lookup_landed at) (hops_spared call) 0) (hops_spared call) (lookup_at_turned call at x))
    (λ floor sound less. floor_spares call (lookup_at_left call.view.layout.slots (look.Floor floor)) (floor_turned floor x) less)
    (λ walk sound less. walk_spares call walk x (walk_turned walk x) sound.layout (walks_hop walk x sound.sound) less) (λ at is sound less. landed at is less) lookup.at here fewer
  where
    call : Call
    call = lookup.call

    landed : (at : LookupAt) → lookup_landed at ≡ true → GoesBelow {A = Looked} lookup_left (lookup_at_left call.view.layout.slots at) (lookup_at_turned call at x)
        → LookSpares (lookup_at_left call.view.layout.slots at) (cond (lookup_landed at) (hops_spared call) 0) (hops_spared call) (lookup_at_turned call at x)
    landed at is fewer = subst (λ (b : Bool). LookSpares (lookup_at_left call.view.layout.slots at) (cond b (hops_spared call) 0) (hops_spared call) (lookup_at_turned call at x)) (sym is)
        (landed_spares call (lookup_at_left call.view.layout.slots at) (lookup_at_turned call at x) (stays_landed call at x is) fewer)

-- what a turn leaves, and spares, of any call
abbrev Spares : ℕ → Turn Running (Once Placed) → Type 0
Spares bound (Go next) = running_left next + spared next < bound
Spares bound (Done answer) = Unit {0}

get_spares : (get : Get) (x : ℕ) → IsGet get → GoesBelow {A = Once Placed} running_left (get_left get) (running_turned (Getting get) x) → Spares (get_left get + spared (Getting get)) (running_turned (Getting get) x)
get_spares (get.Looking lookup) x sound fewer = at (lookup_turned lookup x) (looks_spare lookup x sound.0.here) fewer
  where
    at : (turn : Turn Lookup Looked) → (GoesBelow {A = Looked} lookup_left (lookup_left lookup) turn → LookSpares (lookup_left lookup) (look_spared lookup) (hops_spared lookup.call) turn)
        → GoesBelow {A = Once Placed} running_left (lookup_left lookup + 1) (wrapped Getting (get_looked lookup.call turn)) → Spares (lookup_left lookup + 1 + spared (Getting (get.Looking lookup))) (wrapped Getting (get_looked lookup.call turn))
    at (Go next) spares fewer = let less : lookup_left next < lookup_left lookup = omega (arith, fewer) in omega (arith, spares less)
    at (Done (looked.Early answer)) spares fewer = tt
    at (Done (looked.Found found)) spares fewer = omega (arith, fewer, spares tt)
get_spares (get.Checking call hold old) x sound fewer = tt

put_spares : (put : Put) (x : ℕ) → IsPut put → GoesBelow {A = Once Placed} running_left (put_left put) (running_turned (Putting put) x) → Spares (put_left put + spared (Putting put)) (running_turned (Putting put) x)
put_spares (put.Single (single_put.Looking lookup value)) x sound fewer = at (lookup_turned lookup x) (looks_spare lookup x sound.0.here) fewer
  where
    full : (found : Found) (hit : Option Hit) → look_spared lookup ≡ hops_spared lookup.call
        → running_left (Putting (put_full lookup.call found.hold found.directory.bitmap hit value)) < lookup_left lookup + 30057
        → running_left (Putting (put_full lookup.call found.hold found.directory.bitmap hit value)) + spared (Putting (put_full lookup.call found.hold found.directory.bitmap hit value)) < lookup_left lookup + 30057 + look_spared lookup
    full found (Some hit) here fewer = omega (arith, fewer, here)
    full found None here fewer = omega (arith, fewer, here)

    into : (found : Found) (clear : Option ℕ) → look_spared lookup ≡ hops_spared lookup.call → running_left (Putting (put_into lookup.call found value clear)) < lookup_left lookup + 30057
        → running_left (Putting (put_into lookup.call found value clear)) + spared (Putting (put_into lookup.call found value clear)) < lookup_left lookup + 30057 + look_spared lookup
    into found (Some slot) here fewer = omega (arith, fewer, here)
    into found None here fewer = full found found.hit here fewer

    at : (turn : Turn Lookup Looked) → (GoesBelow {A = Looked} lookup_left (lookup_left lookup) turn → LookSpares (lookup_left lookup) (look_spared lookup) (hops_spared lookup.call) turn)
        → GoesBelow {A = Once Placed} running_left (lookup_left lookup + 30057) (wrapped Putting (put_looked lookup.call value turn))
        → Spares (lookup_left lookup + 30057 + spared (Putting (put.Single (single_put.Looking lookup value)))) (wrapped Putting (put_looked lookup.call value turn))
    at (Go next) spares fewer = let less : lookup_left next < lookup_left lookup = omega (arith, fewer) in omega (arith, spares less)
    at (Done (looked.Early answer)) spares fewer = tt
    at (Done (looked.Found found)) spares fewer =
        let more = into found (lowest_clear found.directory.bitmap lookup.call.view.layout.slots) (spares tt) fewer in omega (arith, more)
put_spares (put.Single (single_put.Filling fill)) x sound fewer = at (fill_turned fill x) (fill_keeps fill x) fewer
  where
    at : (turn : Turn Fill Finish) → CallAfter fill.call turn → GoesBelow {A = Once Placed} running_left (fill_left fill + 18) (wrapped Putting (put_filled turn))
        → Spares (fill_left fill + 18 + (hops_spared fill.call + 30000)) (wrapped Putting (put_filled turn))
    at (Go next) same fewer = let hops : hops_spared next.call ≡ hops_spared fill.call = ap hops_spared same in omega (arith, fewer, hops)
    at (Done finish) same fewer = let hops : hops_spared finish.call ≡ hops_spared fill.call = ap hops_spared same in omega (arith, fewer, hops)
put_spares (put.Single (single_put.Replacing call hold bitmap hit value)) x sound fewer = omega (arith, fewer)
put_spares (put.Single (single_put.Finishing finish)) x sound fewer =
    elim (finish_turned finish x) as (λ (turn : Turn Finish (Once Placed)). CallStays finish.call turn → GoesBelow {A = Once Placed} running_left (finish_left finish) (wrapped Putting (put_finished turn))
    → Spares (finish_left finish + (hops_spared finish.call + 30000)) (wrapped Putting (put_finished turn))) [
      | Go next ↦ λ same less. let hops : hops_spared next.call ≡ hops_spared finish.call = ap hops_spared same in omega (arith, less, hops)
      | Done answer ↦ λ same less. tt
    ] (finish_keeps finish x) fewer
put_spares (put.Splitting call hold bitmap value split) x sound fewer =
    elim (split_turned split x) as (λ (turn : Turn Split SplitDone). GoesBelow {A = Once Placed} running_left (split_left split) (wrapped Putting (put_split call hold bitmap value turn))
    → Spares (split_left split + (hops_spared call + 0)) (wrapped Putting (put_split call hold bitmap value turn))) [
      | Go next ↦ λ less. omega (arith, less)
      | Done answer ↦ λ less. tt
    ] fewer

del_spares : (del : Del) (x : ℕ) → IsDel del → GoesBelow {A = Once Placed} running_left (del_left del) (running_turned (Deleting del) x) → Spares (del_left del + spared (Deleting del)) (running_turned (Deleting del) x)
del_spares (del.Single (single_del.Looking lookup)) x sound fewer = at (lookup_turned lookup x) (looks_spare lookup x sound.0.here) fewer
  where
    found_spares : (found : Found) (hit : Option Hit) → look_spared lookup ≡ hops_spared lookup.call
        → running_left (Deleting (del_hit lookup.call found.hold found.directory.bitmap hit)) < lookup_left lookup + 30052
        → running_left (Deleting (del_hit lookup.call found.hold found.directory.bitmap hit)) + spared (Deleting (del_hit lookup.call found.hold found.directory.bitmap hit)) < lookup_left lookup + 30052 + look_spared lookup
    found_spares found None here fewer = omega (arith, fewer, here)
    found_spares found (Some hit) here fewer =
        let bitmap = found.directory.bitmap in
        elim (ltb (lookup.call.view.layout.slots / 2) (names_left lookup.call bitmap hit)) as (λ b.
        running_left (Deleting (cond b (del.Single (single_del.Clearing lookup.call found.hold bitmap hit None)) (del.Single (single_del.Next lookup.call found.hold bitmap hit)))) < lookup_left lookup + 30052
        → running_left (Deleting (cond b (del.Single (single_del.Clearing lookup.call found.hold bitmap hit None)) (del.Single (single_del.Next lookup.call found.hold bitmap hit))))
        + spared (Deleting (cond b (del.Single (single_del.Clearing lookup.call found.hold bitmap hit None)) (del.Single (single_del.Next lookup.call found.hold bitmap hit)))) < lookup_left lookup + 30052 + look_spared lookup) [
          | true ↦ λ fewer. omega (arith, fewer, here)
          | false ↦ λ fewer. omega (arith, fewer, here)
        ] fewer

    at : (turn : Turn Lookup Looked) → (GoesBelow {A = Looked} lookup_left (lookup_left lookup) turn → LookSpares (lookup_left lookup) (look_spared lookup) (hops_spared lookup.call) turn)
        → GoesBelow {A = Once Placed} running_left (lookup_left lookup + 30052) (wrapped Deleting (del_looked lookup.call turn))
        → Spares (lookup_left lookup + 30052 + spared (Deleting (del.Single (single_del.Looking lookup)))) (wrapped Deleting (del_looked lookup.call turn))
    at (Go next) spares fewer = let less : lookup_left next < lookup_left lookup = omega (arith, fewer) in omega (arith, spares less)
    at (Done (looked.Early answer)) spares fewer = tt
    at (Done (looked.Found found)) spares fewer = let more = found_spares found found.hit (spares tt) fewer in omega (arith, more)
del_spares (del.Single (single_del.Next call hold bitmap hit)) x sound fewer =
    elim (x == 0) as (λ b. GoesBelow {A = Once Placed} running_left 30051 (Go (Deleting (cond b (del.Single (single_del.Clearing call hold bitmap hit None)) (del.Single (single_del.Taking call hold bitmap hit (take_from call.view.layout call.view.caller))))))
    → Spares (30051 + (hops_spared call + 0)) (Go (Deleting (cond b (del.Single (single_del.Clearing call hold bitmap hit None)) (del.Single (single_del.Taking call hold bitmap hit (take_from call.view.layout call.view.caller))))))) [
      | true ↦ λ fewer. omega (arith, fewer)
      | false ↦ λ fewer. omega (arith, fewer)
    ] fewer
del_spares (del.Single (single_del.Taking call hold bitmap hit take)) x sound fewer = at (take_turned take x) fewer
  where
    at : (turn : Turn Take Taken) → GoesBelow {A = Once Placed} running_left (take_left take + 30025) (wrapped Deleting (del_taken call hold bitmap hit turn))
        → Spares (take_left take + 30025 + (hops_spared call + 0)) (wrapped Deleting (del_taken call hold bitmap hit turn))
    at (Go next) fewer = omega (arith, fewer)
    at (Done (Line line)) fewer = omega (arith, fewer)
    at (Done Full) fewer = omega (arith, fewer)
del_spares (del.Single (single_del.Refusing call hold bitmap hit)) x sound fewer = tt
del_spares (del.Single (single_del.Clearing call hold bitmap hit line)) x sound fewer = omega (arith, fewer)
del_spares (del.Single (single_del.Finishing finish line)) x sound fewer = at (finish_turned finish x) (finish_keeps finish x) fewer
  where
    on : (next : Finish) (line : Option ℕ) → next.call ≡ finish.call → spared (Deleting (goes_on next line)) ≡ hops_spared finish.call + 0
    on next None same = ap (λ (c : Call). hops_spared c + 0) same
    on next (Some number) same = point next.at
      where
        point : (at : FinishAt) → spared (Deleting (merges_at next number at)) ≡ hops_spared finish.call + 0
        point (finish_at.Fence first fence) = ap (λ (c : Call). hops_spared c + 0) same
        point finish_at.Add = ap (λ (c : Call). hops_spared c + 0) same
        point (finish_at.Unlock place) = ap (λ (c : Call). hops_spared c + 0) same

    at : (turn : Turn Finish (Once Placed)) → CallStays finish.call turn → GoesBelow {A = Once Placed} running_left (del_left (del.Single (single_del.Finishing finish line))) (wrapped Deleting (del_finished line turn))
        → Spares (del_left (del.Single (single_del.Finishing finish line)) + (hops_spared finish.call + 0)) (wrapped Deleting (del_finished line turn))
    at (Go next) same fewer = let more = on next line same in omega (arith, fewer, more)
    at (Done answer) same fewer = tt
del_spares (del.Merging call hold old place merge) x sound fewer =
    elim (merge_turned merge x) as (λ (turn : Turn Merge Merged). GoesBelow {A = Once Placed} running_left (merge_left merge) (wrapped Deleting (del_merged call hold old place turn))
    → Spares (merge_left merge + (hops_spared call + 0)) (wrapped Deleting (del_merged call hold old place turn))) [
      | Go next ↦ λ less. omega (arith, less)
      | Done merged ↦ λ less. tt
    ] fewer

part_spares : (p : Part) (x : ℕ) → IsPart p → GoesBelow {A = Once Placed} running_left (part_left p) (running_turned (Parting p) x) → Spares (part_left p + spared (Parting p)) (running_turned (Parting p) x)
part_spares (part.Looking lookup count) x sound fewer = at (lookup_turned lookup x) (walks_on lookup.call lookup.at x sound.1 sound.2) (looks_spare lookup x sound.0.here) (keeps_view lookup.call lookup.at x) fewer
  where
    few : 4 ≤ lookup.call.view.layout.slots
    few = sound.0.call.view.layout.slots.0

    goes : (next : Call) (at : LookupAt) → IsOnWay at → (lookup_at_left next.view.layout.slots at < lookup_left lookup → lookup_at_left next.view.layout.slots at + cond (lookup_landed at) (hops_spared next) 0 < lookup_left lookup + look_spared lookup)
        → next.view.layout.slots ≡ lookup.call.view.layout.slots
        → GoesBelow {A = Once Placed} running_left (part_left (part.Looking lookup count)) (wrapped_part (Go (part_walked (record { call = next; at = at }) count (seen_at at))))
        → Spares (part_left (part.Looking lookup count) + (look_spared lookup + 0)) (wrapped_part (Go (part_walked (record { call = next; at = at }) count (seen_at at))))
    goes next =
        on_way_is (λ (at : LookupAt). (lookup_at_left next.view.layout.slots at < lookup_left lookup → lookup_at_left next.view.layout.slots at + cond (lookup_landed at) (hops_spared next) 0 < lookup_left lookup + look_spared lookup)
        → next.view.layout.slots ≡ lookup.call.view.layout.slots
        → GoesBelow {A = Once Placed} running_left (part_left (part.Looking lookup count)) (wrapped_part (Go (part_walked (record { call = next; at = at }) count (seen_at at))))
        → Spares (part_left (part.Looking lookup count) + (look_spared lookup + 0)) (wrapped_part (Go (part_walked (record { call = next; at = at }) count (seen_at at)))))
        (λ floor spares slots fewer. let less : lookup_at_left next.view.layout.slots (look.Floor floor) < lookup_left lookup = omega (arith, fewer, slots) in omega (arith, spares less, slots))
        (λ walk spares slots fewer. let less : lookup_at_left next.view.layout.slots (look.Walk walk) < lookup_left lookup = omega (arith, fewer, slots) in omega (arith, spares less, slots))
        (λ seen spares slots fewer. let less : 3 * next.view.layout.slots + 11 < lookup_left lookup = omega (arith, walks_left lookup.call lookup.at sound.2, slots) in omega (arith, spares less, slots, few))

    at : (turn : Turn Lookup Looked) → WalksOn turn → (GoesBelow {A = Looked} lookup_left (lookup_left lookup) turn → LookSpares (lookup_left lookup) (look_spared lookup) (hops_spared lookup.call) turn)
        → KeepsView lookup.call turn
        → GoesBelow {A = Once Placed} running_left (part_left (part.Looking lookup count)) (wrapped_part (part_looked count turn))
        → Spares (part_left (part.Looking lookup count) + (look_spared lookup + 0)) (wrapped_part (part_looked count turn))
    at (Go next) way spares same fewer = goes next.call next.at way spares (ap (λ (v : View). v.layout.slots) same) fewer
    at (Done (looked.Early answer)) way spares same fewer = tt
    at (Done (looked.Found found)) way spares same fewer = absurd way
part_spares (part.Ordering call seen count load) x sound fewer = at (load_turned load x) fewer
  where
    ordered : (order : Option (List ℕ)) → GoesBelow {A = Once Placed} running_left (part_left (part.Ordering call seen count load)) (wrapped_part (Go (part_ordered call seen count order)))
        → Spares (part_left (part.Ordering call seen count load) + (hops_spared call + 0)) (wrapped_part (Go (part_ordered call seen count order)))
    ordered (Some words) fewer = omega (arith, fewer)
    ordered None fewer =
        ordered_is (λ (p : Part). GoesBelow {A = Once Placed} running_left (part_left (part.Ordering call seen count load)) (wrapped_part (Go p))
        → Spares (part_left (part.Ordering call seen count load) + (hops_spared call + 0)) (wrapped_part (Go p))) call seen count (λ less. omega (arith, less))
        (λ locked less. omega (arith, less)) fewer

    at : (turn : Turn LoadPermutation (Option (List ℕ))) → GoesBelow {A = Once Placed} running_left (part_left (part.Ordering call seen count load)) (wrapped_part (ordering_turned call seen count turn))
        → Spares (part_left (part.Ordering call seen count load) + (hops_spared call + 0)) (wrapped_part (ordering_turned call seen count turn))
    at (Go next) fewer = omega (arith, fewer)
    at (Done order) fewer = ordered order fewer
part_spares (part.Locking call seen count locked) x sound fewer = elim (x == seen.version) as (λ b.
    GoesBelow {A = Once Placed} running_left (part_left (part.Locking call seen count locked)) (wrapped_part (cond b (Go (part_held call seen count locked)) (Done (once.Again (again.Moved call.node seen.version x)))))
    → Spares (part_left (part.Locking call seen count locked) + (hops_spared call + 0)) (wrapped_part (cond b (Go (part_held call seen count locked)) (Done (once.Again (again.Moved call.node seen.version x)))))) [
      | true ↦ λ less. omega (arith, less)
      | false ↦ λ less. tt
    ] fewer
part_spares (part.Dating call seen count way) x sound fewer = omega (arith, fewer)
part_spares (part.Reading reading) x sound fewer = at reading.at fewer
  where
    -- the call is the same
    same : (next : Reading) → next.call ≡ reading.call → part_left (part.Reading next) < part_left (part.Reading reading) → part_left (part.Reading next) + (hops_spared next.call + 0) < part_left (part.Reading reading) + (hops_spared reading.call + 0)
    same next is less = let hops : hops_spared next.call ≡ hops_spared reading.call = ap hops_spared is in omega (arith, less, hops)

    stored : (turn : Turn StorePermutation (Unit {0})) → (store_on reading turn).call ≡ reading.call
    stored (Go store) = refl
    stored (Done nothing) = refl

    at : (at : ReadingAt) → GoesBelow {A = Once Placed} running_left (part_left (part.Reading reading)) (wrapped_part (reading_turned reading at x))
        → Spares (part_left (part.Reading reading) + (hops_spared reading.call + 0)) (wrapped_part (reading_turned reading at x))
    at read.Clock fewer = omega (arith, fewer)
    at read.Bitmap fewer = same (after_bitmap reading x) (goes_call (record reading { bitmap = x }) _) fewer
    at (read.Load slot word) fewer = same (after_word reading slot word x) (goes_call (record reading { entries = with_word reading.entries slot word x }) _) fewer
    at read.Check fewer = tt
    at (read.Store store) fewer = same (store_on reading (store_turned store x)) (stored (store_turned store x)) fewer
    at read.Unlock fewer = tt

pub turns_spare : TurnsSpare
turns_spare (Getting get) next x sound goes fewer =
    subst (Spares (get_left get + spared (Getting get))) goes (get_spares get x sound (subst (GoesBelow {A = Once Placed} running_left (get_left get)) (sym goes) fewer))
turns_spare (Putting put) next x sound goes fewer =
    subst (Spares (put_left put + spared (Putting put))) goes (put_spares put x sound (subst (GoesBelow {A = Once Placed} running_left (put_left put)) (sym goes) fewer))
turns_spare (Deleting del) next x sound goes fewer =
    subst (Spares (del_left del + spared (Deleting del))) goes (del_spares del x sound (subst (GoesBelow {A = Once Placed} running_left (del_left del)) (sym goes) fewer))
turns_spare (Parting p) next x sound goes fewer =
    subst (Spares (part_left p + spared (Parting p))) goes (part_spares p x sound (subst (GoesBelow {A = Once Placed} running_left (part_left p)) (sym goes) fewer))

-- how a look-up ends: one that walks is answered as the walk gives up, or that its node is worn
abbrev IsRefused : Bool → Once Placed → Type 0
IsRefused landed (once.Done placed) = ⊥
IsRefused landed (once.Spent clock) = landed ≡ true
IsRefused landed (once.Worn node word) = landed ≡ false
IsRefused landed (once.Again why) = landed ≡ false → IsGivenUp why

abbrev LookEnds : Bool → Turn Lookup Looked → Type 0
LookEnds landed (Go next) = Unit {0}
LookEnds landed (Done (looked.Early answer)) = IsRefused landed answer
LookEnds landed (Done (looked.Found found)) = landed ≡ true

module _ (call : Call) where
  candidates_end : (hold : Hold) (directory : Directory) (left : ℕ) (slot : Option ℕ) → LookEnds true (candidate_turned call hold directory left slot)
  candidates_end hold directory left None = refl
  candidates_end hold directory left (Some slot) = tt

  came_ends : (target : Target) (limit : Option ℕ) → LookEnds false (came_by limit call target)
  came_ends target None = tt
  came_ends target (Some most) =
      let g = call.view.generation in
      elim (is_worn_word target.version g) as (λ b. LookEnds false (cond b (ends (once.Worn target.node target.version))
      (goes_to (at_node call target.node target.hops) (look.Lock (sighting_of target) (locked_word g (kept_count target.version g)))))) [ true ↦ refl | false ↦ tt ]

  given_up : (walk : Walk) (x : ℕ) (why : Again) → CanGiveUp walk x why → IsGivenUp why
  given_up walk x (again.Locked node word) can = tt
  given_up walk x (again.Hops count) can = tt
  given_up walk x (again.Moved node first second) can = absurd can
  given_up walk x again.LogFull can = absurd can
  given_up walk x again.NoFree can = absurd can
  given_up walk x (again.NeedsSplit node) can = absurd can
  given_up walk x (again.Held word) can = absurd can
  given_up walk x (again.Epoch first second) can = absurd can

  walks_end : (walk : Walk) (x : ℕ) (turn : Turn Walk Walked) → HopsAt walk walk.at x turn → LookEnds false (walked_on call turn)
  walks_end walk x (Go next) hops = tt
  walks_end walk x (Done (walked.Again why)) hops = λ walking. given_up walk x why hops
  walks_end walk x (Done (walked.Target target)) hops = came_ends target call.limit

  looks_end : (at : LookupAt) (x : ℕ) → IsLookupAt call at → LookEnds (lookup_landed at) (lookup_at_turned call at x)
  looks_end (look.Floor floor) x here = on (floor_turned floor x)
    where
      on : (turn : Turn Floor ℕ) → LookEnds false (floored call turn)
      on (Go next) = tt
      on (Done node) = tt
  looks_end (look.Walk walk) x here = walks_end walk x (walk_turned walk x) (walks_hop walk x here.sound)
  looks_end (look.Read seen) x here = tt
  looks_end (look.Lock seen locked) x here = elim (x == seen.version) as (λ b. LookEnds true (cond b (goes_to call (look.Clock locked)) (ends (once.Again (Moved call.node seen.version x))))) [
    | true ↦ tt
    | false ↦ λ walking. absurd (cc)
  ]
  looks_end (look.Clock locked) x here =
      let hold : Hold = record { locked = locked; clock = x } in
      elim (is_spent call.limit x) as (λ b. LookEnds true (cond b (goes_to call (look.Spent hold)) (goes_to call (look.Bitmap hold)))) [ true ↦ tt | false ↦ tt ]
  looks_end (look.Spent hold) x here = refl
  looks_end (look.Bitmap hold) x here = tt
  looks_end (look.Prints hold bitmap prints k) x here = grind (arith, candidates_end)
  looks_end (look.Name hold directory left slot k) x here = grind (arith, candidates_end)
  looks_end (look.Value hold directory slot) x here = refl

in_walk : (answer : Once Placed) → IsRefused false answer → EndsInWalk answer
in_walk (once.Done placed) is = is
in_walk (once.Spent clock) is = absurd (cc)
in_walk (once.Worn node word) is = tt
in_walk (once.Again why) is = is refl

-- what a turn answers of a call whose walk hasn't ended
abbrev WalkAnswers : Turn Running (Once Placed) → Type 0
WalkAnswers (Go next) = Unit {0}
WalkAnswers (Done answer) = EndsInWalk answer

get_walks : (lookup : Lookup) (turn : Turn Lookup Looked) → LookEnds false turn → WalkAnswers (wrapped Getting (get_looked lookup.call turn))
get_walks lookup (Go next) is = tt
get_walks lookup (Done (looked.Early answer)) is = in_walk answer is
get_walks lookup (Done (looked.Found found)) is = absurd (cc)

put_walks : (lookup : Lookup) (value : ℕ) (turn : Turn Lookup Looked) → LookEnds false turn → WalkAnswers (wrapped Putting (put_looked lookup.call value turn))
put_walks lookup value (Go next) is = tt
put_walks lookup value (Done (looked.Early answer)) is = in_walk answer is
put_walks lookup value (Done (looked.Found found)) is = absurd (cc)

del_walks : (lookup : Lookup) (turn : Turn Lookup Looked) → LookEnds false turn → WalkAnswers (wrapped Deleting (del_looked lookup.call turn))
del_walks lookup (Go next) is = tt
del_walks lookup (Done (looked.Early answer)) is = in_walk answer is
del_walks lookup (Done (looked.Found found)) is = absurd (cc)

part_walks : (count : ℕ) (turn : Turn Lookup Looked) → WalksOn turn → LookEnds false turn → WalkAnswers (wrapped_part (part_looked count turn))
part_walks count (Go next) way is = tt
part_walks count (Done (looked.Early (once.Done placed))) way is = absurd is
part_walks count (Done (looked.Early (once.Spent clock))) way is = absurd (cc)
part_walks count (Done (looked.Early (once.Worn node word))) way is = tt
part_walks count (Done (looked.Early (once.Again why))) way is = is refl
part_walks count (Done (looked.Found found)) way is = absurd way

-- the end of a look-up that walks
walking_ends : (lookup : Lookup) (x : ℕ) → IsLookupAt lookup.call lookup.at → lookup_landed lookup.at ≡ false → LookEnds false (lookup_turned lookup x)
walking_ends lookup x here walking = subst (λ (b : Bool). LookEnds b (lookup_turned lookup x)) walking (looks_end lookup.call lookup.at x here)

pub walks_end_so : WalksEndSo
walks_end_so (Getting (get.Looking lookup)) x answer sound walking is =
    subst WalkAnswers is (get_walks lookup (lookup_turned lookup x) (walking_ends lookup x sound.0.here walking))
walks_end_so (Getting (get.Checking call hold old)) x answer sound walking is = absurd (cc)
walks_end_so (Putting (put.Single (single_put.Looking lookup value))) x answer sound walking is =
    subst WalkAnswers is (put_walks lookup value (lookup_turned lookup x) (walking_ends lookup x sound.0.here walking))
walks_end_so (Putting (put.Single (single_put.Filling fill))) x answer sound walking is = absurd (cc)
walks_end_so (Putting (put.Single (single_put.Replacing call hold bitmap hit value))) x answer sound walking is = absurd (cc)
walks_end_so (Putting (put.Single (single_put.Finishing finish))) x answer sound walking is = absurd (cc)
walks_end_so (Putting (put.Splitting call hold bitmap value split)) x answer sound walking is = absurd (cc)
walks_end_so (Deleting (del.Single (single_del.Looking lookup))) x answer sound walking is =
    subst WalkAnswers is (del_walks lookup (lookup_turned lookup x) (walking_ends lookup x sound.0.here walking))
walks_end_so (Deleting (del.Single (single_del.Next call hold bitmap hit))) x answer sound walking is = absurd (cc)
walks_end_so (Deleting (del.Single (single_del.Taking call hold bitmap hit take))) x answer sound walking is = absurd (cc)
walks_end_so (Deleting (del.Single (single_del.Refusing call hold bitmap hit))) x answer sound walking is = absurd (cc)
walks_end_so (Deleting (del.Single (single_del.Clearing call hold bitmap hit line))) x answer sound walking is = absurd (cc)
walks_end_so (Deleting (del.Single (single_del.Finishing finish line))) x answer sound walking is = absurd (cc)
walks_end_so (Deleting (del.Merging call hold old place merge)) x answer sound walking is = absurd (cc)
walks_end_so (Parting (part.Looking lookup count)) x answer sound walking is =
    subst WalkAnswers is (part_walks count (lookup_turned lookup x) (walks_on lookup.call lookup.at x sound.1 sound.2) (walking_ends lookup x sound.0.here walking))
walks_end_so (Parting (part.Ordering call seen count load)) x answer sound walking is = absurd (cc)
walks_end_so (Parting (part.Locking call seen count locked)) x answer sound walking is = absurd (cc)
walks_end_so (Parting (part.Dating call seen count way)) x answer sound walking is = absurd (cc)
walks_end_so (Parting (part.Reading reading)) x answer sound walking is = absurd (cc)

-- a look-up alone ends no put that takes place
no_place : (lookup : Lookup) (value : ℕ) (placed : Placed) (landed : Bool) (turn : Turn Lookup Looked) → LookEnds landed turn
    → wrapped Putting (put_looked lookup.call value turn) ≡ Done (once.Done placed) → ⊥
no_place lookup value placed landed (Go next) ends is = cc
no_place lookup value placed landed (Done (looked.Early (once.Done other))) ends is = ends
no_place lookup value placed landed (Done (looked.Early (once.Spent clock))) ends is = cc
no_place lookup value placed landed (Done (looked.Early (once.Worn node word))) ends is = cc
no_place lookup value placed landed (Done (looked.Early (once.Again why))) ends is = cc
no_place lookup value placed landed (Done (looked.Found found)) ends is = cc

no_split_place : (call : Call) (hold : Hold) (bitmap value : ℕ) (placed : Placed) (turn : Turn Split SplitDone)
    → wrapped Putting (put_split call hold bitmap value turn) ≡ Done (once.Done placed) → ⊥
no_split_place call hold bitmap value placed (Go next) is = cc
no_split_place call hold bitmap value placed (Done answer) is = cc

pub puts_spare_splits : PutsSpareSplits
puts_spare_splits (put.Single (single_put.Looking lookup value)) x placed sound is =
    absurd (no_place lookup value placed (lookup_landed lookup.at) (lookup_turned lookup x) (looks_end lookup.call lookup.at x sound.0.here) is)
puts_spare_splits (put.Single (single_put.Filling fill)) x placed sound is = refl
puts_spare_splits (put.Single (single_put.Replacing call hold bitmap hit value)) x placed sound is = refl
puts_spare_splits (put.Single (single_put.Finishing finish)) x placed sound is = refl
puts_spare_splits (put.Splitting call hold bitmap value split) x placed sound is = absurd (no_split_place call hold bitmap value placed (split_turned split x) is)
