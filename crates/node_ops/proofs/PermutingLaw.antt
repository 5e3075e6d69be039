-- How what a call has of permutations goes with its turns.
use Rattle.std.proofs.Common.{◌≡◌, ℕ, zero, suc, ◌+◌, ◌<◌, ◌≤◌, ◌==◌, ⊎_elim, true, false, cond, List, ◌∷◌, length, slice_index, slice_set, refl, sym, ap, ◌∙◌, subst, arith}
use Rattle.std.specs.Prelude.{Option, Some, None}
use Rattle.std.proofs.lemmas.Bool.{eqb-true}
use Rattle.std.proofs.lemmas.List.{get_or-set_same, get_or-set_other}
use Rattle.pm_words.specs.declared.action.Action.TheVariants.{Load}
use Rattle.pm_words.specs.declared.layout.Layout.{Layout}
use Rattle.pm_words.specs.declared.machine.Turn.{Turn}
use Rattle.pm_words.specs.declared.machine.Turn.TheVariants.{Go, Done}
use Rattle.pm_words.specs.declared.again.Again.TheVariants as again
use Rattle.data_list.specs.declared.target.Sighting.{Sighting}
use Rattle.data_list.specs.WalkStages.{sight_in}
use Rattle.call_stages.specs.declared.once.Once.{Once}
use Rattle.call_stages.specs.declared.once.Once.TheVariants as once
use Rattle.call_stages.specs.declared.once.Placed.{Placed}
use Rattle.call_stages.specs.Stages.{Stage, Reads, Tells}
use Rattle.permutation.specs.declared.load.LoadPermutation.{LoadPermutation}
use Rattle.permutation.specs.declared.load.LoadPermutationAt.{LoadPermutationAt}
use Rattle.permutation.specs.declared.load.LoadPermutationAt.TheVariants as load_at
use Rattle.permutation.specs.declared.store.StorePermutation.{StorePermutation}
use Rattle.permutation.specs.Loads.{load_turned}
use Rattle.permutation.specs.Sortings as sortings
use Rattle.permutation.specs.Sortings.{Keeps, Sorts, Sorting, Unsorted}
use Rattle.permutation.specs.Stores.{store_turned, words_first}
use Rattle.node_ops.specs.declared.call.Call.{Call}
use Rattle.node_ops.specs.declared.lookup.Looked.{Looked}
use Rattle.node_ops.specs.declared.lookup.Lookup.{Lookup}
use Rattle.node_ops.specs.declared.part.Reading.{Reading}
use Rattle.node_ops.specs.declared.part.ReadingAt.{ReadingAt}
use Rattle.node_ops.specs.declared.part.ReadingAt.TheVariants as at
use Rattle.node_ops.specs.declared.part.Way.{Way}
use Rattle.node_ops.specs.declared.part.Way.TheVariants as ways
use Rattle.node_ops.specs.declared.part.Part.{Part}
use Rattle.node_ops.specs.declared.part.Part.TheVariants as part
use Rattle.node_ops.specs.declared.running.Running.{Running}
use Rattle.node_ops.specs.declared.running.Running.TheVariants.{Getting, Putting, Deleting, Parting}
use Rattle.node_ops.specs.CallStages.{footing_of, footing_after, reply_of, stage_after, part_stage}
use Rattle.node_ops.specs.LookupSteps.{lookup_turned}
use Rattle.node_ops.specs.GetSteps.{get_turned}
use Rattle.node_ops.specs.PutSteps.{put_turned}
use Rattle.node_ops.specs.DelSteps.{del_turned}
use Rattle.node_ops.specs.PartSteps.{goes_on, low_value, sorted_by, next_at, after_at, with_word, part_asks, part_held, part_locked, part_looked, part_ordered, ordering_turned, store_on, reading_at_asks, part_turned, IsOrdering}
use Rattle.node_ops.specs.Permuting.{Permutes, Rereads, TurnsPermute, TurnsReread, sorts, leaves, has_none, stays, begins, goes_on as reads_on, part_sorting, reading_sorting, part_reading, way_reading, sorting_of, sorting_after, reading_of, reading_after}
use Rattle.node_ops.specs.RunningSteps.{running_asks, running_call, running_turned, wrapped, wrapped_part}
use Rattle.node_ops.proofs.Sparing.{SparedStep, any_of}
use Rattle.node_ops.proofs.CallLaw.{after_stage, footing_stage, SparesIn, SparesNow, StoresPermutation, turns_go, stores_uncounted}
use Rattle.node_ops.proofs.PartLaw.{StoresNone}
use Rattle.node_ops.proofs.PartTurns.{looked_is, ordered_is, goes_is}

-- it has stored nothing as it goes on to its node's words
loaded_unsorted : (reading : Reading) (way : Way) → reading_sorting (sorted_by reading way) (sorted_by reading way).at ≡ Unsorted
loaded_unsorted reading (ways.Served words) = refl
loaded_unsorted reading (ways.Held words) = refl
loaded_unsorted reading ways.Alone = refl

goes_unsorted : (reading : Reading) (at : ReadingAt) → reading_sorting (goes_on reading at) (goes_on reading at).at ≡ Unsorted
goes_unsorted reading at = goes_is (λ (r : Reading). reading_sorting r r.at ≡ Unsorted) reading at (λ slot word. refl) (loaded_unsorted (record reading { old = low_value reading reading.call.view.layout.slots }) reading.way)

looked_unsorted : (count : ℕ) (turn : Turn Lookup Looked) → sorting_after (wrapped_part (part_looked count turn)) ≡ Unsorted
looked_unsorted count turn = looked_is (λ (t : Turn Running (Once Placed)). sorting_after t ≡ Unsorted) count turn (λ next. refl) (λ call seen. refl) (λ answer. refl)

ordered_unsorted : (call : Call) (seen : Sighting) (count : ℕ) (order : Option (List ℕ)) → part_sorting (part_ordered call seen count order) ≡ Unsorted
ordered_unsorted call seen count (Some words) = refl
ordered_unsorted call seen count None = ordered_is (λ (p : Part). part_sorting p ≡ Unsorted) call seen count refl (λ locked. refl)

ordering_unsorted : (call : Call) (seen : Sighting) (count : ℕ) (turn : Turn LoadPermutation (Option (List ℕ))) → sorting_after (wrapped_part (ordering_turned call seen count turn)) ≡ Unsorted
ordering_unsorted call seen count (Go load) = refl
ordering_unsorted call seen count (Done order) = ordered_unsorted call seen count order

locking_unsorted : (call : Call) (seen : Sighting) (count locked x : ℕ) → sorting_after (wrapped_part (part_locked call seen count locked x)) ≡ Unsorted
locking_unsorted call seen count locked x = elim (x == seen.version) as (λ b. sorting_after (wrapped_part (cond b (Go (part_held call seen count locked)) (Done (once.Again (again.Moved call.node seen.version x))))) ≡ Unsorted) [
  | true ↦ refl
  | false ↦ refl
]

-- what it has stored after a turn that stores nothing
abbrev KeepsAfter : Layout → Running → ℕ → Type 0
KeepsAfter l m x = Keeps l (sorting_of m) (running_asks m) (stage_after (running_turned m x)) (sorting_after (running_turned m x))

keeps_none : (l : Layout) (m : Running) (x : ℕ) → sorting_of m ≡ Unsorted → sorting_after (running_turned m x) ≡ Unsorted → KeepsAfter l m x
keeps_none l m x before after =
    subst (λ (q : Sorting × Sorting). Keeps l q.0 (running_asks m) (stage_after (running_turned m x)) q.1) (λ k. (sym before k, sym after k)) sortings.has_none

alone_unsorted : {M : Type 0} (wrap : M → Running) → ((machine : M) → sorting_of (wrap machine) ≡ Unsorted) → (turn : Turn M (Once Placed)) → sorting_after (wrapped wrap turn) ≡ Unsorted
alone_unsorted wrap none (Go machine) = none machine
alone_unsorted wrap none (Done answer) = refl

reading_keeps : (l : Layout) (reading : Reading) (at : ReadingAt) (x : ℕ) → reading.call.view.layout ≡ l → StoresNone (part.Reading (record reading { at = at })) → KeepsAfter l (Parting (part.Reading (record reading { at = at }))) x
reading_keeps l reading at.Clock x layout none = sortings.has_none
reading_keeps l reading at.Bitmap x layout none = keeps_none l (Parting (part.Reading (record reading { at = at.Bitmap }))) x refl (goes_unsorted (record reading { at = at.Bitmap; bitmap = x }) (next_at x 0 reading.call.view.layout.slots))
reading_keeps l reading (at.Load slot word) x layout none =
    keeps_none l (Parting (part.Reading (record reading { at = at.Load slot word }))) x refl (goes_unsorted (record reading { at = at.Load slot word; entries = with_word reading.entries slot word x }) (after_at (record reading { at = at.Load slot word }) slot word))
reading_keeps l reading at.Check x layout none = sortings.has_none
reading_keeps l reading (at.Store store) x layout none = absurd none
reading_keeps l reading at.Unlock x layout none =
    subst (λ (k : Layout). Keeps k (sortings.Stored reading.call.node reading.hold.locked) (reading_at_asks reading.call reading.hold at.Unlock) (stage_after (running_turned (Parting (part.Reading (record reading { at = at.Unlock }))) x)) Unsorted) layout
    (sortings.gives_back refl)

call_keeps : (l : Layout) (m : Running) (x : ℕ) → (running_call m).view.layout ≡ l → SparesNow m → KeepsAfter l m x
call_keeps l (Getting get) x layout none = keeps_none l (Getting get) x refl (alone_unsorted (λ k. Getting k) (λ k. refl) (get_turned get x))
call_keeps l (Putting put) x layout none = keeps_none l (Putting put) x refl (alone_unsorted (λ k. Putting k) (λ k. refl) (put_turned put x))
call_keeps l (Deleting del) x layout none = keeps_none l (Deleting del) x refl (alone_unsorted (λ k. Deleting k) (λ k. refl) (del_turned del x))
call_keeps l (Parting (part.Looking lookup count)) x layout none = keeps_none l (Parting (part.Looking lookup count)) x refl (looked_unsorted count (lookup_turned lookup x))
call_keeps l (Parting (part.Ordering call seen count load)) x layout none = keeps_none l (Parting (part.Ordering call seen count load)) x refl (ordering_unsorted call seen count (load_turned load x))
call_keeps l (Parting (part.Locking call seen count locked)) x layout none = keeps_none l (Parting (part.Locking call seen count locked)) x refl (locking_unsorted call seen count locked x)
call_keeps l (Parting (part.Dating call seen count way)) x layout none = sortings.has_none
call_keeps l (Parting (part.Reading reading)) x layout none = reading_keeps l reading reading.at x layout none

stored_permutes : (l : Layout) (g : ℕ) (m : Running) (x : ℕ) → (running_call m).view.layout ≡ l → StoresPermutation m x → Permutes l g m x
stored_permutes l g (Getting get) x layout one = absurd one
stored_permutes l g (Putting put) x layout one = absurd one
stored_permutes l g (Deleting del) x layout one = absurd one
stored_permutes l g (Parting p) x layout one =
    sorts (subst (λ (k : Layout). Sorts k (part_stage p) (part_sorting p) (part_asks p) (sorting_after (wrapped_part (part_turned p x)))) layout one.sorts)
    (stores_uncounted p x one) one.stage one.none

pub turns_permute : TurnsPermute
turns_permute l g m x sound told leads_within = ⊎_elim
    (λ (goes : SparesIn l g m x × SparesNow m).
    let turn = running_turned m x in
    let spared = subst (λ (q : Stage × Stage). SparedStep l g q.0 (running_asks m) x q.1 (reply_of turn)) (λ k. (footing_stage m k, after_stage turn k))
    (any_of l g (running_call m).view.caller (footing_of m) (footing_after turn) (running_asks m) x (reply_of turn) goes.0) in
    leaves spared.step spared.spares (call_keeps l m x sound.layout goes.1))
    (λ (one : StoresPermutation m x). stored_permutes l g m x sound.layout one)
    (turns_go l g m x sound told leads_within)

-- the words that it has read, with one more
first_set : (words : List ℕ) (number x n : ℕ) → n ≤ number → words_first (slice_set words number x) n ≡ words_first words n
first_set words number x zero few = refl
first_set words number x (suc n) few =
    let rest = first_set words number x n (omega arith) in
    let here : slice_index (slice_set words number x) n ≡ slice_index words n = get_or-set_other words number n x 0 (λ e. omega arith) in
    λ i. (n, here i) ∷ rest i

one_read : (words : List ℕ) (number x : ℕ) → number < length words → (q : ℕ → ℕ) → Tells (words_first words number) q → q number ≡ x → Tells (words_first (slice_set words number x) (number + 1)) q
one_read words number x within q tells is =
    let next : suc number ≡ number + 1 = omega arith in
    subst (λ n. Tells (words_first (slice_set words number x) n) q) next
    (is ∙ sym (get_or-set_same words number x 0 within), subst (λ (seen : List (ℕ × ℕ)). Tells seen q) (sym (first_set words number x number (omega arith))) tells)

alone_unread : {M : Type 0} (wrap : M → Running) → ((machine : M) → reading_of (wrap machine) ≡ None) → (turn : Turn M (Once Placed)) → reading_after (wrapped wrap turn) ≡ None
alone_unread wrap none (Go machine) = none machine
alone_unread wrap none (Done answer) = refl

looked_unread : (count : ℕ) (turn : Turn Lookup Looked) → reading_after (wrapped_part (part_looked count turn)) ≡ None
looked_unread count turn = looked_is (λ (t : Turn Running (Once Placed)). reading_after t ≡ None) count turn (λ next. refl) (λ call seen. refl) (λ answer. refl)

ordered_unread : (call : Call) (seen : Sighting) (count : ℕ) → part_reading (part_ordered call seen count None) ≡ None
ordered_unread call seen count = ordered_is (λ (p : Part). part_reading p ≡ None) call seen count refl (λ locked. refl)

-- a turn of the load of a permutation
ordering_rereads : (l : Layout) (call : Call) (seen : Sighting) (count : ℕ) (load : LoadPermutation) (at : LoadPermutationAt) (x : ℕ) → call.view.layout ≡ l → IsOrdering call seen (record load { at = at })
    → Rereads l (Parting (part.Ordering call seen count (record load { at = at }))) x
ordering_rereads l call seen count load load_at.Version x layout sound =
    elim (x == load.version) as (λ b. (x == load.version) ≡ b → reading_after (wrapped_part (ordering_turned call seen count (cond b (Go (record load { at = load_at.Word 0 })) (Done None)))) ≡ reading_after (running_turned machine x) → Rereads l machine x) [
      | true ↦ λ same now. begins {n = load.node} {v = load.version} {k = sight_in seen} {h = None}
          (λ i. Reads (sym sound.node i) (sym sound.version i) (sight_in seen) None)
          (ap (λ (k : Layout). Load (sortings.permutation_version_address k load.node)) (sound.layout ∙ layout))
          (eqb-true x load.version same) (sym now)
      | false ↦ λ other now. has_none (sym now ∙ ordered_unread call seen count)
    ] refl refl
  where
    machine : Running
    machine = Parting (part.Ordering call seen count (record load { at = load_at.Version }))
ordering_rereads l call seen count load (load_at.Word number) x layout sound =
    let low : number < 8 = sound.loads.here in
    let room : length load.words ≡ 8 = sound.loads.room in
    elim (number + 1 == 8) as (λ b. (number + 1 == 8) ≡ b
    → reading_after (wrapped_part (ordering_turned call seen count (cond b (Done (Some (slice_set load.words number x))) (Go (record load { words = slice_set load.words number x; at = load_at.Word (number + 1) }))))) ≡ reading_after (running_turned machine x)
    → Rereads l machine x) [
      | true ↦ λ last now.
          let eight : number + 1 ≡ 8 = eqb-true (number + 1) 8 last in
          reads_on {n = load.node} {v = load.version} {k = number} {after = words_first (slice_set load.words number x) (number + 1)} refl low
          (ap (λ (k : Layout). Load (sortings.permutation_address k load.node number)) (sound.layout ∙ layout))
          (one_read load.words number x (omega arith))
          (sym now ∙ (λ i. Some (record { node = sym sound.node i; version = sym sound.version i; seen = words_first (slice_set load.words number x) (sym eight i) })))
      | false ↦ λ more now.
          reads_on {n = load.node} {v = load.version} {k = number} {after = words_first (slice_set load.words number x) (number + 1)} refl low
          (ap (λ (k : Layout). Load (sortings.permutation_address k load.node number)) (sound.layout ∙ layout))
          (one_read load.words number x (omega arith))
          (sym now)
    ] refl refl
  where
    machine : Running
    machine = Parting (part.Ordering call seen count (record load { at = load_at.Word number }))

loaded_reading : (reading : Reading) (way : Way) → reading.way ≡ way → way_reading (sorted_by reading way).call (sorted_by reading way).hold.locked (sorted_by reading way).way ≡ way_reading reading.call reading.hold.locked reading.way
loaded_reading reading (ways.Served words) is = refl
loaded_reading reading (ways.Held words) is = sym (ap (way_reading reading.call reading.hold.locked) is)
loaded_reading reading ways.Alone is = refl

goes_reading : (reading : Reading) (at : ReadingAt) → part_reading (part.Reading (goes_on reading at)) ≡ part_reading (part.Reading reading)
goes_reading reading at =
    goes_is (λ (r : Reading). part_reading (part.Reading r) ≡ part_reading (part.Reading reading)) reading at (λ slot word. refl)
    (loaded_reading (record reading { old = low_value reading reading.call.view.layout.slots }) reading.way refl)

stored_reading : (reading : Reading) (turn : Turn StorePermutation (Unit {0})) → part_reading (part.Reading (store_on reading turn)) ≡ part_reading (part.Reading reading)
stored_reading reading (Go store) = refl
stored_reading reading (Done nothing) = refl

reading_rereads : (l : Layout) (reading : Reading) (at : ReadingAt) (x : ℕ) → Rereads l (Parting (part.Reading (record reading { at = at }))) x
reading_rereads l reading at.Clock x = stays refl
reading_rereads l reading at.Bitmap x = stays (goes_reading (record reading { at = at.Bitmap; bitmap = x }) (next_at x 0 reading.call.view.layout.slots))
reading_rereads l reading (at.Load slot word) x = stays (goes_reading (record reading { at = at.Load slot word; entries = with_word reading.entries slot word x }) (after_at (record reading { at = at.Load slot word }) slot word))
reading_rereads l reading at.Check x = has_none refl
reading_rereads l reading (at.Store store) x = stays (stored_reading (record reading { at = at.Store store }) (store_turned store x))
reading_rereads l reading at.Unlock x = has_none refl

locking_unread : (call : Call) (seen : Sighting) (count locked x : ℕ) → reading_after (wrapped_part (part_locked call seen count locked x)) ≡ None
locking_unread call seen count locked x = elim (x == seen.version) as (λ b. reading_after (wrapped_part (cond b (Go (part_held call seen count locked)) (Done (once.Again (again.Moved call.node seen.version x))))) ≡ None) [
  | true ↦ refl
  | false ↦ refl
]

pub turns_reread : TurnsReread
turns_reread l g (Getting get) x sound told = has_none (alone_unread (λ k. Getting k) (λ k. refl) (get_turned get x))
turns_reread l g (Putting put) x sound told = has_none (alone_unread (λ k. Putting k) (λ k. refl) (put_turned put x))
turns_reread l g (Deleting del) x sound told = has_none (alone_unread (λ k. Deleting k) (λ k. refl) (del_turned del x))
turns_reread l g (Parting (part.Looking lookup count)) x sound told = has_none (looked_unread count (lookup_turned lookup x))
turns_reread l g (Parting (part.Ordering call seen count load)) x sound told = ordering_rereads l call seen count load load.at x sound.layout sound.here
turns_reread l g (Parting (part.Locking call seen count locked)) x sound told = has_none (locking_unread call seen count locked x)
turns_reread l g (Parting (part.Dating call seen count way)) x sound told = stays refl
turns_reread l g (Parting (part.Reading reading)) x sound told = reading_rereads l reading reading.at x
