-- What a part lists as it gives its node back, and that its count stays.
use Rattle.std.proofs.Common.{◌≡◌, ℕ, true, false, List, Option, Some, None, inl, inr, refl, subst, ap}
use Rattle.pm_words.specs.declared.machine.Turn.{Turn}
use Rattle.pm_words.specs.declared.machine.Turn.TheVariants.{Go, Done}
use Rattle.call_stages.specs.declared.once.Once.{Once}
use Rattle.call_stages.specs.declared.once.Once.TheVariants as once
use Rattle.call_stages.specs.declared.once.Placed.{Placed}
use Rattle.node_ops.specs.declared.call.Call.{Call}
use Rattle.node_ops.specs.declared.lookup.Looked.{Looked}
use Rattle.node_ops.specs.declared.lookup.Looked.TheVariants as looked
use Rattle.node_ops.specs.declared.lookup.Lookup.{Lookup}
use Rattle.node_ops.specs.declared.part.PartWords.{PartWords}
use Rattle.node_ops.specs.declared.part.ReadingAt.TheVariants as at
use Rattle.node_ops.specs.declared.part.Part.{Part}
use Rattle.node_ops.specs.declared.part.Part.TheVariants as part
use Rattle.node_ops.specs.declared.running.Running.{Running}
use Rattle.node_ops.specs.declared.running.Running.TheVariants.{Getting, Putting, Deleting, Parting}
use Rattle.node_ops.specs.LookupSteps.{lookup_turned}
use Rattle.node_ops.specs.GetSteps.{get_turned}
use Rattle.node_ops.specs.PutSteps.{put_turned}
use Rattle.node_ops.specs.DelSteps.{del_turned}
use Rattle.data_list.specs.declared.target.Sighting.{Sighting}
use Rattle.permutation.specs.declared.load.LoadPermutation.{LoadPermutation}
use Rattle.permutation.specs.declared.store.StorePermutation.{StorePermutation}
use Rattle.permutation.specs.Loads.{load_turned}
use Rattle.permutation.specs.Stores.{store_turned}
use Rattle.node_ops.specs.declared.part.Reading.{Reading}
use Rattle.node_ops.specs.declared.part.ReadingAt.{ReadingAt}
use Rattle.node_ops.specs.declared.part.Way.{Way}
use Rattle.node_ops.specs.declared.part.Way.TheVariants as ways
use Rattle.node_ops.specs.PartSteps.{part_turned, part_count, part_looked, part_ordered, part_held, part_locked, ordering_turned, early_of, listed_at, reading_turned, reading_at_asks, words_placed, low_value, sorted_by, goes_on, next_at, after_at, with_word, store_on}
use Rattle.node_ops.specs.RunningSteps.{running_turned, wrapped, wrapped_part, count_in}
use Rattle.node_ops.specs.Parts.{GivesVersion, ListedIsTold, ListedIsAnswered, DoneIsListed, CountStays}
use Rattle.std.proofs.Common.{◌==◌, cond, sym, ◌∙◌}
use Rattle.std.specs.Prelude.{IsSomeAnd}
use Rattle.std.proofs.lemmas.Bool.{eqb-true, eq-eqb}
use Rattle.pm_words.specs.declared.again.Again.TheVariants as again
use Rattle.node_ops.specs.PartSteps.{part_words}
use Rattle.node_ops.proofs.PartTurns.{looked_is, ordered_is, goes_is}

pub listed_is_told : ListedIsTold
listed_is_told (part.Looking lookup count) words is x same = absurd (let none : None ≡ Some words = is in cc)
listed_is_told (part.Ordering call seen count load) words is x same = absurd (let none : None ≡ Some words = is in cc)
listed_is_told (part.Locking call seen count locked) words is x same = absurd (let none : None ≡ Some words = is in cc)
listed_is_told (part.Dating call seen count way) words is x same = absurd (let none : None ≡ Some words = is in cc)
listed_is_told (part.Reading reading) words is x same = told reading.at is same
  where
    told : (at : ReadingAt) → listed_at (record reading { at = at }) at ≡ Some words → GivesVersion reading.call.view.layout (reading_at_asks reading.call reading.hold at) x words → reading_turned (record reading { at = at }) at x ≡ Done (once.Done words)
    told at.Clock none gives = absurd (cc)
    told at.Bitmap none gives = absurd (cc)
    told (at.Load slot word) none gives = absurd (cc)
    told (at.Store store) none gives = absurd (cc)
    told at.Check listed gives =
        let whole = record reading { at = at.Check } in
        let words_are : part_words whole ≡ words = ap (λ (o : Option PartWords). elim o [ None ↦ words | Some w ↦ w ]) listed in
        let same_word : x ≡ reading.hold.locked = elim gives [
          | inl loads ↦ loads.1 ∙ ap (λ (w : PartWords). w.version) (sym words_are)
          | inr stores ↦ absurd (cc)
        ] in
        ap (λ b. Done (cond b (once.Done (part_words whole)) (once.Again (again.Moved reading.call.node reading.hold.locked x)))) (eq-eqb x reading.hold.locked same_word)
        ∙ ap (λ (w : PartWords). Done (once.Done w)) words_are
    told at.Unlock listed gives =
        let words_are : part_words (record reading { at = at.Unlock }) ≡ words = ap (λ (o : Option PartWords). elim o [ None ↦ words | Some w ↦ w ]) listed in
        ap (λ (w : PartWords). Done (once.Done w)) words_are

-- what its answer says of the whole call
wrapped_told : (t : Turn Part (Once PartWords)) (words : PartWords) → t ≡ Done (once.Done words) →
    wrapped_part t ≡ Done (once.Done (words_placed words))
wrapped_told t words is = ap wrapped_part is

pub listed_is_answered : ListedIsAnswered
listed_is_answered (Getting get) words is x same = absurd (cc)
listed_is_answered (Putting put) words is x same = absurd (cc)
listed_is_answered (Deleting del) words is x same = absurd (cc)
listed_is_answered (Parting p) words is x same = wrapped_told (part_turned p x) words (listed_is_told p words is x same)

-- a look-up that ends early isn't done
looked_done : (count : ℕ) (turn : Turn Lookup Looked) (placed : Placed) → wrapped_part (part_looked count turn) ≡ Done (once.Done placed) → ⊥
looked_done count (Go lookup) placed is = cc
looked_done count (Done (looked.Early answer)) placed is = early answer is
  where
    early : (answer : Once Placed) → wrapped_part (Done (early_of answer)) ≡ Done (once.Done placed) → ⊥
    early (once.Done other) is = cc
    early (once.Spent clock) is = cc
    early (once.Worn node word) is = cc
    early (once.Again why) is = cc
looked_done count (Done (looked.Found found)) placed is = cc

ordering_done : (call : Call) (seen : Sighting) (count : ℕ) (turn : Turn LoadPermutation (Option (List ℕ))) (placed : Placed) → wrapped_part (ordering_turned call seen count turn) ≡ Done (once.Done placed) → ⊥
ordering_done call seen count (Go load) placed is = cc
ordering_done call seen count (Done order) placed is = cc

locking_done : (call : Call) (seen : Sighting) (count locked x : ℕ) (placed : Placed) → wrapped_part (part_locked call seen count locked x) ≡ Done (once.Done placed) → ⊥
locking_done call seen count locked x placed is = elim (x == seen.version) as (λ b. wrapped_part (cond b (Go (part_held call seen count locked)) (Done (once.Again (again.Moved call.node seen.version x)))) ≡ Done (once.Done placed) → ⊥) [
  | true ↦ λ go. cc
  | false ↦ λ moved. cc
] is

reading_done : (reading : Reading) (at : ReadingAt) (x : ℕ) (placed : Placed) → wrapped_part (reading_turned (record reading { at = at }) at x) ≡ Done (once.Done placed)
    → IsSomeAnd (listed_at (record reading { at = at }) at) (λ words. GivesVersion reading.call.view.layout (reading_at_asks reading.call reading.hold at) x words × (placed ≡ words_placed words))
reading_done reading at.Clock x placed is = absurd (cc)
reading_done reading at.Bitmap x placed is = absurd (cc)
reading_done reading (at.Load slot word) x placed is = absurd (cc)
reading_done reading (at.Store store) x placed is = absurd (cc)
reading_done reading at.Check x placed is =
    let whole = record reading { at = at.Check } in
    elim (x == reading.hold.locked) as (λ b. (x == reading.hold.locked) ≡ b
    → wrapped_part (Done (cond b (once.Done (part_words whole)) (once.Again (again.Moved reading.call.node reading.hold.locked x)))) ≡ Done (once.Done placed)
    → GivesVersion reading.call.view.layout (reading_at_asks reading.call reading.hold at.Check) x (part_words whole) × (placed ≡ words_placed (part_words whole))) [
      | true ↦ λ same now. (inl (refl, eqb-true x reading.hold.locked same), (cc))
      | false ↦ λ other now. absurd (cc)
    ] refl is
reading_done reading at.Unlock x placed is = (inr refl, (cc))

pub done_is_listed : DoneIsListed
done_is_listed (Getting get) x placed counted is = absurd (let none : false ≡ true = counted in cc)
done_is_listed (Putting put) x placed counted is = absurd (let none : false ≡ true = counted in cc)
done_is_listed (Deleting del) x placed counted is = absurd (let none : false ≡ true = counted in cc)
done_is_listed (Parting (part.Looking lookup count)) x placed counted is = absurd (looked_done count (lookup_turned lookup x) placed is)
done_is_listed (Parting (part.Ordering call seen count load)) x placed counted is = absurd (ordering_done call seen count (load_turned load x) placed is)
done_is_listed (Parting (part.Locking call seen count locked)) x placed counted is = absurd (locking_done call seen count locked x placed is)
done_is_listed (Parting (part.Dating call seen count way)) x placed counted is = absurd (cc)
done_is_listed (Parting (part.Reading reading)) x placed counted is = reading_done reading reading.at x placed is

-- how many names it lists at most after a turn, if it goes on
abbrev CountAfter : Option ℕ → Turn Running (Once Placed) → Type 0
CountAfter count (Go next) = count_in next ≡ count
CountAfter count (Done answer) = Unit {0}

-- what is no part stays none
alone_stays : {M : Type 0} (wrap : M → Running) → ((machine : M) → count_in (wrap machine) ≡ None) → (turn : Turn M (Once Placed)) → CountAfter None (wrapped wrap turn)
alone_stays wrap none (Go machine) = none machine
alone_stays wrap none (Done answer) = tt

looked_count : (count : ℕ) (turn : Turn Lookup Looked) → CountAfter (Some count) (wrapped_part (part_looked count turn))
looked_count count turn = looked_is (CountAfter (Some count)) count turn (λ next. refl) (λ call seen. refl) (λ answer. tt)

ordered_count : (call : Call) (seen : Sighting) (count : ℕ) (order : Option (List ℕ)) → part_count (part_ordered call seen count order) ≡ count
ordered_count call seen count (Some words) = refl
ordered_count call seen count None = ordered_is (λ (p : Part). part_count p ≡ count) call seen count refl (λ locked. refl)

ordering_count : (call : Call) (seen : Sighting) (count : ℕ) (turn : Turn LoadPermutation (Option (List ℕ))) → CountAfter (Some count) (wrapped_part (ordering_turned call seen count turn))
ordering_count call seen count (Go load) = refl
ordering_count call seen count (Done order) = ap Some (ordered_count call seen count order)

loaded_count : (reading : Reading) (way : Way) → (sorted_by reading way).count ≡ reading.count
loaded_count reading (ways.Served words) = refl
loaded_count reading (ways.Held words) = refl
loaded_count reading ways.Alone = refl

goes_count : (reading : Reading) (at : ReadingAt) → (goes_on reading at).count ≡ reading.count
goes_count reading at = goes_is (λ (r : Reading). r.count ≡ reading.count) reading at (λ slot word. refl) (loaded_count (record reading { old = low_value reading reading.call.view.layout.slots }) reading.way)

store_count : (reading : Reading) (turn : Turn StorePermutation (Unit {0})) → (store_on reading turn).count ≡ reading.count
store_count reading (Go store) = refl
store_count reading (Done nothing) = refl

reading_count : (reading : Reading) (at : ReadingAt) (x : ℕ) → CountAfter (Some reading.count) (wrapped_part (reading_turned reading at x))
reading_count reading at.Clock x = refl
reading_count reading at.Bitmap x = ap Some (goes_count (record reading { bitmap = x }) (next_at x 0 reading.call.view.layout.slots))
reading_count reading (at.Load slot word) x = ap Some (goes_count (record reading { entries = with_word reading.entries slot word x }) (after_at reading slot word))
reading_count reading at.Check x = tt
reading_count reading (at.Store store) x = ap Some (store_count reading (store_turned store x))
reading_count reading at.Unlock x = tt

counts_so : (running : Running) (x : ℕ) → CountAfter (count_in running) (running_turned running x)
counts_so (Getting get) x = alone_stays (λ m. Getting m) (λ m. refl) (get_turned get x)
counts_so (Putting put) x = alone_stays (λ m. Putting m) (λ m. refl) (put_turned put x)
counts_so (Deleting del) x = alone_stays (λ m. Deleting m) (λ m. refl) (del_turned del x)
counts_so (Parting (part.Looking lookup count)) x = looked_count count (lookup_turned lookup x)
counts_so (Parting (part.Ordering call seen count load)) x = ordering_count call seen count (load_turned load x)
counts_so (Parting (part.Locking call seen count locked)) x = elim (x == seen.version) as (λ b. CountAfter (Some count) (wrapped_part (cond b (Go (part_held call seen count locked)) (Done (once.Again (again.Moved call.node seen.version x)))))) [ true ↦ refl | false ↦ tt ]
counts_so (Parting (part.Dating call seen count way)) x = refl
counts_so (Parting (part.Reading reading)) x = reading_count reading reading.at x

pub count_stays : CountStays
count_stays running next x goes = subst (CountAfter (count_in running)) goes (counts_so running x)
