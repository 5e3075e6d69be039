-- What a part of a range scan is told, and what it lists at its end.
use Rattle.std.proofs.Common.{◌≡◌, ℕ, List, [], ◌∷◌, ◌++◌, refl, sym, ap, ◌∙◌, subst}
use Rattle.std.proofs.lemmas.Option.{IfSome_then}
use Rattle.std.specs.Prelude.{Some, IfSome}
use Rattle.cat_history.specs.Writes.{after}
use Rattle.pm_words.specs.declared.layout.Layout.{Layout}
use Rattle.pm_words.specs.declared.machine.Turn.{Turn}
use Rattle.pm_words.specs.declared.machine.Turn.TheVariants.{Go, Done}
use Rattle.call_stages.specs.declared.once.Once.{Once}
use Rattle.call_stages.specs.declared.once.Once.TheVariants as once
use Rattle.call_stages.specs.declared.once.Placed.{Placed}
use Rattle.node_ops.specs.declared.part.Part.{Part}
use Rattle.node_ops.specs.declared.part.PartWords.{PartWords}
use Rattle.node_ops.specs.declared.running.Running.{Running}
use Rattle.node_ops.specs.declared.running.Running.TheVariants.{Getting, Putting, Deleting, Parting}
use Rattle.node_ops.specs.Parts.{Confirms}
use Rattle.node_ops.specs.PartSteps.{IsEarly, early_of, part_count, part_listed, part_turned, placed_of}
use Rattle.node_ops.specs.RunningSteps.{IsRunning, count_in, listed_in, running_turned, wrapped_part}
use Rattle.node_ops.proofs.PartListing.{count_stays, listed_is_told}
use Rattle.index_law.specs.Facts.{Facts}
use Rattle.index_law.specs.Lawful.{HasNames}
use Rattle.index_core.specs.Listings.{ListsAt}
use Rattle.index_core.specs.PartyStates.{words_told}
use Rattle.index_core.proofs.PartFacts.{lists_range, sound_call}
use Rattle.pac_index.specs.Kept.{ListsNow}
use Rattle.pac_index.specs.Calls.{run_of}

-- What lists the map at its place, up to where its node's range ends, lists a range of the map.
pub lists_now : (l : Layout) (f : Facts) (m : Running) (x : ℕ) → IsRunning m → ((place : ℕ) → HasNames (after f.base f.history place)) → ListsAt l f m x → ListsNow f.base f.history m x
lists_now l f (Getting get) x here named is = tt
lists_now l f (Putting put) x here named is = tt
lists_now l f (Deleting del) x here named is = tt
lists_now l f (Parting p) x here named is = IfSome_then (part_listed p) is (λ words lists. λ same. lists_range l f _ _ (part_count p) words (sound_call p here).packed.named (named words.place) (lists same))

-- A machine that is told one number more.
go_same : {M A : Type 0} (n m : M) → ◌≡◌ {A = Turn M A} (Go n) (Go m) → n ≡ m
go_same n m e = cc

run_none : {M A : Type 0} (turned : M → ℕ → Turn M A) (t : Turn M A) → run_of turned t [] ≡ t
run_none turned (Go m) = refl
run_none turned (Done answer) = refl

pub run_more : {M A : Type 0} (turned : M → ℕ → Turn M A) (t : Turn M A) (told : List ℕ) (m : M) (x : ℕ) → run_of turned t told ≡ Go m → run_of turned t (told ++ x ∷ []) ≡ turned m x
run_more turned (Done answer) told m x is = absurd (cc)
run_more turned (Go n) [] m x is = ap (λ q. run_of turned (turned q x) []) (go_same n m is) ∙ run_none turned (turned m x)
run_more turned (Go n) (y ∷ ys) m x is = run_more turned (turned n y) ys m x is

-- A part goes on with the same count.
abbrev CountsSo : ℕ → Turn Running (Once Placed) → Type 0
CountsSo count (Go m) = count_in m ≡ Some count
CountsSo count (Done answer) = Unit {0}

counts_on : (count : ℕ) (m : Running) (x : ℕ) → count_in m ≡ Some count → CountsSo count (running_turned m x)
counts_on count m x here = at (running_turned m x) refl
  where
    at : (turn : Turn Running (Once Placed)) → running_turned m x ≡ turn → CountsSo count turn
    at (Go next) is = count_stays m next x is ∙ here
    at (Done answer) is = tt

pub run_counts : (count : ℕ) (t : Turn Running (Once Placed)) (told : List ℕ) (m : Running) → CountsSo count t → run_of running_turned t told ≡ Go m → count_in m ≡ Some count
run_counts count (Done answer) told m so is = absurd (cc)
run_counts count (Go n) [] m so is = ap count_in (sym (go_same n m is)) ∙ so
run_counts count (Go n) (x ∷ xs) m so is = run_counts count (running_turned n x) xs m (counts_on count n x so) is

-- It goes on as the part machine that it wraps.
run_wraps : (t : Turn Part (Once PartWords)) (told : List ℕ) → run_of running_turned (wrapped_part t) told ≡ wrapped_part (run_of part_turned t told)
run_wraps (Done answer) told = refl
run_wraps (Go p) [] = refl
run_wraps (Go p) (x ∷ xs) = run_wraps (part_turned p x) xs

wraps_go : (t : Turn Part (Once PartWords)) (m : Running) → wrapped_part t ≡ Go m → (p : Part) × ((t ≡ Go p) × (Parting p ≡ m))
wraps_go (Go p) m is = (p, (refl, go_same (Parting p) m is))
wraps_go (Done answer) m is = absurd (cc)

wraps_early : (t : Turn Part (Once PartWords)) (answer : Once Placed) → IsEarly answer → wrapped_part t ≡ Done answer → t ≡ Done (early_of answer)
wraps_early (Go p) answer early is = absurd (cc)
wraps_early (Done b) answer early is = ap Done (at b answer early (done_same (placed_of b) answer is))
  where
    done_same : (a b : Once Placed) → ◌≡◌ {A = Turn Running (Once Placed)} (Done a) (Done b) → a ≡ b
    done_same a b e = cc

    at : (b : Once PartWords) (answer : Once Placed) → IsEarly answer → placed_of b ≡ answer → b ≡ early_of answer
    at (once.Done words) answer early is = absurd (subst IsEarly (sym is) early)
    at (once.Spent clock) answer early is = ap early_of is
    at (once.Worn node word) answer early is = ap early_of is
    at (once.Again why) answer early is = ap early_of is

pub early_ran : (p : Part) (told : List ℕ) (answer : Once Placed) → IsEarly answer → run_of running_turned (Go (Parting p)) told ≡ Done answer → run_of part_turned (Go p) told ≡ Done (early_of answer)
early_ran p told answer early is = wraps_early (run_of part_turned (Go p) told) answer early (sym (run_wraps (Go p) told) ∙ is)

pub listed_ran : (p : Part) (told : List ℕ) (m : Running) (x : ℕ) (words : PartWords) → run_of running_turned (Go (Parting p)) told ≡ Go m → listed_in m ≡ Some words → Confirms m x words → run_of part_turned (Go p) (told ++ x ∷ []) ≡ Done (once.Done words)
listed_ran p told m x words is lists same =
    let last = wraps_go (run_of part_turned (Go p) told) m (sym (run_wraps (Go p) told) ∙ is) in
    run_more part_turned (Go p) told last.0 x last.1.0 ∙ listed_is_told last.0 words (ap listed_in last.1.1 ∙ lists) x (subst (λ (q : Running). Confirms q x words) (sym last.1.1) same)

-- What ended early is answered as its look-up, and lists nothing.
pub early_placed : (answer : Once Placed) → IsEarly answer → placed_of (early_of answer) ≡ answer
early_placed (once.Done placed) early = absurd early
early_placed (once.Spent clock) early = refl
early_placed (once.Worn node word) early = refl
early_placed (once.Again why) early = refl

pub early_lists : (P : PartWords → Type 0) (answer : Once Placed) → IsEarly answer → IfSome (words_told (early_of answer)) P
early_lists P (once.Done placed) early = absurd early
early_lists P (once.Spent clock) early = tt
early_lists P (once.Worn node word) early = tt
early_lists P (once.Again why) early = tt
