-- The permutations of the nodes as a row of words tells them, and what leaves them.
use Rattle.std.proofs.Common.{◌≡◌, ◌≢◌, ℕ, ◌<◌, ◌+◌, Bool, true, false, cond, ◌&&◌, List, slice_set, refl, sym, ap, subst, arith}
use Rattle.std.specs.Prelude.{nat_lt}
use Rattle.std.proofs.lemmas.Bool.{lt-ltb, ltb-true}
use Rattle.std.proofs.lemmas.List.{set-get_or}
use Rattle.pm_words.specs.declared.layout.Layout.{Layout}
use Rattle.pm_words.specs.declared.action.Action.{Action}
use Rattle.pm_words.specs.Locations.{Line, Location, Volatile, Cached, Durable, HasLocation, at, address_of}
use Rattle.pm_words.specs.Rows.{acted}
use Rattle.pm_words.proofs.Apart.{at-set_other}
use Rattle.pm_words.proofs.Kept.{action_address-drain}
use Rattle.pm_words.specs.Offsets.{status_offset, prev_offset, permutation_version_offset}
use Rattle.call_stages.specs.Stages.{Stage}
use Rattle.call_stages.specs.Lines.{line_address}
use Rattle.call_stages.specs.AnySteps.{IsBeside as IsBesideAction, loads_line, stores_line, drains_line, stores_prev, loads_layer, on_permutation, loads, stores, volatile_address}
use Rattle.permutation_law.specs.Permuted.{made_at, permutation_in}
use Rattle.permutation_law.specs.Laws.{IsSpared}
use Rattle.index_law.specs.Beside.{IsBeside}
use Rattle.index_law.specs.Laws.{Allowed}
use Rattle.index_law.proofs.Beside.{nodes_leave_others}
use Rattle.index_law.proofs.Places.{offset_at}

-- what is read of a node of the layout, or 0
guarded : (b : Bool) (x y : ℕ) → (b ≡ true → x ≡ y) → cond b x 0 ≡ cond b y 0
guarded true x y same = same refl
guarded false x y same = refl

guarded_both : (a b : Bool) (x y : ℕ) → (a ≡ true → b ≡ true → x ≡ y) → cond (a && b) x 0 ≡ cond (a && b) y 0
guarded_both true true x y same = same refl refl
guarded_both true false x y same = refl
guarded_both false b x y same = refl

pub made_at-here : (l : Layout) (words : List ℕ) (n : ℕ) → n < l.nodes → made_at l words n ≡ at l words (Volatile n permutation_version_offset)
unfolding made_at
made_at-here l words n here = rw (lt-ltb n l.nodes here) refl

pub permutation_in-here : (l : Layout) (words : List ℕ) (n k : ℕ) → n < l.nodes → k < 8 → permutation_in l words n k ≡ at l words (Volatile n (8 + k))
unfolding permutation_in
permutation_in-here l words n k here low = rw (lt-ltb n l.nodes here) (rw (lt-ltb k 8 low) refl)

pub made_at-alike : (l : Layout) (words words' : List ℕ) (n : ℕ) → (n < l.nodes → at l words' (Volatile n permutation_version_offset) ≡ at l words (Volatile n permutation_version_offset)) → made_at l words' n ≡ made_at l words n
unfolding made_at
made_at-alike l words words' n same = guarded (nat_lt n l.nodes) (at l words' (Volatile n permutation_version_offset)) (at l words (Volatile n permutation_version_offset)) (λ here. same (ltb-true n l.nodes here))

pub permutation_in-alike : (l : Layout) (words words' : List ℕ) (n k : ℕ) → (n < l.nodes → k < 8 → at l words' (Volatile n (8 + k)) ≡ at l words (Volatile n (8 + k)))
    → permutation_in l words' n k ≡ permutation_in l words n k
unfolding permutation_in
permutation_in-alike l words words' n k same =
    guarded_both (nat_lt n l.nodes) (nat_lt k 8) (at l words' (Volatile n (8 + k))) (at l words (Volatile n (8 + k))) (λ here low. same (ltb-true n l.nodes here) (ltb-true k 8 low))

pub permutations_alike : (l : Layout) (words words' : List ℕ) (n : ℕ) → ((k : ℕ) → n < l.nodes → k < 8 → at l words' (Volatile n (8 + k)) ≡ at l words (Volatile n (8 + k)))
    → permutation_in l words' n ≡ permutation_in l words n
permutations_alike l words words' n same = λ i k. permutation_in-alike l words words' n k (same k) i

-- which volatile word a location is
-- the permutation of a node stays, with its version
pub record IsLeft (l : Layout) (words words' : List ℕ) (n : ℕ) : Type 0 where
  pub made : made_at l words' n ≡ made_at l words n
  pub permutation : permutation_in l words' n ≡ permutation_in l words n

-- where its words are as they were
pub left_by : (l : Layout) (words words' : List ℕ) (n : ℕ) → ((offset : ℕ) → n < l.nodes → 2 < offset → offset < 16 → at l words' (Volatile n offset) ≡ at l words (Volatile n offset)) → IsLeft l words words' n
left_by l words words' n same = record {
  made = made_at-alike l words words' n (λ here. same permutation_version_offset here (omega arith) (omega arith));
  permutation = permutations_alike l words words' n (λ k here low. same (8 + k) here (omega arith) (omega arith));
}

pub left_same : (l : Layout) (words words' : List ℕ) (n : ℕ) → words' ≡ words → IsLeft l words words' n
left_same l words words' n same = record { made = ap (λ v. made_at l v n) same; permutation = ap (λ v. permutation_in l v n) same }

-- a store elsewhere leaves it
pub left_stored : (l : Layout) (words : List ℕ) (p : Location) (y n : ℕ) → HasLocation l p → ((offset : ℕ) → 2 < offset → Volatile n offset ≢ p) → IsLeft l words (slice_set words (address_of l p) y) n
left_stored l words p y n has other = left_by l words (slice_set words (address_of l p) y) n (λ offset here least most. at-set_other l words p (Volatile n offset) y has (here, most) (other offset least))

-- no step on nodes touches it
none_touched : (n offset : ℕ) → 2 < offset → IsBeside (Volatile n offset)
none_touched n offset least = record {
  clock = λ e. cc;
  status = λ m e. let no : offset ≡ status_offset = ap offset_at e in omega arith;
  cached = λ m o e. cc;
  durable = λ m o e. cc;
}

pub left_by_nodes : (l : Layout) (words : List ℕ) (stage : Stage) (a : Action) (n : ℕ) → Allowed l stage a → IsLeft l words (acted l words a) n
left_by_nodes l words stage a n allowed = left_by l words (acted l words a) n (λ offset here least most. nodes_leave_others l words stage a (Volatile n offset) (here, most) (none_touched n offset least) allowed)

-- nor one beside them
pub left_beside : (l : Layout) (words : List ℕ) (a : Action) (n : ℕ) → (is : IsBesideAction l a) → IsSpared is → IsLeft l words (acted l words a) n
left_beside l words a n (loads_line {c = c} {j = j} {offset = offset} has) spared = left_same l words (acted l words a) n (set-get_or words (line_address l c j offset) 0)
left_beside l words a n (stores_line {c = c} {j = j} {offset = offset} {y = y} has fits) spared = left_stored l words (Cached (Line c j offset)) y n has (λ o least e. cc)
left_beside l words a n (drains_line {c = c} {j = j} {offset = offset} {y = y} has fits) spared =
    subst (λ (place : ℕ). IsLeft l words (slice_set words place y) n) (sym (action_address-drain l (Line c j offset) y)) (left_stored l words (Durable (Line c j offset)) y n has (λ o least e. cc))
left_beside l words a n (stores_prev {n = m} {y = y} here fits) spared =
    left_stored l words (Volatile m prev_offset) y n (here, omega arith) (λ o least e. let no : o ≡ prev_offset = ap offset_at e in omega arith)
left_beside l words a n (loads_layer {w = v} place) spared = left_same l words (acted l words a) n (set-get_or words (address_of l (Cached v)) 0)
left_beside l words a n (on_permutation (loads {n = m} {offset = offset} here of)) spared = left_same l words (acted l words a) n (set-get_or words (volatile_address l m offset) 0)
left_beside l words a n (on_permutation (stores here of fits)) spared = absurd spared
