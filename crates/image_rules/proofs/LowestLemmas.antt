-- The lowest number of which something holds: how a loop finds it, and how it moves from slots to offsets and words.
use Rattle.std.proofs.Common.{◌≡◌, ℕ, ◌+◌, ◌<◌, ◌≤◌, Option, Some, None, inl, inr, sym, subst, arith}
use Rattle.std.specs.Option.{MatchOption}
use Rattle.std.proofs.lemmas.Bool.{cases_lt}
use Rattle.image_rules.specs.Lowest.{IsLowest}

-- P holds of none of the first so many numbers.
abbrev pub NoneBelow : (ℕ → Type 0) → ℕ → Type 0
NoneBelow P count = (number : ℕ) → number < count → ¬ P number

pub none_below-next : (P : ℕ → Type 0) (count : ℕ) → NoneBelow P count → ¬ P count → NoneBelow P (count + 1)
none_below-next P count none here number within holds =
    elim (cases_lt number count) as (λ _. ⊥) [
      | inl passed ↦ none number passed holds
      | inr reached ↦ let last : number ≡ count = omega arith in here (subst P last holds)
    ]

-- where it holds of none but of the first so many, it holds of none
pub none_at_all : (P : ℕ → Type 0) (count : ℕ) → ((number : ℕ) → P number → number < count) → NoneBelow P count → IsLowest P None
none_at_all P count within none number holds = none number (within number holds) holds

-- Q holds of the positions of the numbers of which P holds, and of no other; and positions rise with their numbers.
pub record Moves (P Q : ℕ → Type 0) (position : ℕ → ℕ) : Type 0 where
  pub to : (number : ℕ) → P number → Q (position number)
  pub from : (there : ℕ) → Q there → (number : ℕ) × P number × (position number ≡ there)
  pub rises : (number other : ℕ) → position number < position other → number < other

pub lowest-none : (P Q : ℕ → Type 0) (position : ℕ → ℕ) (result : Option ℕ) → Moves P Q position → result ≡ None → IsLowest P None → IsLowest Q result
lowest-none P Q position result moves is none = subst (IsLowest Q) (sym is) (λ there holds. let at = moves.from there holds in none at.0 at.1)

pub lowest-some : (P Q : ℕ → Type 0) (position : ℕ → ℕ) (number result : ℕ) → Moves P Q position → result ≡ position number → IsLowest P (Some number) →
    IsLowest Q (Some result)
lowest-some P Q position number result moves is lowest = subst (λ n. IsLowest Q (Some n)) (sym is) (
  moves.to number lowest.0,
  λ there below holds.
      let at = moves.from there holds in
      lowest.1 at.0 (moves.rises at.0 number (subst (λ n. n < position number) (sym at.2) below)) at.1,
)

-- the first number of a range of which P holds, where it holds of none beyond
pub lowest_from_range : (P : ℕ → Type 0) (count : ℕ) (result : Option ℕ) → ((number : ℕ) → P number → number < count)
    → MatchOption result ((k : ℕ) → 0 ≤ k → k < count → ¬ P k) (λ i. (0 ≤ i) × (i < count) × P i × ((k : ℕ) → 0 ≤ k → k < i → ¬ P k)) → IsLowest P result
lowest_from_range P count None within none = λ number holds. none number (omega arith) (within number holds) holds
lowest_from_range P count (Some i) within is = (is.2, λ lower below. is.3 lower (omega arith) below)

-- the same for a search through the slots of a node
pub lowest_slot : (P : ℕ → Type 0) (slots count : ℕ) (result : Option ℕ) → count ≡ slots → ((slot : ℕ) → P slot → slot < slots)
    → MatchOption result ((k : ℕ) → 0 ≤ k → k < count → ¬ P k) (λ i. (0 ≤ i) × (i < count) × P i × ((k : ℕ) → 0 ≤ k → k < i → ¬ P k)) → IsLowest P result
lowest_slot P slots count result same within found = lowest_from_range P count result (λ slot is. subst (λ n. slot < n) (sym same) (within slot is)) found
