-- The lowest number of which something holds, and the first word in the order in which an image is checked.
use Rattle.std.specs.Prelude.{◌≡◌, ℕ, ◌<◌, Option, Some, None}
use Rattle.pm_words.specs.declared.layout.Layout.{Layout}
use Rattle.pm_words.specs.Locations.{Word, word_number}

-- P holds of the number and of none below; or, where there is no such number, of none at all.
abbrev pub IsLowest : (ℕ → Type 0) → Option ℕ → Type 0
IsLowest P None = (number : ℕ) → ¬ P number
IsLowest P (Some number) = P number × ((lower : ℕ) → lower < number → ¬ P lower)

-- The number is that of an image word of which P holds.
pub record IsNumberOf (l : Layout) (P : Word → Type 0) (number : ℕ) : Type 0 where
  pub word : Word
  pub numbered : word_number l word ≡ number
  pub holds : P word

-- P holds of no word at any position of the list before this one; and at this position the number is the lowest of a
-- word of which it holds.
pub record IsFirstAt (l : Layout) (P : ℕ → Word → Type 0) (position number : ℕ) : Type 0 where
  pub none_before : (before : ℕ) (w : Word) → before < position → ¬ P before w
  pub lowest : IsLowest (IsNumberOf l (P position)) (Some number)

-- The word is the first of which P holds, in the order of positions and at one position in the order of words; or P
-- holds of none.
abbrev pub IsFirst : Layout → (ℕ → Word → Type 0) → Option ℕ → Type 0
IsFirst l P None = (position : ℕ) (w : Word) → ¬ P position w
IsFirst l P (Some number) = (position : ℕ) × IsFirstAt l P position number
