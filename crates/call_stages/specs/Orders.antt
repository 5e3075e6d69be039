-- The order of merged nodes: by their prevs no way through them comes back.
use Rattle.std.specs.Prelude.{◌≡◌, ℕ, ◌<◌, ◌⊎◌, List, [], ◌∷◌}
use Rattle.std.specs.List.{AllByRecursion}

-- A number is one of these.
abbrev pub IsOneOf : List ℕ → ℕ → Type 0
IsOneOf [] n = ⊥
IsOneOf (k ∷ later) n = (n ≡ k) ⊎ IsOneOf later n

-- The prev of each of these that is GONE, if that is GONE too, is a later one.
abbrev pub Ordered : (ℕ → Type 0) → (ℕ → ℕ) → List ℕ → Type 0
Ordered gone prev [] = Unit {0}
Ordered gone prev (n ∷ later) = (gone n → gone (prev n) → IsOneOf later (prev n)) × Ordered gone prev later

-- Each stands there once.
abbrev pub StandOnce : List ℕ → Type 0
StandOnce [] = Unit {0}
StandOnce (n ∷ later) = (IsOneOf later n → ⊥) × StandOnce later

-- The GONE nodes in an order in which the prev of each leads to a later one or to a node that isn't GONE.
pub record AreInOrder (most : ℕ) (gone : ℕ → Type 0) (prev : ℕ → ℕ) : Type 0 where
  pub order : List ℕ
  pub all : (n : ℕ) → gone n → IsOneOf order n
  pub ordered : Ordered gone prev order
  pub within : AllByRecursion (λ n. n < most) order
  pub once : StandOnce order
