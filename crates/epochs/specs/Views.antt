-- Sums over the parties of the views of a table.
use Rattle.std.specs.Prelude.{ℕ, ◌+◌, Bool, true, false, List, [], ◌∷◌}

-- one where it is so
abbrev pub one_if : Bool → ℕ
one_if true = 1
one_if false = 0

-- what this gives of the parties of a view together,
abbrev pub in_view : {A : Type 0} → (A → ℕ) → List A → ℕ
in_view count [] = 0
in_view count (m ∷ ms) = count m + in_view count ms

-- and of those of all views
abbrev pub in_views : {A : Type 0} → (A → ℕ) → List (List A) → ℕ
in_views count [] = 0
in_views count (v ∷ vs) = in_view count v + in_views count vs
