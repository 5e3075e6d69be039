-- Sums over the parties of views, as views change.
use Rattle.std.proofs.Common.{◌≡◌, ◌≢◌, ℕ, zero, suc, ◌+◌, ◌≤◌, List, [], ◌∷◌, ◌++◌, set, refl, sym, ap, arith}
use mathlib.Core.Option.{some, some-injective, some-ne-none}
use lib.ListN.{get_elem?}
use Rattle.epochs.specs.Views.{in_view, in_views}

module _ {A : Type 0} (count : A → ℕ) where
  pub in_append : (v w : List A) → in_view count (v ++ w) ≡ in_view count v + in_view count w
  in_append [] w = omega arith
  in_append (m ∷ ms) w = let rest = in_append ms w in omega arith

  -- one party's part, and one view's, is no more than all
  pub in_there : (v : List A) (k : ℕ) (m : A) → get_elem? v k ≡ some m → count m ≤ in_view count v
  in_there [] k m at = absurd (some-ne-none m (sym at))
  in_there (x ∷ xs) zero m at = let here = ap count (some-injective x m at) in omega arith
  in_there (x ∷ xs) (suc k) m at = let rest = in_there xs k m at in omega arith

  in_one : (vs : List (List A)) (i : ℕ) (v : List A) → get_elem? vs i ≡ some v → in_view count v ≤ in_views count vs
  in_one [] i v at = absurd (some-ne-none v (sym at))
  in_one (x ∷ xs) zero v at = let here = ap (in_view count) (some-injective x v at) in omega arith
  in_one (x ∷ xs) (suc i) v at = let rest = in_one xs i v at in omega arith

  pub in_two : (vs : List (List A)) (i j : ℕ) (v w : List A) → i ≢ j → get_elem? vs i ≡ some v → get_elem? vs j ≡ some w → in_view count v + in_view count w ≤ in_views count vs
  in_two [] i j v w apart at there = absurd (some-ne-none v (sym at))
  in_two (x ∷ xs) zero zero v w apart at there = absurd (apart refl)
  in_two (x ∷ xs) zero (suc j) v w apart at there = let here = ap (in_view count) (some-injective x v at) in let rest = in_one xs j w there in omega arith
  in_two (x ∷ xs) (suc i) zero v w apart at there = let here = ap (in_view count) (some-injective x w there) in let rest = in_one xs i v at in omega arith
  in_two (x ∷ xs) (suc i) (suc j) v w apart at there = let rest = in_two xs i j v w (λ e. apart (ap suc e)) at there in omega arith

  pub in_set : (vs : List (List A)) (i : ℕ) (v w : List A) → get_elem? vs i ≡ some v → in_views count (set vs i w) + in_view count v ≡ in_views count vs + in_view count w
  in_set [] i v w at = absurd (some-ne-none v (sym at))
  in_set (x ∷ xs) zero v w at = let here = ap (in_view count) (some-injective x v at) in omega arith
  in_set (x ∷ xs) (suc i) v w at = let rest = in_set xs i v w at in omega arith

  pub in_snoc : (vs : List (List A)) (w : List A) → in_views count (vs ++ w ∷ []) ≡ in_views count vs + in_view count w
  in_snoc [] w = omega arith
  in_snoc (x ∷ xs) w = let rest = in_snoc xs w in omega arith
