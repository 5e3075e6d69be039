-- Elements of a list by their number.
use Rattle.std.proofs.Common.{◌≡◌, ℕ, zero, suc, ◌<◌, List, [], ◌∷◌, length, slice_index_or, sym, ap, arith}
use mathlib.Core.Option.{some, some-injective}
use lib.ListN.{get_elem?}

-- what is read at a number in range stands there
pub read_stands : {X : Type 0} (xs : List X) (i : ℕ) (x : X) → i < length xs → x ≡ slice_index_or xs i x → get_elem? xs i ≡ some x
read_stands [] i x less is = absurd (omega arith)
read_stands (y ∷ ys) zero x less is = ap some (sym is)
read_stands (y ∷ ys) (suc i) x less is = read_stands ys i x (omega arith) is

-- and what stands there is read
pub stands_within : {X : Type 0} (xs : List X) (i : ℕ) (x : X) → get_elem? xs i ≡ some x → i < length xs
stands_within [] i x at = absurd (cc)
stands_within (y ∷ ys) zero x at = omega arith
stands_within (y ∷ ys) (suc i) x at = let within = stands_within ys i x at in omega arith

pub stands_read : {X : Type 0} (xs : List X) (i : ℕ) (x : X) → get_elem? xs i ≡ some x → slice_index_or xs i x ≡ x
stands_read [] i x at = absurd (cc)
stands_read (y ∷ ys) zero x at = some-injective _ _ at
stands_read (y ∷ ys) (suc i) x at = stands_read ys i x at
