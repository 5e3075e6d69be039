-- Calls within a budget.
use Rattle.std.proofs.Common.{◌≡◌, ℕ, ◌+◌, refl, arith}
use Rattle.std.specs.Prelude.{Bool, true, false, MatchBool, Option, Some, None}
use Rattle.pac_index.specs.Budgets.{Pays}

pub pays_on : (a b c : Option ℕ) (t u v : ℕ) → Pays a b t u → Pays b c 0 1 → v ≡ u + 1 → Pays a c t v
pays_on None None None t u v p q is = tt
pays_on None None (Some z) t u v p q is = absurd q
pays_on None (Some y) c t u v p q is = absurd p
pays_on (Some x) None c t u v p q is = absurd p
pays_on (Some x) (Some y) None t u v p q is = absurd q
pays_on (Some x) (Some y) (Some z) t u v p q is = omega arith

pub pays_first : (a b : Option ℕ) (t v : ℕ) → Pays a b 0 1 → v ≡ t + 1 → Pays a b t v
pays_first None None t v p is = tt
pays_first None (Some y) t v p is = absurd p
pays_first (Some x) None t v p is = absurd p
pays_first (Some x) (Some y) t v p is = omega arith

pub pays_then : (a b c : Option ℕ) (t u v : ℕ) → Pays a b t u → Pays b c u v → Pays a c t v
pays_then None None None t u v p q = tt
pays_then None None (Some z) t u v p q = absurd q
pays_then None (Some y) c t u v p q = absurd p
pays_then (Some x) None c t u v p q = absurd p
pays_then (Some x) (Some y) None t u v p q = absurd q
pays_then (Some x) (Some y) (Some z) t u v p q = omega arith

pub pays_nothing : (a : Option ℕ) (t : ℕ) → Pays a a t t
pays_nothing None t = tt
pays_nothing (Some x) t = refl

-- what was taken where there was a step left, and where not
pub paid : (b : Bool) (P Q : Type 0) → b ≡ true → MatchBool b P Q → P
paid true P Q is made = made
paid false P Q is made = absurd (cc)

pub unpaid : (b : Bool) (P Q : Type 0) → b ≡ false → MatchBool b P Q → Q
unpaid true P Q is made = absurd (cc)
unpaid false P Q is made = made
