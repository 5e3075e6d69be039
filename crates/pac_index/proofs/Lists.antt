-- Beginnings of histories, the writes of one caller, and what its parties have added.
use Rattle.std.proofs.Common.{◌≡◌, ◌≢◌, ℕ, zero, suc, ◌+◌, ◌≤◌, eq-eqb, ne_eqb, Bool, true, false, List, [], ◌∷◌, ◌++◌, length, refl, sym, ap, ◌∙◌, arith}
use Rattle.std.proofs.lemmas.List.{append_assoc, append-nil, length-append}
use Rattle.std.specs.Prelude.{◌==◌, if◌then◌else◌, Option, Some, None}
use mathlib.Core.Option.{some, some-injective, some-ne-none}
use lib.ListN.{get_elem?}
use Rattle.cat_history.specs.declared.op.Change.{Change}
use Rattle.cat_history.specs.declared.op.Write.{Write}
use Rattle.index_law.specs.Worlds.{written}
use Rattle.pac_index.specs.declared.rule.Member.{Member}
use Rattle.epochs.specs.Views.{one_if}
use Rattle.epochs.proofs.ViewSums.{in_there}
use Rattle.pac_index.specs.Kept.{Begins, placed_from, placed_by, noted, one_of, times_in, added_in, added_in_all}

pub begins_more : (xs ys zs : List Write) → Begins xs ys → Begins xs (ys ++ zs)
begins_more xs ys zs p = (p.0 ++ zs, sym (append_assoc xs p.0 zs) ∙ ap (λ (l : List Write). l ++ zs) p.1)

pub begins_self : (xs : List Write) → Begins xs xs
begins_self xs = ([], append-nil xs)

pub begins_le : (xs ys : List Write) → Begins xs ys → length xs ≤ length ys
begins_le xs ys p = omega (arith, length-append xs p.0, ap length p.1)

pub begins_trans : (xs ys zs : List Write) → Begins xs ys → Begins ys zs → Begins xs zs
begins_trans xs ys zs p q = (p.0 ++ q.0, sym (append_assoc xs p.0 q.0) ∙ ap (λ (l : List Write). l ++ q.0) p.1 ∙ q.1)

-- the writes of a caller in a longer history
picks : (b : Bool) (x : ℕ × Write) (all front back : List (ℕ × Write)) → all ≡ front ++ back → (if b then x ∷ all else all) ≡ (if b then x ∷ front else front) ++ back
picks true x all front back e = ap (λ (l : List (ℕ × Write)). x ∷ l) e
picks false x all front back e = e

pub placed_append : (c k : ℕ) (xs ys : List Write) → placed_from c k (xs ++ ys) ≡ placed_from c k xs ++ placed_from c (k + length xs) ys
placed_append c k [] ys = ap (λ (n : ℕ). placed_from c n ys) (let n : k ≡ k + 0 = omega arith in n)
placed_append c k (w ∷ ws) ys =
    let n : k + 1 + length ws ≡ k + suc (length ws) = omega arith in
    picks (w.caller == c) (k, w) (placed_from c (k + 1) (ws ++ ys)) (placed_from c (k + 1) ws) (placed_from c (k + suc (length ws)) ys)
    (placed_append c (k + 1) ws ys ∙ ap (λ (m : ℕ). placed_from c (k + 1) ws ++ placed_from c m ys) n)

-- a step's own write
pub own_placed : (c i k : ℕ) (o : Option Change) → placed_from c k (written c i o) ≡ noted k (written c i o)
own_placed c i k None = refl
own_placed c i k (Some change) =
    let w : Write = record { caller = c; index = i; change = change } in
    ap (λ (b : Bool). if b then (k, w) ∷ [] else []) (eq-eqb c c refl)

-- is none of another caller
pub others_placed : (c d i k : ℕ) (o : Option Change) → d ≢ c → placed_from c k (written d i o) ≡ []
others_placed c d i k None apart = refl
others_placed c d i k (Some change) apart =
    let w : Write = record { caller = d; index = i; change = change } in
    ap (λ (b : Bool). if b then (k, w) ∷ [] else []) (ne_eqb d c apart)

pub others_keep : (c d i : ℕ) (h : List Write) (o : Option Change) → d ≢ c → placed_by c (h ++ written d i o) ≡ placed_by c h
others_keep c d i h o apart = placed_append c 0 h (written d i o) ∙ ap (λ (l : List (ℕ × Write)). placed_by c h ++ l) (others_placed c d i (0 + length h) o apart) ∙ append-nil (placed_by c h)

-- a number among parties
pub times_there : (n : ℕ) (v : List Member) (k : ℕ) (m : Member) → get_elem? v k ≡ some m → m.state.caller ≡ n → 1 ≤ times_in n v
times_there n v k m at same = let here = ap one_if (eq-eqb m.state.caller n same) in let there = in_there (one_of n) v k m at in omega arith

-- what the parties have added
pub added_none : (vs : List (List Member)) → ((j : ℕ) (u : List Member) → get_elem? vs j ≡ some u → u ≡ []) → added_in_all vs ≡ 0
added_none [] none = refl
added_none (x ∷ xs) none = let here = ap added_in (none 0 x refl) in let rest = added_none xs (λ j u at. none (suc j) u at) in omega arith

-- where all other views are empty
pub added_only : (vs : List (List Member)) (i : ℕ) (v : List Member) → get_elem? vs i ≡ some v → ((j : ℕ) (u : List Member) → j ≢ i → get_elem? vs j ≡ some u → u ≡ []) → added_in_all vs ≡ added_in v
added_only [] i v at none = absurd (some-ne-none v (sym at))
added_only (x ∷ xs) zero v at none = let here = ap added_in (some-injective x v at) in let rest = added_none xs (λ j u there. none (suc j) u (λ e. omega arith) there) in omega arith
added_only (x ∷ xs) (suc i) v at none = let here = ap added_in (none 0 x (λ e. omega arith) refl) in let rest = added_only xs i v at (λ j u other there. none (suc j) u (λ e. other (omega arith)) there) in omega arith
