-- How many callers have calls, as a set of them counts.
use Rattle.std.proofs.Common.{◌≡◌, ℕ, Bool, List, [], ◌∷◌, ◌++◌, length, map, refl, ap, subst, nat_eq}
use Rattle.std.specs.List.{list_any}
use Rattle.std.specs.List.Sorted.{IsStrictlySortedBy}
use Rattle.std.specs.Ordering.{nat_cmp, eq_by_cmp}
use Rattle.std.specs.Set.{distinct_count}
use Rattle.std.proofs.lemmas.Cmp.{nat_cmp_total, eq_by_cmp_equiv}
use Rattle.std.proofs.lemmas.Map.Keys.{IsDistinct-from_sorted}
use Rattle.std.proofs.lemmas.Map.Made.{length-from_keys}
use Rattle.std.proofs.lemmas.Bool.{eq-eqb, ne_eqb, cases_eq}
use Rattle.std.proofs.Common.{⊎_elim, arith}
use Rattle.std.proofs.Common.{eqb, false, true}
use Rattle.cat_history.specs.Callers.{callers_among}
use Rattle.cat_history.specs.Records.{Call, numbered_after}
use Rattle.cat_history.specs.declared.op.CallerOp.{CallerOp}

same_test : (x y : ℕ) → eq_by_cmp nat_cmp x y ≡ nat_eq x y
same_test x y = ⊎_elim
    (λ (same : x ≡ y). let yes : eqb x y ≡ true = eq-eqb x y same in grind (arith, yes))
    (λ (apart : x ≡ y → ⊥). let no : eqb x y ≡ false = ne_eqb x y apart in grind (arith, no))
    (cases_eq x y)

-- a set's keys are as many as the callers that it has
pub set_counts : (keys callers : List ℕ) → IsStrictlySortedBy nat_cmp keys → ((q : ℕ) → list_any (eq_by_cmp nat_cmp q) keys ≡ list_any (eq_by_cmp nat_cmp q) callers) → length keys ≡ callers_among callers
set_counts keys callers up has =
    subst (λ (test : ℕ → ℕ → Bool). length keys ≡ distinct_count test callers) (λ i x y. same_test x y i)
    (length-from_keys (eq_by_cmp_equiv nat_cmp_total) keys callers (IsDistinct-from_sorted nat_cmp keys up) has)

-- the callers of a script's calls
pub callers_numbered : (before : List ℕ) (asked : List CallerOp) → map (λ (c : Call). c.caller) (numbered_after before asked) ≡ map (λ (a : CallerOp). a.caller) asked
callers_numbered before [] = refl
callers_numbered before (a ∷ asked) = ap (λ (ks : List ℕ). a.caller ∷ ks) (callers_numbered (before ++ a.caller ∷ []) asked)
