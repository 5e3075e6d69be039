-- Calls numbered one after another, and counted by caller.
use Rattle.std.proofs.Common.{◌≡◌, ℕ, suc, ◌+◌, ◌<◌, ◌==◌, ⊎_elim, false, cond, eqb, Option, Some, List, [], ◌∷◌, ◌++◌, length, get_or, take, drop, map, refl, sym, ap, subst, ◌∙◌, arith, add-zero}
use Rattle.std.specs.Prelude.{count_by}
use Rattle.std.specs.Option.{unwrap_or}
use Rattle.std.specs.Ordering.{nat_cmp, is_eq}
use Rattle.std.proofs.Math.Seq.{drop-cons}
use Rattle.std.proofs.lemmas.Bool.{cases_eq, eq-eqb, ne_eqb}
use Rattle.std.proofs.lemmas.List.{map_more}
use Rattle.std.proofs.lemmas.List.Sums.{sum_by_push}
use Rattle.cat_history.specs.Records.{Call, numbered_after}
use Rattle.cat_history.specs.declared.op.CallerOp.{CallerOp}

abbrev pub callers : List CallerOp → List ℕ
callers asked = map (λ (a : CallerOp). a.caller) asked

callers_more : (asked : List CallerOp) (i : ℕ) (a : CallerOp) → i < length asked → a ≡ get_or asked i a → callers (take (i + 1) asked) ≡ callers (take i asked) ++ a.caller ∷ []
callers_more asked i a within is = map_more (λ (b : CallerOp). b.caller) asked i a within ∙ ap (λ (b : CallerOp). callers (take i asked) ++ b.caller ∷ []) (sym is)

-- the next call, and those behind it
pub numbered_more : (asked : List CallerOp) (i : ℕ) (a : CallerOp) → i < length asked → a ≡ get_or asked i a →
    numbered_after (callers (take i asked)) (drop i asked)
    ≡ record { caller = a.caller; index = count_by (λ caller. caller == a.caller) (callers (take i asked)); op = a.op } ∷ numbered_after (callers (take (i + 1) asked)) (drop (i + 1) asked)
numbered_more asked i a within is =
    let before = callers (take i asked) in
    let here : Call = record { caller = a.caller; index = count_by (λ caller. caller == a.caller) before; op = a.op } in
    let next : suc i ≡ i + 1 = omega arith in
    ap (numbered_after before) (drop-cons asked i a within ∙ ap (λ (b : CallerOp). b ∷ drop (suc i) asked) (sym is))
    ∙ ap (λ (bs : List ℕ). here ∷ numbered_after bs (drop (suc i) asked)) (sym (callers_more asked i a within is))
    ∙ ap (λ (k : ℕ). here ∷ numbered_after (callers (take (i + 1) asked)) (drop k asked)) next

count_more : (q : ℕ) (asked : List CallerOp) (i : ℕ) (a : CallerOp) → i < length asked → a ≡ get_or asked i a →
    count_by (λ caller. caller == q) (callers (take (i + 1) asked)) ≡ count_by (λ caller. caller == q) (callers (take i asked)) + cond (a.caller == q) 1 0
count_more q asked i a within is = ap (count_by (λ caller. caller == q)) (callers_more asked i a within is) ∙ sum_by_push (λ c. cond (c == q) 1 0) (callers (take i asked)) a.caller

apart_at : (k q : ℕ) → (k ≡ q → ⊥) → is_eq (nat_cmp k q) ≡ false
apart_at k q differ = let no : eqb k q ≡ false = ne_eqb k q differ in grind (arith, no)

-- a caller's count rises by its own calls alone
pub counted_more : (asked : List CallerOp) (i : ℕ) (a : CallerOp) (old new : ℕ → Option ℕ) → i < length asked → a ≡ get_or asked i a →
    ((q : ℕ) → unwrap_or (old q) 0 ≡ count_by (λ caller. caller == q) (callers (take i asked))) →
    new a.caller ≡ Some (unwrap_or (old a.caller) 0 + 1) → ((q : ℕ) → is_eq (nat_cmp a.caller q) ≡ false → new q ≡ old q) →
    (q : ℕ) → unwrap_or (new q) 0 ≡ count_by (λ caller. caller == q) (callers (take (i + 1) asked))
counted_more asked i a old new within is counted own others q = ⊎_elim
    (λ (same : a.caller ≡ q).
    subst (λ (k : ℕ). unwrap_or (new k) 0 ≡ count_by (λ caller. caller == k) (callers (take (i + 1) asked))) same
    (ap (λ o. unwrap_or o 0) own ∙ ap (λ n. n + 1) (counted a.caller)
    ∙ ap (λ b. count_by (λ caller. caller == a.caller) (callers (take i asked)) + cond b 1 0) (sym (eq-eqb a.caller a.caller refl)) ∙ sym (count_more a.caller asked i a within is)))
    (λ (differ : a.caller ≡ q → ⊥).
    let before : ℕ = count_by (λ caller. caller == q) (callers (take i asked)) in
    ap (λ o. unwrap_or o 0) (others q (apart_at a.caller q differ)) ∙ counted q ∙ sym (add-zero before)
    ∙ ap (λ b. before + cond b 1 0) (sym (ne_eqb a.caller q differ)) ∙ sym (count_more q asked i a within is))
    (cases_eq a.caller q)
