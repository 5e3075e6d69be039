-- How many calls some rounds have, and what they take of those that are left.
use Rattle.std.proofs.Common.{◌≡◌, ℕ, ◌+◌, ◌*◌, ◌<◌, ◌≤◌, List, length, get_or, drop, sym, ap, subst, ◌∙◌, arith, zero-add}
use Rattle.std.proofs.lemmas.List.Sums.{sum_by-drop_more}
use Rattle.cat_history.specs.declared.plan.RoundPlan.{RoundPlan}
use Rattle.core_rounds.specs.LoneCalls.{calls_in}

-- one round fewer is to come
pub calls-to-come : (plans : List RoundPlan) (i : ℕ) (plan : RoundPlan) → i < length plans → plan ≡ get_or plans i plan →
    calls_in (drop i plans) ≡ length plan.ops + calls_in (drop (i + 1) plans)
calls-to-come plans i plan less is =
    sum_by-drop_more (λ (p : RoundPlan). length p.ops) plans i plan less ∙ ap (λ (p : RoundPlan). length p.ops + calls_in (drop (i + 1) plans)) (sym is)

-- what the rest needs of calls is enough for one round,
pub calls-of-one : (one rest most left : ℕ) → (one + rest) * most ≤ left → one * most ≤ left
calls-of-one one rest most left enough = omega (arith, enough)

-- and then for the others
pub calls-of-rest : (one rest most left left' : ℕ) → (one + rest) * most ≤ left → left ≤ left' + one * most → rest * most ≤ left'
calls-of-rest one rest most left left' enough taken = omega (arith, enough, taken)

-- where no more calls are wanted beside them
pub none-beside : (rest all most left left' : ℕ) → ((0 + all) * most ≤ left → (0 + rest) * most ≤ left') → all * most ≤ left → rest * most ≤ left'
none-beside rest all most left left' keeps enough =
    let kept = keeps (subst (λ n. n * most ≤ left) (sym (zero-add all)) enough) in
    subst (λ n. n * most ≤ left') (zero-add rest) kept
