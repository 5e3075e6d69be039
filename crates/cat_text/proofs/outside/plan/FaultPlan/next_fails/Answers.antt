use Rattle.std.proofs.Common.{◌≡◌, ℕ, ◌+◌, ◌-◌, ◌<◌, ◌^◌, arith, ap, ◌∙◌, subst, true, false}
use Rattle.std.specs.Prelude.{◌↔◌, min}
use Rattle.std.proofs.lemmas.Bool.{false≢true}
use Rattle.cat_text.specs.OutsideMemory.{CallPlan, IsNextToFail, after_call, after_fault}
use Rattle.cat_text.proofs.outside.plan.FaultPlan.next_fails.Goals as goal

next_call : (number calls : ℕ) → calls + 1 < 2 ^ 64 → number ≡ calls + 1 → number ≡ min (calls + 1) (2 ^ 64 - 1)
next_call number calls fits is = omega (arith, fits, is)

pub returns-else-fails-clause-counts : goal.returns-else-fails-clause-counts
returns-else-fails-clause-counts c =
    let plan = c.self.inside in
    let counted : ℕ → CallPlan = λ n. record { calls = n; faults = plan.faults; failing = plan.failing.items } in
    let next : c.in-Some.number ≡ min (plan.calls + 1) (2 ^ 64 - 1) = next_call c.in-Some.number plan.calls c.in-Some.ensures.0 c.in-Some.ensures.1 in
    rw c.if-fails.false
    (ap counted next ∙ ap after_call c.self.view_is)

pub returns-then-fails-clause-counts : goal.returns-then-fails-clause-counts
returns-then-fails-clause-counts c =
    let plan = c.self.inside in
    let counted : ℕ → CallPlan = λ n. record { calls = n; faults = plan.faults + 1; failing = plan.failing.items } in
    let next : c.in-Some.number ≡ min (plan.calls + 1) (2 ^ 64 - 1) = next_call c.in-Some.number plan.calls c.in-Some.ensures.0 c.in-Some.ensures.1 in
    rw c.if-fails.true
    (ap counted next ∙ ap after_fault c.self.view_is)

pub returns-in_default-clause-fails : goal.returns-in_default-clause-fails
returns-in_default-clause-fails c =
    subst (λ (k : CallPlan). (false ≡ true) ↔ IsNextToFail k) c.self.view_is
    (λ is. absurd (false≢true is), λ n. absurd (c.in_default.ensures (omega (arith, n.0))))
