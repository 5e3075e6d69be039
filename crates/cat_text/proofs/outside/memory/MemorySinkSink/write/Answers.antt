use Rattle.std.proofs.Common.{◌≡◌, ap, ◌∙◌, subst, refl, true, false}
use Rattle.std.proofs.lemmas.Result.{err_from_is_err_and}
use Rattle.std.specs.Prelude.{◌↔◌}
use Rattle.cat_text.specs.OutsideMemory.{Store, IsNextToFail, after_call}
use Rattle.cat_text.proofs.OutsideLemmas.{went_on, gave_up, no_memory, not_ok}
use Rattle.cat_text.proofs.outside.memory.MemorySinkSink.write.Goals as goal

pub returns-clause-fails : goal.returns-clause-fails
returns-clause-fails c =
    let plan = subst (λ (k : Store). (false ≡ true) ↔ IsNextToFail k.plan) c.self.view_is c.if-next_fails.ensures.fails in
    went_on (not_ok _ _ refl) plan

pub returns-in_err-extend_from_slice-clause-fails : goal.returns-in_err-extend_from_slice-clause-fails
returns-in_err-extend_from_slice-clause-fails c =
    let plan = subst (λ (k : Store). (false ≡ true) ↔ IsNextToFail k.plan) c.self.view_is c.if-next_fails.ensures.fails in
    let (fault, is, none) = err_from_is_err_and c.from_residual.result c.from_residual.ensures.1 in
    went_on (no_memory _ fault is none) plan

pub returns-then-next_fails-clause-fails : goal.returns-then-next_fails-clause-fails
returns-then-next_fails-clause-fails c =
    let plan = subst (λ (k : Store). (true ≡ true) ↔ IsNextToFail k.plan) c.self.view_is c.if-next_fails.ensures.fails in
    gave_up refl plan

pub returns-clause-call_counted : goal.returns-clause-call_counted
returns-clause-call_counted c = λ _. c.if-next_fails.ensures.counts ∙ ap (λ (k : Store). after_call k.plan) c.self.view_is

pub returns-in_err-extend_from_slice-clause-call_counted : goal.returns-in_err-extend_from_slice-clause-call_counted
returns-in_err-extend_from_slice-clause-call_counted c = λ _. c.if-next_fails.ensures.counts ∙ ap (λ (k : Store). after_call k.plan) c.self.view_is
