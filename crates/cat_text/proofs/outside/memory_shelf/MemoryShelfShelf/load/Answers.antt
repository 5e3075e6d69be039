use Rattle.std.proofs.Common.{ℕ, Some, ap, ◌∙◌, ◌≡◌, subst, refl, true, false}
use Rattle.std.specs.FinMap.{get}
use Rattle.std.specs.Option.{option_map}
use Rattle.std.specs.declared.alloc.Global.{Global}
use Rattle.std.specs.declared.vec.Vec.{Vec}
use Rattle.cat_text.specs.Shelves.{Cabinet}
use Rattle.cat_text.proofs.ShelfLemmas.{files_in-get}
use Rattle.std.proofs.lemmas.Result.{err_from_is_err_and}
use Rattle.std.specs.Prelude.{◌↔◌}
use Rattle.cat_text.specs.OutsideMemory.{IsNextToFail, after_call}
use Rattle.cat_text.proofs.OutsideLemmas.{went_on, gave_up, no_memory, not_ok}
use Rattle.cat_text.proofs.outside.memory_shelf.MemoryShelfShelf.load.Goals as goal

pub returns-in_default-clause-finds : goal.returns-in_default-clause-finds
returns-in_default-clause-finds c =
    ap (option_map (λ (v : Vec ℕ Global). v.items)) c.in_default.ensures.value ∙ files_in-get c.args.name.now c.self.inside.files.entries
    ∙ ap (λ (k : Cabinet). get k.files c.args.name.now) c.self.view_is

pub returns-clause-finds : goal.returns-clause-finds
returns-clause-finds c =
    ap Some (c.in_ok-from_slice.ensures.items ∙ c.deref.ensures.value)
    ∙ ap (option_map (λ (v : Vec ℕ Global). v.items)) c.in-Some.ensures.value ∙ files_in-get c.args.name.now c.self.inside.files.entries
    ∙ ap (λ (k : Cabinet). get k.files c.args.name.now) c.self.view_is

pub returns-clause-fails : goal.returns-clause-fails
returns-clause-fails c =
    let plan = subst (λ (k : Cabinet). (false ≡ true) ↔ IsNextToFail k.plan) c.self.view_is c.if-next_fails.ensures.fails in
    went_on (not_ok _ _ refl) plan

pub returns-in_default-clause-fails : goal.returns-in_default-clause-fails
returns-in_default-clause-fails c =
    let plan = subst (λ (k : Cabinet). (false ≡ true) ↔ IsNextToFail k.plan) c.self.view_is c.if-next_fails.ensures.fails in
    went_on (not_ok _ _ refl) plan

pub returns-in_err-from_slice-clause-fails : goal.returns-in_err-from_slice-clause-fails
returns-in_err-from_slice-clause-fails c =
    let plan = subst (λ (k : Cabinet). (false ≡ true) ↔ IsNextToFail k.plan) c.self.view_is c.if-next_fails.ensures.fails in
    let (fault, is, none) = err_from_is_err_and c.from_residual.result c.from_residual.ensures.1 in
    went_on (no_memory _ fault is none) plan

pub returns-then-next_fails-clause-fails : goal.returns-then-next_fails-clause-fails
returns-then-next_fails-clause-fails c =
    let plan = subst (λ (k : Cabinet). (true ≡ true) ↔ IsNextToFail k.plan) c.self.view_is c.if-next_fails.ensures.fails in
    gave_up refl plan

pub returns-clause-call_counted : goal.returns-clause-call_counted
returns-clause-call_counted c = λ _. c.if-next_fails.ensures.counts ∙ ap (λ (k : Cabinet). after_call k.plan) c.self.view_is

pub returns-in_default-clause-call_counted : goal.returns-in_default-clause-call_counted
returns-in_default-clause-call_counted c = λ _. c.if-next_fails.ensures.counts ∙ ap (λ (k : Cabinet). after_call k.plan) c.self.view_is

pub returns-in_err-from_slice-clause-call_counted : goal.returns-in_err-from_slice-clause-call_counted
returns-in_err-from_slice-clause-call_counted c = λ _. c.if-next_fails.ensures.counts ∙ ap (λ (k : Cabinet). after_call k.plan) c.self.view_is
