use Rattle.std.proofs.Common.{ap, ◌∙◌, ◌≡◌, subst, refl, true, false}
use Rattle.std.specs.FinMap.{insert}
use Rattle.cat_text.specs.Shelves.{Cabinet, FileMap, files_in}
use Rattle.cat_text.proofs.ShelfLemmas.{files_in-insert}
use Rattle.std.proofs.lemmas.Result.{err_from_is_err_and}
use Rattle.std.specs.Prelude.{◌↔◌}
use Rattle.cat_text.specs.OutsideMemory.{IsNextToFail, after_call}
use Rattle.cat_text.proofs.OutsideLemmas.{went_on, gave_up, no_memory, not_ok}
use Rattle.cat_text.proofs.outside.memory_shelf.MemoryShelfShelf.save.Goals as goal

pub returns-in-Ok-clause-saves : goal.returns-in-Ok-clause-saves
returns-in-Ok-clause-saves c =
    let was : FileMap = files_in c.self.inside.files.entries in
    ap files_in c.in-Ok.ensures.entries ∙ files_in-insert c.self.inside.files.entries c.in_ok-name.name c.in_ok-bytes.bytes
    ∙ (λ x. insert was (c.in_ok-name.ensures.ok x) (c.in_ok-bytes.ensures.items x))
    ∙ ap (λ (k : Cabinet). insert k.files c.args.name.now c.args.bytes.now) c.self.view_is

pub returns-clause-fails : goal.returns-clause-fails
returns-clause-fails c =
    let plan = subst (λ (k : Cabinet). (false ≡ true) ↔ IsNextToFail k.plan) c.self.view_is c.if-next_fails.ensures.fails in
    went_on (no_memory _ _ refl refl) plan

pub returns-in-Ok-clause-fails : goal.returns-in-Ok-clause-fails
returns-in-Ok-clause-fails c =
    let plan = subst (λ (k : Cabinet). (false ≡ true) ↔ IsNextToFail k.plan) c.self.view_is c.if-next_fails.ensures.fails in
    went_on (not_ok _ _ refl) plan

pub returns-in_err-bytes-clause-fails : goal.returns-in_err-bytes-clause-fails
returns-in_err-bytes-clause-fails c =
    let plan = subst (λ (k : Cabinet). (false ≡ true) ↔ IsNextToFail k.plan) c.self.view_is c.if-next_fails.ensures.fails in
    let (fault, is, none) = err_from_is_err_and c.from_residual-in_err-bytes.result c.from_residual-in_err-bytes.ensures.1 in
    went_on (no_memory _ fault is none) plan

pub returns-in_err-name-clause-fails : goal.returns-in_err-name-clause-fails
returns-in_err-name-clause-fails c =
    let plan = subst (λ (k : Cabinet). (false ≡ true) ↔ IsNextToFail k.plan) c.self.view_is c.if-next_fails.ensures.fails in
    let (fault, is, none) = err_from_is_err_and c.from_residual.result c.from_residual.ensures.1 in
    went_on (no_memory _ fault is none) plan

pub returns-then-next_fails-clause-fails : goal.returns-then-next_fails-clause-fails
returns-then-next_fails-clause-fails c =
    let plan = subst (λ (k : Cabinet). (true ≡ true) ↔ IsNextToFail k.plan) c.self.view_is c.if-next_fails.ensures.fails in
    gave_up refl plan

pub returns-clause-call_counted : goal.returns-clause-call_counted
returns-clause-call_counted c = λ _. c.if-next_fails.ensures.counts ∙ ap (λ (k : Cabinet). after_call k.plan) c.self.view_is

pub returns-in-Ok-clause-call_counted : goal.returns-in-Ok-clause-call_counted
returns-in-Ok-clause-call_counted c = λ _. c.if-next_fails.ensures.counts ∙ ap (λ (k : Cabinet). after_call k.plan) c.self.view_is

pub returns-in_err-bytes-clause-call_counted : goal.returns-in_err-bytes-clause-call_counted
returns-in_err-bytes-clause-call_counted c = λ _. c.if-next_fails.ensures.counts ∙ ap (λ (k : Cabinet). after_call k.plan) c.self.view_is

pub returns-in_err-name-clause-call_counted : goal.returns-in_err-name-clause-call_counted
returns-in_err-name-clause-call_counted c = λ _. c.if-next_fails.ensures.counts ∙ ap (λ (k : Cabinet). after_call k.plan) c.self.view_is
