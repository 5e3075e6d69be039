use Rattle.std.proofs.Common.{◌≡◌, ℕ, List, ◌+◌, ◌++◌, ◌≤◌, length, drop, take, arith, ap, sym, subst, ◌∙◌, true, false}
use Rattle.std.specs.Prelude.{◌↔◌}
use Rattle.cat_text.specs.OutsideMemory.{Feed, IsNextToFail, after_call}
use Rattle.cat_text.proofs.OutsideLemmas.{front-moved}
use Rattle.cat_text.proofs.outside.memory.MemorySourceSource.read.Goals as goal

pub returns-clause-takes : goal.returns-clause-takes
returns-clause-takes c =
    let bytes = c.self.inside.bytes.items in
    let place = c.self.inside.place in
    let taken = c.min-taken.result in
    let others = drop taken c.args.into.now in
    let copied : c.copy_from_slice.new.self ≡ take taken (drop place bytes) = c.copy_from_slice.ensures.after ∙ ap (take taken) c.left-rest.ensures in
    let fits : taken ≤ length (drop place bytes) = omega (arith, ap length c.left-rest.ensures, c.min-taken.ensures) in
    sym (ap (λ (feed : Feed). feed.left) c.self.view_is) ∙ front-moved bytes others place taken fits
    ∙ ap (λ (front : List ℕ). take taken (front ++ others) ++ drop (place + taken) bytes) (sym copied)

pub returns-clause-fails : goal.returns-clause-fails
returns-clause-fails c =
    subst (λ (k : Feed). (false ≡ true) ↔ IsNextToFail k.plan) c.self.view_is c.if-next_fails.ensures.fails

pub returns-then-next_fails-clause-fails : goal.returns-then-next_fails-clause-fails
returns-then-next_fails-clause-fails c =
    subst (λ (k : Feed). (true ≡ true) ↔ IsNextToFail k.plan) c.self.view_is c.if-next_fails.ensures.fails

pub returns-clause-call_counted : goal.returns-clause-call_counted
returns-clause-call_counted c =
    c.if-next_fails.ensures.counts ∙ ap (λ (k : Feed). after_call k.plan) c.self.view_is
