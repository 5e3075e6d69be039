use Rattle.std.proofs.Common.{List, [], ◌∷◌, ◌++◌, sym, ap, subst, ◌∙◌}
use Rattle.cat_history.specs.declared.record.Record.{Record}
use Rattle.pac_index.specs.declared.caller.Caller.{Caller}
use Rattle.thread_rounds.proofs.Gathering.{Takes, begins-taking, takes-one}
use Rattle.thread_rounds.proofs.round.gathered.Goals as goal

pub loop-played-preserved : goal.loop-played-preserved
loop-played-preserved c =
    let before = c.loop-played in
    let p = c.in_ok-caller.field-0 in
    let taken = takes-one c.args.played.items before.left.items c.pop.new.self.items p before.callers.items before.records.items before.invariant
    (c.in-Some.ensures.items ∙ ap (λ x. c.pop.new.self.items ++ x ∷ []) c.in_ok-caller.was) in
    subst (λ (cs : List Caller). Takes c.args.played.items c.pop.new.self.items cs c.append.new.self.items) (sym c.in_ok-push.ensures.items)
    (subst (λ (rs : List Record). Takes c.args.played.items c.pop.new.self.items (before.callers.items ++ p.caller ∷ []) rs) (sym c.in_ok-append.ensures.items) taken)

pub loop-played-init : goal.loop-played-init
loop-played-init c =
    let left = c.reverse.new.self.items in
    subst (λ (cs : List Caller). Takes c.args.played.items left cs c.new-records.result.items) (sym c.new-callers.ensures.items)
    (subst (Takes c.args.played.items left []) (sym c.new-records.ensures.items) (begins-taking c.args.played.items left c.reverse.ensures.items))
