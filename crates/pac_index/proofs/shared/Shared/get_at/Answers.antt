use Rattle.std.proofs.Common.{sym, ◌∙◌, arith}
use Rattle.call_stages.specs.declared.once.Placed.{Placed}
use Rattle.index_core.specs.declared.party.CoreCall.TheVariants as call
use Rattle.pac_index.specs.Budgets.{TriedBack}
use Rattle.pac_index.specs.Calls.{Answers}
use Rattle.pac_index.proofs.Repeating.{back_by, gets_spare, none_else, tries_end, tries_on, tries_start}
use Rattle.pac_index.proofs.shared.Shared.get_at.Goals as goal

pub loop-init : goal.loop-init
loop-init g c = tries_start c.args.self.now (TriedBack (Answers (call.Get c.args.name)) c.args.caller.now.index) c.args.caller.now c.requires.may.0

pub loop-preserved : goal.loop-preserved
loop-preserved g c =
    let asked = call.Get c.args.name in
    let old = c.args.caller.now in
    let on = c.try_at_pace.ensures in
    tries_on Placed c.args.self.now (Answers asked) asked old c.loop.caller c.try_at_pace.new.caller c.try_at_pace.result (λ answer none v w. back_by asked old.index v w answer none) c.loop.invariant
    (sym c.ended.ensures ∙ none_else c.ended.result c.in_default.not-Some) on.stays on.tried on.paid (gets_spare c.args.name c.loop.caller c.try_at_pace.new.caller c.try_at_pace.result on.tried on.spare)

pub returns-in-Some-ended-clause-done : goal.returns-in-Some-ended-clause-done
returns-in-Some-ended-clause-done g c =
    let asked = call.Get c.args.name in
    tries_end Placed c.args.self.now (Answers asked) asked c.args.caller.now c.loop.caller c.try_at_pace.new.caller c.try_at_pace.result c.in-Some-ended.ended (λ n clock v w spent. spent.says.reached) c.loop.invariant
    (sym c.ended.ensures ∙ c.in-Some-ended.is) c.try_at_pace.ensures.tried

pub returns-in-Some-ended-clause-spare : goal.returns-in-Some-ended-clause-spare
returns-in-Some-ended-clause-spare g c =
    let on = c.try_at_pace.ensures in
    let less = gets_spare c.args.name c.loop.caller c.try_at_pace.new.caller c.try_at_pace.result on.tried on.spare in
    let was = c.loop.invariant.2 in
    omega arith
