use Rattle.std.proofs.Common.{◌<◌, ap, sym, ◌∙◌, subst}
use Rattle.std.specs.Prelude.{Option}
use Rattle.pm_words.specs.Turns.{turn_of}
use Rattle.updater.specs.declared.making.TurnReply.TheVariants as reply
use Rattle.updater.specs.declared.terms.Turned.{Turned}
use Rattle.updater.specs.Makings.{worked}
use Rattle.pac_index.specs.declared.rule.About.{About}
use Rattle.pac_index.specs.Kept.{party}
use Rattle.pac_index.proofs.TurnRunning.{turn_ends, work_going, work_stepped}
use Rattle.pac_index.proofs.Budgeting.{paid, pays_on}
use Rattle.pac_index.proofs.shared.Shared.run_turn.Goals as goal

pub returns-in-Some-clause-told : goal.returns-in-Some-clause-told
returns-in-Some-clause-told g c =
    let s = c.args.self.now in
    let old = party c.args.seat.now.me in
    let epoch = c.date_turn-epoch.result.0 in
    let nodes : 0 < s.about.layout.nodes = s.layout.nodes.0 in
    record {
      answers = turn_ends epoch old (party c.steps.seat.me) (worked (turn_of c.steps.work c.steps.turned)) (reply.Turned c.in-Some.turned) c.steps.invariant.2
          (ap (λ (o : Option Turned). worked (turn_of c.steps.work o)) c.in-Some.is) (subst (λ (b : About). 0 < b.layout.nodes) (sym c.requires.about) nodes);
      dated = c.date_turn-epoch.ensures.dated;
    }

pub steps-preserved : goal.steps-preserved
steps-preserved g c =
    let old = party c.args.seat.now.me in
    let goes = work_going c.steps.work c.steps.turned c.in_default.not-Some in
    let on = c.go_on_work-turned.ensures in
    let paid_now = paid c.pay-in-steps.result _ _ c.if-not-pay-2.false c.pay-in-steps.ensures in (
      (on.seat.0 ∙ c.steps.invariant.0.0, on.seat.1 ∙ c.steps.invariant.0.1),
      on.lone,
      work_stepped _ old (party c.steps.seat.me) (party c.go_on_work-turned.new.seat.me) _ c.steps.work c.go_on_work-turned.new.work c.go_on_work-turned.result c.steps.invariant.2 goes on.steps,
      pays_on c.args.left.now c.steps.left c.pay-in-steps.new.left old.taken (party c.steps.seat.me).taken (party c.go_on_work-turned.new.seat.me).taken c.steps.invariant.3 paid_now on.steps.goes.stepped.taken,
    )
