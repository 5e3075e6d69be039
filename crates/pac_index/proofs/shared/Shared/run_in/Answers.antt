use Rattle.std.proofs.Common.{◌∙◌}
use Rattle.pac_index.specs.Kept.{party}
use Rattle.pac_index.proofs.Running.{going, runs_stepped}
use Rattle.pac_index.proofs.Budgeting.{paid, pays_on}
use Rattle.pac_index.proofs.Stepping.{flies_on, ready_on, step_allowed, steps_on}
use Rattle.pac_index.proofs.shared.Shared.run_in.Goals as goal

pub act-got-requires-clause-allowed : goal.act-got-requires-clause-allowed
act-got-requires-clause-allowed g c =
    let s = c.args.self.now in
    let m = c.steps.machine in
    let v = party c.steps.seat.me in
    let runs = c.steps.invariant.2 in
    let goes = going m c.steps.answer c.in_default.not-Some in
    step_allowed s c.steps.seat.id c.steps.seat.me m c.action.result c.steps.invariant.1
    (flies_on g.C.BeginsCall.call g.C.BeginsCall.index (party c.args.seat.now.me) v _ m runs goes)
    (ready_on g.C.BeginsCall.call g.C.BeginsCall.index (party c.args.seat.now.me) v _ m s.about c.requires.about runs goes) c.action.ensures

pub steps-preserved : goal.steps-preserved
steps-preserved g c =
    let m = c.steps.machine in
    let v = party c.steps.seat.me in
    let runs = c.steps.invariant.2 in
    let goes = going m c.steps.answer c.in_default.not-Some in
    let seat = c.act-got.ensures.seat in
    let on = steps_on c.steps.seat.me c.act-got.new.seat.me m c.advance-answer.new.self c.action.result c.act-got.result c.advance-answer.result
    (flies_on g.C.BeginsCall.call g.C.BeginsCall.index (party c.args.seat.now.me) v _ m runs goes) c.action.ensures c.act-got.ensures.told c.advance-answer.ensures.turned c.advance-answer.ensures.fewer in
    let paid_now = paid c.pay.result _ _ c.if-not-pay.false c.pay.ensures in (
      (seat.0 ∙ c.steps.invariant.0.0, seat.1 ∙ c.steps.invariant.0.1),
      on.0,
      runs_stepped g.C.BeginsCall.call g.C.BeginsCall.index (party c.args.seat.now.me) v (party c.act-got.new.seat.me) _ m c.advance-answer.new.self c.advance-answer.result runs goes on.1,
      pays_on c.args.left.now c.steps.left c.pay.new.left (party c.args.seat.now.me).taken v.taken (party c.act-got.new.seat.me).taken c.steps.invariant.3 paid_now on.1.goes.stepped.taken,
    )
