use Rattle.std.proofs.Common.{sym, ap, ◌∙◌, subst}
use Rattle.std.specs.Prelude.{IsSome, Option, Some, IfSome}
use Rattle.pm_words.specs.Turns.{turn_of}
use Rattle.call_stages.specs.declared.once.Once.{Once}
use Rattle.call_stages.specs.declared.once.Placed.{Placed}
use Rattle.node_ops.specs.declared.part.PartWords.{PartWords}
use Rattle.node_ops.specs.PartSteps.{IsEarly}
use Rattle.node_ops.specs.RunningSteps.{listed_in}
use Rattle.index_core.specs.declared.party.CoreCall.TheVariants as call
use Rattle.pac_index.specs.Budgets.{Pays, StopsAt}
use Rattle.pac_index.specs.Kept.{party}
use Rattle.pac_index.specs.Calls.{PartAnswers}
use Rattle.pac_index.proofs.Budgeting.{paid, pays_on, unpaid}
use Rattle.pac_index.proofs.Running.{going, lists_none, not_done, part_ends, part_halts, part_moved, part_stops, runs_a_part, runs_stepped, stops_early}
use Rattle.pac_index.proofs.shared.Shared.run_part.Goals as goal

pub returns-in-Some-clause-ran : goal.returns-in-Some-clause-ran
returns-in-Some-clause-ran g c =
    let old = party c.args.seat.now.me in
    let early = subst (λ (o : Option (Once Placed)). IfSome o IsEarly) c.in-Some.is c.steps.invariant.3 in
    subst (λ (r : Once PartWords). PartAnswers c.args.low c.args.count c.args.index old r (party c.steps.seat.me)) (sym c.early.ensures)
    (part_stops c.args.low c.args.count c.args.index old (party c.steps.seat.me) (turn_of c.steps.machine c.steps.answer) c.in-Some.answer c.steps.invariant.2 (ap (turn_of c.steps.machine) c.in-Some.is) early)

pub returns-in-Done-clause-ran : goal.returns-in-Done-clause-ran
returns-in-Done-clause-ran g c =
    let goes = going c.steps.machine c.steps.answer c.in_default.not-Some in
    let on = c.go_on.ensures.steps in
    let done = on.turned ∙ ap (turn_of c.go_on.new.machine) (c.in-Some-go_on.is ∙ ap (λ (a : Once Placed). Some a) c.in-Done.is) in
    part_ends c.args.low c.args.count c.args.index (party c.args.seat.now.me) (party c.steps.seat.me) (party c.go_on.new.seat.me) (turn_of c.steps.machine c.steps.answer) c.steps.machine on.told c.listing-words.result c.in-Done.field-0 c.steps.invariant.2 goes on.goes c.listing-words.ensures done

pub returns-in_default-last : goal.returns-in_default-last
returns-in_default-last g c =
    let old = party c.args.seat.now.me in
    let goes = going c.steps.machine c.steps.answer c.in_default.not-Some in
    let on = c.go_on.ensures.steps in
    let done = on.turned ∙ ap (turn_of c.go_on.new.machine) c.in-Some-go_on.is in
    let early : IsEarly c.in-Some-go_on.last = not_done c.in-Some-go_on.last c.in_default-last.not-Done in
    record {
      seat = (c.go_on.ensures.seat.0 ∙ c.steps.invariant.0.0, c.go_on.ensures.seat.1 ∙ c.steps.invariant.0.1);
      lone = c.go_on.ensures.lone;
      ran = subst (λ (r : Once PartWords). PartAnswers c.args.low c.args.count c.args.index old r (party c.go_on.new.seat.me)) (sym c.early-in_default-last.ensures)
          (part_moved c.args.low c.args.count c.args.index old (party c.steps.seat.me) (party c.go_on.new.seat.me) (turn_of c.steps.machine c.steps.answer) c.steps.machine on.told c.in-Some-go_on.last c.steps.invariant.2 goes on.goes done early);
      paid = pays_on c.args.left.now c.steps.left c.pay.new.left old.taken (party c.steps.seat.me).taken (party c.go_on.new.seat.me).taken c.steps.invariant.4 (paid c.pay.result _ _ c.if-not-pay.false c.pay.ensures) on.goes.stepped.taken;
    }

pub steps-preserved : goal.steps-preserved
steps-preserved g c =
    let old = party c.args.seat.now.me in
    let m = c.steps.machine in
    let runs = c.steps.invariant.2 in
    let goes = going m c.steps.answer c.in_default.not-Some in
    let on = c.go_on-answer.ensures in
    let none = lists_none (listed_in m) (λ (some : IsSome (listed_in m)). let yes = c.has_listed.ensures.1 some in let no = c.if-has_listed.false in cc) in (
      (on.seat.0 ∙ c.steps.invariant.0.0, on.seat.1 ∙ c.steps.invariant.0.1),
      on.lone,
      runs_stepped (call.Part c.args.low c.args.count) c.args.index old (party c.steps.seat.me) (party c.go_on-answer.new.seat.me) _ m c.go_on-answer.new.machine c.go_on-answer.result runs goes on.steps,
      stops_early m c.go_on-answer.new.machine on.steps.told c.go_on-answer.result (runs_a_part c.args.low c.args.count c.args.index old (party c.steps.seat.me) _ m runs goes) none on.steps.turned,
      pays_on c.args.left.now c.steps.left c.pay.new.left old.taken (party c.steps.seat.me).taken (party c.go_on-answer.new.seat.me).taken c.steps.invariant.4 (paid c.pay.result _ _ c.if-not-pay.false c.pay.ensures) on.steps.goes.stepped.taken,
    )

pub returns-then-not-pay : goal.returns-then-not-pay
returns-then-not-pay g c =
    let old = party c.args.seat.now.me in
    let now = party c.steps.seat.me in
    let goes = going c.steps.machine c.steps.answer c.in_default.not-Some in
    let none = unpaid c.pay.result _ _ c.if-not-pay.true c.pay.ensures in
    record {
      seat = c.steps.invariant.0;
      lone = c.steps.invariant.1;
      ran = (
        none.1 ∙ none.0,
        subst (λ (place : Option _). StopsAt (call.Part c.args.low c.args.count) c.args.index old place now) (sym c.place.ensures)
            (part_halts c.args.low c.args.count c.args.index old now (turn_of c.steps.machine c.steps.answer) c.steps.machine c.steps.invariant.2 goes),
      );
      paid = subst (λ (left : Option _). Pays c.args.left.now left old.taken now.taken) (sym none.1) c.steps.invariant.4;
    }
