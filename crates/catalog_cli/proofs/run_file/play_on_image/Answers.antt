use Rattle.std.proofs.Common.{List, length, ap, sym, subst, ◌∙◌, ◌<◌, arith}
use Rattle.std.specs.Prelude.{All}
use Rattle.std.proofs.lemmas.Result.{err_from_is_err_and}
use Rattle.cat_history.specs.declared.op.CallerOp.{CallerOp}
use Rattle.cat_history.specs.declared.plan.RoundPlan.{RoundPlan}
use Rattle.pm_words.specs.declared.layout.Layout.{Layout}
use Rattle.crowd_rounds.specs.core_rounds.specs.LoneCalls.{calls_in}
use Rattle.crowd_rounds.specs.core_rounds.proofs.Played.{each_is_reported}
use Rattle.crowd_rounds.specs.Segments.{HasBudgets}
use Rattle.catalog_cli.specs.Reports.{IsAccepted, IsRefusedBy}
use Rattle.catalog_cli.specs.Runs.{IsOpenable, IsPlayRefused}
use Rattle.catalog_cli.proofs.Playable.{all-playable, some-round}
use Rattle.catalog_cli.proofs.PlayedReports.{played-report}
use Rattle.catalog_cli.proofs.RunEnds.{generations-left, not-accepted, run-ends}
use Rattle.catalog_cli.proofs.ScriptCalls.{calls-of-script, rounds-of-script}
use Rattle.catalog_cli.proofs.run_file.play_on_image.Goals as goal

pub open_for-requires : goal.open_for-requires
open_for-requires g c =
    let script = c.requires in
    let same = ap length c.as_slice-plans.ensures in
    let few = rounds-of-script script.0 c.args.script.now script.1 in
    omega (arith, same, few)

pub returns-in_err-core-clause-refused : goal.returns-in_err-core-clause-refused
returns-in_err-core-clause-refused g c =
    let p = err_from_is_err_and c.from_residual.result c.from_residual.ensures.1 in
    rw (p.1, p.2) (λ bytes is. subst (λ (ps : List RoundPlan). IsPlayRefused c.args.image bytes ps c.in_err-core.field-0.0) c.as_slice-plans.ensures (c.in_err-core.ensures.refused bytes))

pub returns-in_err-accept-clause-refused : goal.returns-in_err-accept-clause-refused
returns-in_err-accept-clause-refused g c =
    let p = err_from_is_err_and c.from_residual-in_err-accept.result c.from_residual-in_err-accept.ensures.1 in
    rw (p.1, p.2) (λ bytes is. not-accepted c.args.image bytes c.args.script.now.rounds c.in_err-accept.field-0.0
    (subst (IsOpenable c.args.image) c.as_slice-plans.ensures c.in_ok-core.ensures.openable)
    (subst (λ (l : Layout). IsRefusedBy l.callers bytes c.in_err-accept.field-0.0) c.layout-layout.ensures.layout (c.in_err-accept.ensures.refused bytes is)))

-- the rounds of a script that is accepted can be played
pub play_rounds-requires-clause-playable : goal.play_rounds-requires-clause-playable
play_rounds-requires-clause-playable g c κs lives =
    let script = c.requires in
    let plans = c.as_slice-plans.result.now in
    let accepted = c.in_ok-accept.ensures.accepted script.0 script.1 in
    let layout = c.layout-layout.ensures.layout ∙ sym c.in_ok-core.ensures.opened.layout in
    let same = ap calls_in c.as_slice-plans.ensures in
    let few = calls-of-script script.0 c.args.script.now script.1 in
    record {
      generations = generations-left c.args.image plans c.in_ok-core.core c.in_ok-core.ensures.opened c.in_ok-core.ensures.openable;
      callers = subst (λ (l : Layout). All (λ (plan : RoundPlan). All (λ (a : CallerOp). a.caller < l.callers) plan.ops) plans) layout
          (λ i d within. (all-playable _ script.0 c.args.script.now _ accepted c.as_slice-plans.ensures i d within).callers_are);
      told = λ i d within. (all-playable _ script.0 c.args.script.now _ accepted c.as_slice-plans.ensures i d within).told;
      limits = λ i d within. (all-playable _ script.0 c.args.script.now _ accepted c.as_slice-plans.ensures i d within).limit;
      budgets = subst (λ (l : Layout). All (HasBudgets l.callers) plans) layout
          (λ i d within. (all-playable _ script.0 c.args.script.now _ accepted c.as_slice-plans.ensures i d within).budgets);
      calls = omega (arith, same, few);
    }

pub print_report-requires : goal.print_report-requires
print_report-requires g c =
    let script = c.requires in
    let some = some-round script.0 c.args.script.now script.1 in
    let same = ap length c.as_slice-plans.ensures in
    let done = c.in_ok-played.ensures in
    record { report = played-report c.as_slice-plans.result.now c.in_ok-played.played.report (omega (arith, same, some)) (each_is_reported _ _ _ _ _ _ _ _ _ _ done.played) done.report }

pub returns-in_err-text-clause-refused : goal.returns-in_err-text-clause-refused
returns-in_err-text-clause-refused g c =
    let p = err_from_is_err_and c.from_residual-in_err-text.result c.from_residual-in_err-text.ensures.1 in
    rw (p.1, p.2) (λ bytes is. tt)

pub returns-in_err-image-clause-refused : goal.returns-in_err-image-clause-refused
returns-in_err-image-clause-refused g c =
    let p = err_from_is_err_and c.from_residual-in_err-image.result c.from_residual-in_err-image.ensures.1 in
    rw (p.1, p.2) (λ bytes is. tt)

pub returns-clause-played : goal.returns-clause-played
returns-clause-played g c bytes is =
    let accepted : IsAccepted c.args.image.layout.callers bytes c.args.script.now =
    subst (λ (l : Layout). IsAccepted l.callers bytes c.args.script.now) c.layout-layout.ensures.layout (c.in_ok-accept.ensures.accepted bytes is) in
    let done = c.in_ok-played.ensures in
    run-ends c.args.image c.in_ok-image.image c.in_ok-core.core c.in_ok-played.played.core bytes c.in_ok-text.text.items c.args.script.now c.as_slice-plans.result.now c.in_ok-played.played.report
    c.in_ok-core.ensures.opened c.in_ok-core.ensures.openable accepted c.as_slice-plans.ensures
    (record { played = done.played; works = done.works; layout = done.layout; generation = done.generation; settled = done.settled; waits = done.waits }) c.in_ok-text.ensures.tells c.in_ok-image.ensures
