use Rattle.std.proofs.Common.{◌≡◌, length, ◌∙◌, sym, ap, subst, refl}
use Rattle.std.specs.Prelude.{IfSome, Option}
use Rattle.cat_history.specs.declared.plan.CrashPlan.{CrashPlan}
use Rattle.std.proofs.lemmas.Result.{IfOk-weaker}
use Rattle.core_crashes.specs.core_rounds.proofs.Restarting.{crowd_or_lone}
use Rattle.core_crashes.specs.core_rounds.specs.LoneCalls.{is_crowd}
use Rattle.crowd_rounds.proofs.Restarts.{crash-restart, crowd-restart}
use Rattle.crowd_rounds.proofs.playing.play_restart.Goals as goal

pub returns-then-is_crowd : goal.returns-then-is_crowd
returns-then-is_crowd g c =
    IfOk-weaker c.play_crowd.result _ _
    (λ done played. crowd-restart c.args.core done.core c.args.plan.now done.report c.args.plan.now.crash refl (ap is_crowd (sym c.as_slice.ensures) ∙ sym c.is_crowd.ensures ∙ c.if-is_crowd.true) played)
    c.play_crowd.ensures

pub crash_round-requires-clause-lone : goal.crash_round-requires-clause-lone
crash_round-requires-clause-lone g c = (crowd_or_lone c.args.plan.now.ops).1 (ap is_crowd (sym c.as_slice.ensures) ∙ sym c.is_crowd.ensures ∙ c.if-is_crowd.false)

pub returns : goal.returns
returns g c =
    crash-restart c.args.core c.in_ok-report.field-0.core c.args.plan.now c.in-Some.crash c.in_ok-report.field-0.report
    ((crowd_or_lone c.args.plan.now.ops).1 (ap is_crowd (sym c.as_slice.ensures) ∙ sym c.is_crowd.ensures ∙ c.if-is_crowd.false)) c.in-Some.is c.in_ok-report.ensures

pub play_crowd-requires-clause-next : goal.play_crowd-requires-clause-next
play_crowd-requires-clause-next g c κs within = c.requires.next

pub play_crowd-requires-clause-callers : goal.play_crowd-requires-clause-callers
play_crowd-requires-clause-callers g c κs within = c.requires.callers

pub play_crowd-requires-clause-told : goal.play_crowd-requires-clause-told
play_crowd-requires-clause-told g c κs within = c.requires.told

pub play_crowd-requires-clause-limit : goal.play_crowd-requires-clause-limit
play_crowd-requires-clause-limit g c κs within = c.requires.limit

pub crash_round-requires-clause-index : goal.crash_round-requires-clause-index
crash_round-requires-clause-index g c = c.requires.index

pub crash_round-requires-clause-quiet : goal.crash_round-requires-clause-quiet
crash_round-requires-clause-quiet g c = c.requires.quiet

pub crash_round-requires-clause-stamps : goal.crash_round-requires-clause-stamps
crash_round-requires-clause-stamps g c = c.requires.stamps

pub crash_round-requires-clause-next : goal.crash_round-requires-clause-next
crash_round-requires-clause-next g c = c.requires.next

pub crash_round-requires-clause-callers : goal.crash_round-requires-clause-callers
crash_round-requires-clause-callers g c = c.requires.callers

pub crash_round-requires-clause-told : goal.crash_round-requires-clause-told
crash_round-requires-clause-told g c = c.requires.told

pub crash_round-requires-clause-calls : goal.crash_round-requires-clause-calls
crash_round-requires-clause-calls g c = c.requires.calls

pub crash_round-requires-clause-budgets : goal.crash_round-requires-clause-budgets
crash_round-requires-clause-budgets g c =
    subst (λ (o : Option CrashPlan). IfSome o (λ (k : CrashPlan). length k.budgets ≡ c.args.core.layout.callers)) c.in-Some.is c.requires.budgets
