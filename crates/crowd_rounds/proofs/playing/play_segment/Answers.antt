use Rattle.std.proofs.Common.{◌≡◌, ℕ, suc, ◌*◌, ◌^◌, ◌<◌, ◌≤◌, length, take, [], ◌∷◌, sym, ap, ◌∙◌, subst, arith, All, length-append}
use Rattle.std.proofs.lemmas.List.Elements.{All-take}
use Rattle.cat_history.specs.declared.op.CallerOp.{CallerOp}
use Rattle.cat_history.specs.declared.plan.RoundPlan.{RoundPlan}
use Rattle.pm_words.specs.declared.layout.Layout.{Layout}
use Rattle.version_lock.specs.Versions.{IsGeneration}
use Rattle.core_crashes.specs.core_rounds.proofs.Restarting.{joined_lone_have_no_restart}
use Rattle.core_crashes.specs.core_rounds.specs.CoreMaps.{calls_left_of}
use Rattle.core_crashes.specs.core_rounds.specs.LoneCalls.{AreReportCalls, has_restart}
use Rattle.crowd_rounds.specs.Segments.{HasBudgets}
use Rattle.crowd_rounds.proofs.Segmenting.{as-many, calls-before, calls-first, next-there, plain-first, plain-then-restart}
use Rattle.crowd_rounds.proofs.Working.{plain-works, stretch-works}
use Rattle.crowd_rounds.proofs.playing.play_segment.Goals.{After-index-plans-count}
use Rattle.crowd_rounds.proofs.playing.play_segment.Goals as goal

-- they are of one caller each, and joined
pub play_plain-requires-clause-playable : goal.play_plain-requires-clause-playable
play_plain-requires-clause-playable g c =
    let plans = c.args.plans.now in
    let count = c.plain_at_first-count.result in
    let plain = (joined_lone_have_no_restart (take count plans)).1 c.plain_at_first-count.ensures.none in
    let few = calls-first plans count in
    record {
      lone = plain.0;
      joined = plain.1;
      callers = All-take (λ (p : RoundPlan). All (λ (a : CallerOp). a.caller < c.args.core.layout.callers) p.ops) count plans c.requires.playable.callers;
      told = All-take (λ (p : RoundPlan). AreReportCalls p.ops) count plans c.requires.playable.told;
      calls = omega (arith, few, c.requires.playable.calls);
    }

-- as many are reported as were played
many : (g : _) (c : goal.Then-count-plans g) → length c.in_ok-reports.field-0.reports.items ≡ c.plain_at_first-count.result
many g c = as-many c.args.core c.in_ok-reports.field-0.core c.args.plans.now c.plain_at_first-count.result c.in_ok-reports.field-0.reports.items c.in_ok-reports.ensures c.plain_at_first-count.ensures.few

pub returns-then-count-plans-clause-first : goal.returns-then-count-plans-clause-first
returns-then-count-plans-clause-first g c =
    plain-first c.args.core c.in_ok-reports.field-0.core c.args.plans.now c.plain_at_first-count.result c.in_ok-reports.field-0.reports.items c.in_ok-reports.ensures c.plain_at_first-count.ensures

pub returns-then-count-plans-clause-some : goal.returns-then-count-plans-clause-some
returns-then-count-plans-clause-some g c some = omega (arith, many g c, some, c.if-count-plans.true)

pub returns-then-count-plans-clause-works : goal.returns-then-count-plans-clause-works
returns-then-count-plans-clause-works g c =
    plain-works c.args.core c.in_ok-reports.field-0.core c.args.plans.now c.plain_at_first-count.result c.in_ok-reports.field-0.reports.items c.in_ok-reports.ensures c.plain_at_first-count.ensures

pub returns-then-count-plans-clause-opened : goal.returns-then-count-plans-clause-opened
returns-then-count-plans-clause-opened g c less = absurd (omega (arith, many g c, less, c.if-count-plans.true))

-- some are left
fewer : (g : _) (c : After-index-plans-count g) → c.plain_at_first-count.result < length c.args.plans.now
fewer g c = let few = c.plain_at_first-count.ensures.few in let other = c.if-count-plans.false in omega (arith, few, other)

pub play_restart-requires-clause-next : goal.play_restart-requires-clause-next
play_restart-requires-clause-next g c κs within =
    subst (λ (n : ℕ). IsGeneration (suc n)) (sym c.in_ok-reports.ensures.leaves.generation)
    (next-there c.args.core.generation c.args.plans.now c.plain_at_first-count.result c.requires.playable.generations c.plain_at_first-count.ensures (fewer g c) c.index-plans-count.result)

pub play_restart-requires-clause-callers : goal.play_restart-requires-clause-callers
play_restart-requires-clause-callers g c κs within =
    subst (λ (l : Layout). All (λ (a : CallerOp). a.caller < l.callers) c.index-plans-count.result.ops) (sym c.in_ok-reports.ensures.leaves.layout)
    (subst (λ (p : RoundPlan). All (λ (a : CallerOp). a.caller < c.args.core.layout.callers) p.ops) (sym c.index-plans-count.is)
    (c.requires.playable.callers c.plain_at_first-count.result c.index-plans-count.result (fewer g c)))

pub play_restart-requires-clause-told : goal.play_restart-requires-clause-told
play_restart-requires-clause-told g c κs within =
    subst (λ (p : RoundPlan). AreReportCalls p.ops) (sym c.index-plans-count.is) (c.requires.playable.told c.plain_at_first-count.result c.index-plans-count.result (fewer g c))

pub play_restart-requires-clause-limit : goal.play_restart-requires-clause-limit
play_restart-requires-clause-limit g c κs within =
    subst (λ (p : RoundPlan). p.limit ≤ 2 ^ 62) (sym c.index-plans-count.is) (c.requires.playable.limits c.plain_at_first-count.result c.index-plans-count.result (fewer g c))

pub play_restart-requires-clause-restart : goal.play_restart-requires-clause-restart
play_restart-requires-clause-restart g c κs within = ap has_restart c.index-plans-count.is ∙ c.plain_at_first-count.ensures.next c.index-plans-count.result (fewer g c)

pub play_restart-requires-clause-budgets : goal.play_restart-requires-clause-budgets
play_restart-requires-clause-budgets g c κs within =
    subst (λ (l : Layout). HasBudgets l.callers c.index-plans-count.result) (sym c.in_ok-reports.ensures.leaves.layout)
    (subst (HasBudgets c.args.core.layout.callers) (sym c.index-plans-count.is) (c.requires.playable.budgets c.plain_at_first-count.result c.index-plans-count.result (fewer g c)))

pub play_restart-requires-clause-calls : goal.play_restart-requires-clause-calls
play_restart-requires-clause-calls g c κs within =
    let few = calls-before c.args.plans.now c.plain_at_first-count.result c.index-plans-count.result (fewer g c) c.index-plans-count.is in
    subst (λ (l : Layout). length c.index-plans-count.result.ops * l.nodes ≤ calls_left_of c.in_ok-reports.field-0.core) (sym c.in_ok-reports.ensures.leaves.layout)
    (c.in_ok-reports.ensures.leaves.calls_left (length c.index-plans-count.result.ops) (omega (arith, few, c.requires.playable.calls)))

pub returns-clause-first : goal.returns-clause-first
returns-clause-first g c =
    let few = c.plain_at_first-count.ensures.few in
    let other = c.if-count-plans.false in
    plain-then-restart c.args.core c.in_ok-reports.field-0.core c.in_ok-report.field-0.core c.args.plans.now c.plain_at_first-count.result c.in_ok-reports.field-0.reports.items c.push.new.self.items
    c.index-plans-count.result c.in_ok-report.field-0.report c.in_ok-reports.ensures c.plain_at_first-count.ensures (omega (arith, few, other)) c.index-plans-count.is c.in_ok-report.ensures
    c.in_ok-push.ensures.items

pub returns-clause-works : goal.returns-clause-works
returns-clause-works g c =
    let few = c.plain_at_first-count.ensures.few in
    let other = c.if-count-plans.false in
    stretch-works c.requires.opened.0 c.args.core c.in_ok-reports.field-0.core c.in_ok-report.field-0.core c.args.plans.now c.plain_at_first-count.result c.in_ok-reports.field-0.reports.items c.push.new.self.items
    c.index-plans-count.result c.in_ok-report.field-0.report c.requires.opened.1 c.in_ok-reports.ensures c.plain_at_first-count.ensures (omega (arith, few, other)) c.index-plans-count.is
    c.in_ok-report.ensures c.in_ok-push.ensures.items

pub play_plain-requires-clause-opened : goal.play_plain-requires-clause-opened
play_plain-requires-clause-opened g c = c.requires.opened

pub play_restart-requires-clause-index : goal.play_restart-requires-clause-index
play_restart-requires-clause-index g c κs within = c.in_ok-reports.ensures.leaves.index

pub play_restart-requires-clause-quiet : goal.play_restart-requires-clause-quiet
play_restart-requires-clause-quiet g c κs within = c.in_ok-reports.ensures.leaves.quiet

pub play_restart-requires-clause-stamps : goal.play_restart-requires-clause-stamps
play_restart-requires-clause-stamps g c κs within = c.in_ok-reports.ensures.leaves.stamps

pub returns-clause-some : goal.returns-clause-some
returns-clause-some g c some =
    let pushed = ap length c.in_ok-push.ensures.items ∙ length-append c.in_ok-reports.field-0.reports.items (c.in_ok-report.field-0.report ∷ []) in
    omega (arith, pushed)

pub returns-clause-opened : goal.returns-clause-opened
returns-clause-opened g c less = (c.in_ok-report.ensures.image, c.in_ok-report.ensures.opened)
