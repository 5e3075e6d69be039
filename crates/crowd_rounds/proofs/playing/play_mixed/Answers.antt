use Rattle.std.proofs.Common.{◌≡◌, ℕ, ◌+◌, ◌-◌, List, length, take, drop, sym, ap, ◌∙◌, subst, arith, length-append}
use Rattle.std.proofs.lemmas.List.{length-drop, take_all}
use Rattle.cat_history.specs.declared.plan.RoundPlan.{RoundPlan}
use Rattle.cat_text.specs.declared.report.RoundReport.{RoundReport}
use Rattle.core_crashes.specs.core_rounds.specs.LoneCalls.{restarts}
use Rattle.crowd_rounds.specs.Segments.{AreFirstPlayed, ArePlayable, WorkOn}
use Rattle.crowd_rounds.proofs.Segmenting.{all-played, goes-on, none-played, playable-left}
use Rattle.crowd_rounds.proofs.Working.{none-work, stretches-work}
use Rattle.crowd_rounds.proofs.playing.play_mixed.Goals as goal

-- what is left of the plans
rest : (plans : List RoundPlan) (at : ℕ) → take (length plans - at) (drop at plans) ≡ drop at plans
rest plans at = let long = length-drop at plans in take_all (length plans - at) (drop at plans) (omega (arith, long))

pub loop-at-init : goal.loop-at-init
loop-at-init g c = record {
  many = sym (ap length c.new-reports.ensures.items);
  first = none-played c.requires.opened.0 c.args.core c.args.plans.now c.new-reports.result.items c.requires.opened.1 c.new-reports.ensures.items;
  works = none-work c.args.core c.args.plans.now c.new-reports.result.items c.new-reports.ensures.items;
  opened = λ some. c.requires.opened;
}

pub play_segment-requires-clause-playable : goal.play_segment-requires-clause-playable
play_segment-requires-clause-playable g c κs within =
    let was = c.loop-at.invariant in
    subst (ArePlayable c.loop-at.core) (sym (rest c.args.plans.now c.loop-at.at))
    (playable-left c.args.core c.loop-at.core c.args.plans.now c.loop-at.at c.requires.playable was.first.layout
    (was.first.generation ∙ ap (λ (k : ℕ). c.args.core.generation + restarts (take k c.args.plans.now)) (sym was.many)))

pub loop-at-preserved : goal.loop-at-preserved
loop-at-preserved g c =
    let was = c.loop-at.invariant in
    let plans = c.args.plans.now in
    let told = c.in_ok-told.ensures in
    let more = c.in_ok-told.field-0.reports.items in
    let reports = c.loop-at.reports.items in
    let left = rest plans c.loop-at.at in
    let long = length-drop c.loop-at.at plans in
    let size = ap length left in
    let there : AreFirstPlayed c.loop-at.core (drop (length reports) plans) more c.in_ok-told.field-0.core =
    subst (λ (k : ℕ). AreFirstPlayed c.loop-at.core (drop k plans) more c.in_ok-told.field-0.core) was.many
    (subst (λ (ps : List RoundPlan). AreFirstPlayed c.loop-at.core ps more c.in_ok-told.field-0.core) left told.first) in
    let works : WorkOn c.loop-at.core (take (length more) (drop (length reports) plans)) more =
    subst (λ (k : ℕ). WorkOn c.loop-at.core (take (length more) (drop k plans)) more) was.many
    (subst (λ (ps : List RoundPlan). WorkOn c.loop-at.core (take (length more) ps) more) left told.works) in
    let opened = was.opened c.loop-at-test.true in
    let some = told.some (omega (arith, long, size, c.loop-at-test.true)) in
    let appended = c.in_ok-append.ensures.items in
    let count = ap length appended ∙ length-append reports more in
    record {
      many = omega (arith, was.many, count, c.len-at.ensures, c.in_ok-told.field-0.reports.ok);
      first = subst (λ (rs : List RoundReport). AreFirstPlayed c.args.core plans rs c.in_ok-told.field-0.core) (sym appended)
          (goes-on c.args.core c.loop-at.core c.in_ok-told.field-0.core plans reports more was.first there some);
      works = subst (λ (rs : List RoundReport). WorkOn c.args.core (take (length rs) plans) rs) (sym appended)
          (stretches-work opened.0 c.args.core c.loop-at.core plans reports more opened.1 was.first was.works works);
      opened = λ less. told.opened (omega (arith, long, size, less, c.len-at.ensures, c.in_ok-told.field-0.reports.ok));
    }

pub returns : goal.returns
returns g c =
    let was = c.loop-at.invariant in
    all-played c.args.core c.loop-at.core c.args.plans.now c.loop-at.reports.items c.of.result was.first was.works (omega (arith, was.many, c.loop-at-test.false)) c.of.ensures

pub play_segment-requires-clause-opened : goal.play_segment-requires-clause-opened
play_segment-requires-clause-opened g c κs within = c.loop-at.invariant.opened c.loop-at-test.true

pub loop-at-smaller : goal.loop-at-smaller
loop-at-smaller g c =
    let long = length-drop c.loop-at.at c.args.plans.now in
    let size = ap length (rest c.args.plans.now c.loop-at.at) in
    let some = c.in_ok-told.ensures.some (omega (arith, long, size, c.loop-at-test.true)) in
    omega (arith, some, c.loop-at-test.true, c.len-at.ensures, c.in_ok-told.field-0.reports.ok)

pub overflow_add-at : goal.overflow_add-at
overflow_add-at g c =
    let reports = c.loop-at.reports in
    let told = c.in_ok-told.field-0.reports in
    omega (arith, c.loop-at.invariant.many, reports.ok.0, reports.ok.1, reports.small, c.len-at.ensures, told.ok.0, told.ok.1, told.small)
