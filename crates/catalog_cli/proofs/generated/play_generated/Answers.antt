use Rattle.cat_history.specs.Maps.{map_of}
use Rattle.cat_history.specs.Replays.{pairs_of}
use Rattle.cat_text.specs.declared.report.RoundReport.{RoundReport}
use Rattle.std.proofs.Common.{◌<◌, ◌≤◌, ◌^◌, ℕ, List, ap, sym, ◌∙◌, subst, arith, length}
use Rattle.std.specs.Prelude.{All}
use Rattle.std.proofs.lemmas.Result.{IfOk-weaker}
use Rattle.cat_history.specs.declared.op.CallerOp.{CallerOp}
use Rattle.cat_history.specs.declared.plan.RoundPlan.{RoundPlan}
use Rattle.crowd_rounds.specs.core_rounds.specs.LoneCalls.{AreReportCalls}
use Rattle.crowd_rounds.specs.Segments.{HasBudgets}
use Rattle.crowd_rounds.specs.core_rounds.specs.Summaries.{IsWithin}
use Rattle.crowd_rounds.specs.core_rounds.proofs.Played.{each_is_reported}
use Rattle.catalog_cli.proofs.SeededCalls.{all-of-one, calls-are, calls-fit, calls-told, calls-within, one-plan-few}
use Rattle.catalog_cli.proofs.SeededCalls.{seeded, seeded-round, summed-up}
use Rattle.catalog_cli.proofs.generated.play_generated.Goals as goal

pub play_plans-requires-clause-callers : goal.play_plans-requires-clause-callers
play_plans-requires-clause-callers g c κs lives =
    all-of-one (λ (p : RoundPlan). All (λ (a : CallerOp). a.caller < c.layout.result.callers) p.ops) _ c.in_ok-plan.plan c.from_ref.ensures.value
    (subst (λ (n : ℕ). All (λ (a : CallerOp). a.caller < n) c.in_ok-plan.plan.ops) (sym c.layout.ensures.callers)
    (subst (λ (p : RoundPlan). All (λ (a : CallerOp). a.caller < c.args.callers) p.ops) (sym c.in_ok-plan.ensures) (calls-fit c.args.seed c.args.count c.args.callers c.requires.some)))

pub play_plans-requires-clause-told : goal.play_plans-requires-clause-told
play_plans-requires-clause-told g c κs lives =
    all-of-one (λ (p : RoundPlan). AreReportCalls p.ops) _ c.in_ok-plan.plan c.from_ref.ensures.value
    (subst (λ (p : RoundPlan). AreReportCalls p.ops) (sym c.in_ok-plan.ensures) (calls-told c.args.seed c.args.count c.args.callers c.requires.count c.requires.some c.requires.few))

pub play_plans-requires-clause-limits : goal.play_plans-requires-clause-limits
play_plans-requires-clause-limits g c κs lives = all-of-one (λ (p : RoundPlan). p.limit ≤ 2 ^ 62) _ c.in_ok-plan.plan c.from_ref.ensures.value (omega (arith, ap (λ (p : RoundPlan). p.limit) c.in_ok-plan.ensures))

-- no crash ends the round
pub play_plans-requires-clause-budgets : goal.play_plans-requires-clause-budgets
play_plans-requires-clause-budgets g c κs lives =
    all-of-one (HasBudgets c.layout.result.callers) _ c.in_ok-plan.plan c.from_ref.ensures.value (subst (HasBudgets c.layout.result.callers) (sym c.in_ok-plan.ensures) tt)

pub play_plans-requires-clause-rounds : goal.play_plans-requires-clause-rounds
play_plans-requires-clause-rounds g c κs lives = omega (arith, ap (λ (ps : List RoundPlan). length ps) c.from_ref.ensures.value)

pub play_plans-requires-clause-calls : goal.play_plans-requires-clause-calls
play_plans-requires-clause-calls g c κs lives = one-plan-few c.args.seed c.args.count c.args.callers _ c.in_ok-plan.plan c.requires.count c.in_ok-plan.ensures c.from_ref.ensures.value

pub bounds-as_slice-0 : goal.bounds-as_slice-0
bounds-as_slice-0 g c =
    let as_many = each_is_reported _ _ _ _ _ _ _ _ _ _ c.in_ok-played.ensures.played in
    omega (arith, as_many, ap (λ (ps : List RoundPlan). length ps) c.from_ref.ensures.value, ap (λ (rs : List RoundReport). length rs) c.as_slice.ensures)

pub summarize-requires-clause-round : goal.summarize-requires-clause-round
summarize-requires-clause-round g c =
    seeded-round _ _ _ c.in_ok-plan.plan c.index-as_slice-0.result _ _ _ c.in_ok-plan.ensures
    (seeded c.args.seed c.args.count c.args.callers _ _ _ c.in_ok-plan.plan _ _ c.index-as_slice-0.result _ _ c.in_ok-plan.ensures c.from_ref.ensures.value c.layout.ensures.slots c.layout.ensures.nodes
    c.in_ok-played.ensures.played c.as_slice.ensures c.index-as_slice-0.is)
    (ap map_of c.as_slice-2.ensures ∙ c.in_ok-pairs.ensures.map)

pub summarize-requires-clause-pairs : goal.summarize-requires-clause-pairs
summarize-requires-clause-pairs g c =
    c.as_slice-2.ensures ∙ c.in_ok-pairs.ensures.pairs ∙ ap pairs_of (sym (ap map_of c.as_slice-2.ensures ∙ c.in_ok-pairs.ensures.map))

pub summarize-requires-clause-within : goal.summarize-requires-clause-within
summarize-requires-clause-within g c =
    subst (λ (p : RoundPlan). All (λ (a : CallerOp). IsWithin 100000 a.op) p.ops) (sym c.in_ok-plan.ensures) (calls-within c.args.seed c.args.count c.args.callers c.requires.count)

pub summarize-requires-clause-few : goal.summarize-requires-clause-few
summarize-requires-clause-few g c =
    let few = c.requires.count in
    omega (arith, few, ap (λ (p : RoundPlan). length p.ops) c.in_ok-plan.ensures, calls-are c.args.seed c.args.count c.args.callers)

pub returns : goal.returns
returns g c =
    let played = seeded c.args.seed c.args.count c.args.callers _ _ _ c.in_ok-plan.plan _ _ c.index-as_slice-0.result _ _ c.in_ok-plan.ensures c.from_ref.ensures.value c.layout.ensures.slots c.layout.ensures.nodes
    c.in_ok-played.ensures.played c.as_slice.ensures c.index-as_slice-0.is in
    IfOk-weaker c.print_summary.result _ _ (λ text printed.
    summed-up _ _ _ c.in_ok-plan.plan c.index-as_slice-0.result _ _ _ _ _ c.requires.count c.in_ok-plan.ensures played (ap map_of c.as_slice-2.ensures ∙ c.in_ok-pairs.ensures.map) c.summarize.ensures printed)
    c.print_summary.ensures
