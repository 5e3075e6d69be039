use Rattle.std.proofs.Common.{◌/◌, ◌∙◌, ap, arith, length, List, [], ◌∷◌, subst, true}
use Rattle.std.specs.FinMap.{empty}
use Rattle.cat_history.specs.declared.plan.RoundPlan.{RoundPlan}
use Rattle.index_law.specs.Anchors.{anchors_in}
use Rattle.crowd_rounds.specs.index_core.specs.Indexes.{map_of_index, world}
use Rattle.crowd_rounds.specs.core_rounds.specs.CrashWork.{CrashRoundsWork}
use Rattle.crowd_rounds.specs.core_rounds.specs.Rounds.{ArePlayed}
use Rattle.crowd_rounds.specs.core_rounds.specs.LoneCalls.{calls_in}
use Rattle.crowd_rounds.specs.core_rounds.proofs.Played.{each_is_reported}
use Rattle.catalog_cli.proofs.Playable.{all-playable, some-round}
use Rattle.catalog_cli.proofs.PlayedReports.{played-report}
use Rattle.catalog_cli.proofs.ScriptCalls.{calls-of-script, rounds-of-script}
use Rattle.catalog_cli.proofs.play.play.Goals as goal

pub play_plans-requires-clause-callers : goal.play_plans-requires-clause-callers
play_plans-requires-clause-callers g c κs lives i d within = (all-playable _ c.requires.accepted.0 c.args.script _ c.requires.accepted.1 (c.as_slice.ensures ∙ c.rounds_of-rounds.ensures) i d within).callers_are

pub play_plans-requires-clause-told : goal.play_plans-requires-clause-told
play_plans-requires-clause-told g c κs lives i d within = (all-playable _ c.requires.accepted.0 c.args.script _ c.requires.accepted.1 (c.as_slice.ensures ∙ c.rounds_of-rounds.ensures) i d within).told

pub play_plans-requires-clause-limits : goal.play_plans-requires-clause-limits
play_plans-requires-clause-limits g c κs lives i d within = (all-playable _ c.requires.accepted.0 c.args.script _ c.requires.accepted.1 (c.as_slice.ensures ∙ c.rounds_of-rounds.ensures) i d within).limit

pub play_plans-requires-clause-budgets : goal.play_plans-requires-clause-budgets
play_plans-requires-clause-budgets g c κs lives i d within = (all-playable _ c.requires.accepted.0 c.args.script _ c.requires.accepted.1 (c.as_slice.ensures ∙ c.rounds_of-rounds.ensures) i d within).budgets

pub play_plans-requires-clause-rounds : goal.play_plans-requires-clause-rounds
play_plans-requires-clause-rounds g c κs lives =
    let script = c.requires.accepted in
    omega (arith, ap length (c.as_slice.ensures ∙ c.rounds_of-rounds.ensures), rounds-of-script script.0 c.args.script script.1.is_script)

pub play_plans-requires-clause-calls : goal.play_plans-requires-clause-calls
play_plans-requires-clause-calls g c κs lives =
    let script = c.requires.accepted in
    omega (arith, ap calls_in (c.as_slice.ensures ∙ c.rounds_of-rounds.ensures), calls-of-script script.0 c.args.script script.1.is_script)

pub returns-clause-report : goal.returns-clause-report
returns-clause-report g c =
    let script = c.requires.accepted in
    let some = some-round script.0 c.args.script script.1.is_script in
    let done = c.in_ok-played.ensures in
    played-report c.as_slice.result.now _ (omega (arith, ap length (c.as_slice.ensures ∙ c.rounds_of-rounds.ensures), some)) (each_is_reported _ _ _ _ _ _ _ _ _ _ done.played) done.report

pub returns-clause-played : goal.returns-clause-played
returns-clause-played g c =
    let done = c.in_ok-played.ensures.played in (
      map_of_index c.in_ok-played.played.core,
      anchors_in (world c.in_ok-played.played.core),
      subst (λ (ps : List RoundPlan).
          ArePlayed c.args.layout.now.slots c.args.layout.now.nodes (c.args.layout.now.slots / 2) 0 empty ([] ∷ []) ps c.in_ok-played.played.report (map_of_index c.in_ok-played.played.core)
          (anchors_in (world c.in_ok-played.played.core))) (c.as_slice.ensures ∙ c.rounds_of-rounds.ensures) done,
    )

pub returns-clause-works : goal.returns-clause-works
returns-clause-works g c =
    subst (λ (ps : List RoundPlan). CrashRoundsWork c.args.layout.now.slots c.args.layout.now.nodes (c.args.layout.now.slots / 2) true 1 ps c.in_ok-played.played.report) (c.as_slice.ensures ∙ c.rounds_of-rounds.ensures)
    c.in_ok-played.ensures.works
