use Rattle.std.proofs.Common.{◌≡◌, ◌<◌, false, List, length, take, refl, sym, ◌∙◌, ap, subst, arith}
use Rattle.std.proofs.Math.Nat.{le-mul_of_pos_right}
use Rattle.cat_history.specs.Maps.{map_of}
use Rattle.pm_words.specs.declared.layout.Layout.{Layout}
use Rattle.index_law.specs.Anchors.{anchors_in}
use Rattle.core_rounds.specs.index_core.specs.Costs.{turn_actions}
use Rattle.core_rounds.specs.index_core.specs.Indexes.{world}
use Rattle.cat_history.specs.declared.op.CallerOp.{CallerOp}
use Rattle.stopped_rounds.specs.InTime.{HasTimelyTurns}
use Rattle.core_crashes.specs.CrashMaps.{FindRoom, IsTurnless, MakeNoTurns, Stoppable, anchors_by, members_by}
use Rattle.core_crashes.specs.CrashMaps.{most_between, state_of}
use Rattle.core_crashes.proofs.CrashMaps.{none_cut_off}
use Rattle.core_crashes.proofs.Played.{stopped_on}
use Rattle.core_crashes.proofs.round.stop_on_core.Goals as goal

pub run_crash_round-requires-clause-uncut : goal.run_crash_round-requires-clause-uncut
run_crash_round-requires-clause-uncut g c = ap (λ (m : Stoppable). (state_of g.K.CrashRun.anchors m).cut) c.of_core-map.ensures ∙ none_cut_off c.args.core c.requires.quiet.calls

pub run_crash_round-requires-clause-caller : goal.run_crash_round-requires-clause-caller
run_crash_round-requires-clause-caller g c = (c.args.caller, c.requires.lone)

pub returns : goal.returns
returns g c =
    let told = c.in_ok-round.ensures in
    let new = c.into_core.ensures in
    let start : Stoppable = record { index = c.args.core; stopped = false; turning = false; placed = false } in
    let turnless : (asked : List CallerOp) → MakeNoTurns c.args.core asked → IsTurnless c.of_core-map.result asked =
    λ asked none. subst (λ (m : Stoppable). IsTurnless m asked) (sym c.of_core-map.ensures) (record { going = refl; turnless = none }) in
    stopped_on g.K.CrashRun.anchors c.args.core c.into_core.result c.of_core-map.result c.run_crash_round.new.map c.args.plan.now c.args.budget c.args.updater_budget c.in_ok-round.round c.of_core-map.ensures new.core
    c.requires.begins c.requires.anchors new.index (new.run.layout ∙ sym c.requires.run.layout) (new.run.generation ∙ sym c.requires.run.generation) told.stopped told.placed told.told told.weighs
    (λ none named never. told.in_time (omega arith) (turnless c.args.plan.now.ops none) named never)
    (λ none room named timely.
    let members : members_by g.K.CrashRun.anchors c.args.core ≡ anchors_in (world c.args.core) = ap (anchors_by c.args.core.layout.slots (map_of c.args.core.base) g.K.CrashRun.anchors) c.requires.begins ∙ c.requires.anchors in
    let size = ap length members in
    let nodes : 0 < c.args.core.layout.nodes = omega (arith, room) in
    let calls = le-mul_of_pos_right (length c.args.plan.now.ops) nodes in
    let here : FindRoom g.K.CrashRun.anchors start c.args.plan.now.ops = record { turns = refl; nodes = omega (arith, size, room); calls = omega (arith, calls, c.requires.calls) } in
    told.in_time_with_turns (omega arith) (subst (λ (m : Stoppable). FindRoom g.K.CrashRun.anchors m c.args.plan.now.ops) (sym c.of_core-map.ensures) here)
    (turnless (take c.args.plan.now.updater c.args.plan.now.ops) none) named
    (subst (λ (l : Layout). HasTimelyTurns most_between (turn_actions l) c.args.plan.now c.args.updater_budget) c.requires.run.layout timely))
