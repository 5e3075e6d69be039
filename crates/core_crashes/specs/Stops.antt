-- A round of one caller on a core, as far as it came, with what was cut off in flight.
use Rattle.std.specs.Prelude.{◌≡◌, ℕ, ◌+◌, ◌<◌, ◌≤◌, All, length, take}
use Rattle.cat_history.specs.LoneRounds.{writes_of}
use Rattle.cat_history.specs.declared.plan.RoundPlan.{RoundPlan}
use Rattle.shapes.specs.Anchors.{Anchors}
use Rattle.shapes.specs.ShapeRounds.{puts_added}
use Rattle.index_law.specs.Anchors.{anchors_in}
use Rattle.index_law.specs.Weights.{weight_sum}
use Rattle.core_rounds.specs.index_core.specs.Costs.{turn_actions}
use Rattle.core_rounds.specs.index_core.specs.Crashes.{cut_changes}
use Rattle.core_rounds.specs.index_core.specs.Indexes.{Index, IsIndex, map_of_index, world}
use Rattle.stopped_rounds.specs.InTime.{AreInTime, AreOnNames, HasNoTurns, HasTimelyTurns}
use Rattle.stopped_rounds.specs.Replies.{SettlesToReport}
use Rattle.stopped_rounds.specs.Stops.{HasStopped}
use Rattle.stopped_rounds.specs.declared.crash_round.StoppedRound.{StoppedRound}
use Rattle.core_rounds.specs.Waiting.{puts_among}
use Rattle.core_rounds.specs.CrashWork.{most_events}
use Rattle.core_crashes.specs.CrashMaps.{MakeNoTurns, most_between}

-- The round stopped within the budgets of its caller and of the updater, and its index is as the calls left it and what
-- was cut off. A report can tell of its records once their marks are settled.
pub record StopsOn (core : Index) (plan : RoundPlan) (budget updater_budget : ℕ) (round : StoppedRound) (new : Index) :
    Type 0 where
  pub members : Anchors
  pub stopped : HasStopped core.layout.slots core.layout.nodes plan.limit budget (record {
    contents = map_of_index core;
    anchors = anchors_in (world core);
    cut = cut_changes core.states;
  }) plan.ops round.records (record { contents = map_of_index new; anchors = members; cut = cut_changes new.states })
  pub placed : round.writes ≡ length (writes_of round.records)
  pub told : All SettlesToReport round.records
  pub weighs : weight_sum (world new) ≤ weight_sum (world core) + puts_added round.records
  pub in_time : MakeNoTurns core plan.ops → AreOnNames plan.ops → HasNoTurns plan →
      AreInTime most_events budget round.records
  pub in_time_with_turns : MakeNoTurns core (take plan.updater plan.ops) →
      length (anchors_in (world core)) + puts_among plan.ops < core.layout.nodes → AreOnNames plan.ops →
      HasTimelyTurns most_between (turn_actions core.layout) plan updater_budget →
      AreInTime most_events budget round.records
  pub index : IsIndex new
  pub layout : new.layout ≡ core.layout
  pub generation : new.generation ≡ core.generation
