-- A round of one caller that a crash ended, and the core that its image opens as.
use Rattle.std.specs.Prelude.{◌≡◌, ℕ, suc, ◌+◌, ◌<◌, ◌≤◌, All, Some, length, slice_get, take}
use Rattle.std.specs.FinMap.{len}
use Rattle.cat_history.specs.LoneRounds.{writes_of}
use Rattle.cat_history.specs.Writes.{after_all}
use Rattle.cat_history.specs.declared.plan.CrashPlan.{CrashPlan}
use Rattle.cat_history.specs.declared.plan.RoundPlan.{RoundPlan}
use Rattle.cat_text.specs.ReportGrammar.{IsReportRound}
use Rattle.cat_text.specs.declared.report.RoundReport.{RoundReport}
use Rattle.pm_words.specs.Images.{Row}
use Rattle.shapes.specs.ShapeRounds.{puts_added, FullIsPaid, IsShapeWithin}
use Rattle.index_law.specs.Anchors.{anchors_in}
use Rattle.core_rounds.specs.index_core.specs.Costs.{turn_actions}
use Rattle.core_rounds.specs.index_core.specs.CrashLaws.{chosen_index, crash_image}
use Rattle.core_rounds.specs.index_core.specs.Indexes.{Index, map_of_index, world}
use Rattle.core_rounds.specs.index_core.specs.Weights.{weight_of}
use Rattle.core_rounds.specs.recovery.specs.Opened.{IsOpenedFrom}
use Rattle.stopped_rounds.specs.InTime.{AreInTime, AreOnNames, HasNoTurns, HasTimelyTurns}
use Rattle.core_rounds.specs.Rounds.{IsCrashedRound, IsLoneCrash}
use Rattle.core_rounds.specs.Waiting.{puts_among}
use Rattle.core_rounds.specs.CrashWork.{most_events}
use Rattle.core_crashes.specs.CrashMaps.{MakeNoTurns, most_between}

-- What is paid for behind a round on this core that a crash ended, by the weight and the names before the round and the
-- puts that added a name, or were cut off: each full answer, and the shape and the weight of the core that was opened.
pub record IsPaidBehindCrash (core : Index) (report : RoundReport) (next : Index) : Type 0 where
  pub paid : All (FullIsPaid core.layout.slots core.layout.nodes (weight_of core + puts_added report.records)
      (len (map_of_index core) + puts_added report.records)) report.records
  pub within : IsShapeWithin core.layout.slots core.layout.nodes (weight_of core + puts_added report.records)
      (len (map_of_index core) + puts_added report.records) (map_of_index next) (anchors_in (world next))
  pub weighs : weight_of next ≤ weight_of core + puts_added report.records

-- A round of one caller was played on the map of this core up to its crash, and reported; and the image was opened that
-- the crash left. That has the map which is reported found, and a shape that the weight and the names before the round
-- and the puts that may have added a name pay for.
pub record IsPlayedLoneCrash (core : Index) (plan : RoundPlan) (crash : CrashPlan) (report : RoundReport)
    (next : Index) : Type 0 where
  pub round : IsCrashedRound (map_of_index core) plan crash report (writes_of report.records) (map_of_index next)
  pub answers : IsLoneCrash core.layout.slots core.layout.nodes (map_of_index core) (anchors_in (world core)) plan
      report.records
  pub told : IsReportRound report
  pub pays : IsPaidBehindCrash core report next
  -- where neither the calls nor the updater make turns, each call on a name is answered for which, and for each one
  -- before it, its caller's budget has 70,000 events
  pub in_time : (caller budget : ℕ) → All (λ a. a.caller ≡ caller) plan.ops →
      slice_get crash.budgets caller ≡ Some budget → MakeNoTurns core plan.ops → AreOnNames plan.ops → HasNoTurns plan →
      AreInTime most_events budget report.records
  -- so it is where the updater makes turns, one behind each eight calls or fewer and each within its budget, so that no
  -- call makes one: those before the first turn need none, and there are enough nodes for all
  pub in_time_with_turns : (caller budget : ℕ) → All (λ a. a.caller ≡ caller) plan.ops →
      slice_get crash.budgets caller ≡ Some budget → MakeNoTurns core (take plan.updater plan.ops) →
      length (anchors_in (world core)) + puts_among plan.ops < core.layout.nodes → AreOnNames plan.ops →
      HasTimelyTurns most_between (turn_actions core.layout) plan crash.updater_budget →
      AreInTime most_events budget report.records
  pub layout : next.layout ≡ core.layout
  pub generation : next.generation ≡ suc core.generation
  pub image : Row
  pub opened : IsOpenedFrom image next
  -- the image is what a crash leaves of the index with all placed writes, once those words are durable that the seed of
  -- the plan chooses
  pub left : Index
  pub places : map_of_index left ≡ after_all (map_of_index core) (writes_of report.records)
  pub leaves : image ≡ crash_image (chosen_index left crash.seed)
