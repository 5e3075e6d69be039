-- A round of several callers, and the core that an image opens as behind it.
use Rattle.std.specs.Prelude.{◌≡◌, ℕ, suc, ◌+◌, ◌<◌, ◌≤◌, ◌^◌, true, false, List, Option, Some, None, length}
use Rattle.std.specs.FinMap.{len}
use Rattle.cat_history.specs.CrashRounds.{all_settled}
use Rattle.cat_history.specs.Maps.{map_of}
use Rattle.cat_history.specs.Writes.{after_all}
use Rattle.cat_history.specs.declared.op.Write.{Write}
use Rattle.cat_history.specs.declared.plan.CrashPlan.{CrashPlan}
use Rattle.cat_history.specs.declared.plan.RoundPlan.{RoundPlan}
use Rattle.cat_history.specs.declared.record.Record.{Record}
use Rattle.cat_text.specs.ReportGrammar.{IsReportRound}
use Rattle.cat_text.specs.declared.report.RoundReport.{RoundReport}
use Rattle.pm_words.specs.Images.{Row}
use Rattle.shapes.specs.ShapeRounds.{puts_added, IsShapeWithin}
use Rattle.index_law.specs.Anchors.{anchors_in}
use Rattle.thread_rounds.specs.index_core.specs.CrashLaws.{chosen_index, crash_image}
use Rattle.thread_rounds.specs.index_core.specs.Indexes.{Index, IsIndex, map_of_index, world}
use Rattle.thread_rounds.specs.index_core.specs.Weights.{weight_of}
use Rattle.core_crashes.specs.recovery.specs.Opened.{IsOpenedFrom}
use Rattle.core_crashes.specs.recovery.specs.Cores.{IsReopened}
use Rattle.core_crashes.specs.core_rounds.specs.Rounds.{IsCrashedRound, IsCrowdRound}
use Rattle.core_crashes.specs.Rounds.{IsPaidBehindCrash}

-- A round of several callers was played on the map of this core, with these writes, and reported; and the image was
-- opened again in which they met. That has the map which the writes leave, and a shape that the weight and the names
-- before the round and the puts that added a name pay for.
pub record IsPlayedCrowd (core : Index) (plan : RoundPlan) (report : RoundReport) (next : Index) : Type 0 where
  pub writes : List Write
  pub round : IsCrowdRound core.layout.slots core.layout.nodes (weight_of core) (len (map_of_index core))
      (map_of_index core) plan report writes
  pub told : IsReportRound report
  pub within : IsShapeWithin core.layout.slots core.layout.nodes (weight_of core + puts_added report.records)
      (len (map_of_index core) + puts_added report.records) (after_all (map_of_index core) writes)
      (anchors_in (world next))
  pub map : map_of_index next ≡ after_all (map_of_index core) writes
  pub weighs : weight_of next ≤ weight_of core + puts_added report.records
  pub layout : next.layout ≡ core.layout
  pub generation : next.generation ≡ suc core.generation
  pub image : Row
  pub opened : IsOpenedFrom image next

-- A round of several callers was played on the map of this core up to its crash, settled and reported, with these
-- writes that have their place; and the image was opened that the crash left. That has the map which is reported found,
-- and a shape that the weight and the names before the round and the puts that added a name, or were cut off, pay for.
pub record IsPlayedCrowdCrash (core : Index) (plan : RoundPlan) (crash : CrashPlan) (report : RoundReport)
    (next : Index) : Type 0 where
  pub writes : List Write
  pub round : IsCrashedRound (map_of_index core) plan crash report writes (map_of_index next)
  pub told : IsReportRound report
  pub pays : IsPaidBehindCrash core report next
  pub layout : next.layout ≡ core.layout
  pub generation : next.generation ≡ suc core.generation
  pub image : Row
  pub opened : IsOpenedFrom image next
  -- the image is what a crash leaves of an index that began with the map, once those words are durable that the seed of
  -- the plan chooses
  pub left : Index
  pub index : IsIndex left
  pub began : map_of left.base ≡ map_of_index core
  pub leaves : image ≡ crash_image (chosen_index left crash.seed)

-- A round is joined, or ended by its crash if it has one.
abbrev pub IsPlayedAs : Option CrashPlan → Index → RoundPlan → RoundReport → Index → Type 0
IsPlayedAs None core plan report next = IsPlayedCrowd core plan report next
IsPlayedAs (Some crash) core plan report next = IsPlayedCrowdCrash core plan crash report next

-- What is reported of a round whose callers met in this core, and the core that its image was opened as.
pub record IsReportedBehind (met : Index) (records : List Record) (writes : ℕ) (report : RoundReport) (next : Index) :
    Type 0 where
  pub reopened : IsReopened met next
  pub reported : report ≡ record { records = records; crashed = false; writes = writes; names = length next.base }
  pub names_fit : length next.base < 2 ^ 64

-- What is reported of a round that a crash ended, and the core that the image was opened as which it left: each mark
-- says what that core's map says.
pub record IsReportedCrash (image : Row) (records : List Record) (writes : ℕ) (report : RoundReport) (next : Index) :
    Type 0 where
  pub opened : IsOpenedFrom image next
  pub reported : report ≡ record {
    records = all_settled (map_of next.base) records;
    crashed = true;
    writes = writes;
    names = length next.base;
  }
  pub names_fit : length next.base < 2 ^ 64
