-- Rounds one after another, and those between two openings of the index.
use Rattle.std.specs.Prelude.{◌≡◌, ℕ, suc, ◌+◌, ◌<◌, ◌≤◌, ◌^◌, List, [], ◌∷◌, All, IfSome, length, take}
use Rattle.std.specs.Prelude.{get_or, true}
use Rattle.std.specs.FinMap.{len}
use Rattle.cat_history.specs.declared.plan.RoundPlan.{RoundPlan}
use Rattle.cat_text.specs.ReportGrammar.{IsReportRound}
use Rattle.cat_text.specs.declared.report.RoundReport.{RoundReport}
use Rattle.pm_words.specs.Images.{Row}
use Rattle.shapes.specs.ShapeRounds.{puts_added}
use Rattle.version_lock.specs.Versions.{IsGeneration}
use Rattle.index_law.specs.Anchors.{anchors_in}
use Rattle.thread_rounds.specs.index_core.specs.Indexes.{Index, IsIndex, map_of_index, world}
use Rattle.thread_rounds.specs.index_core.specs.Lone.{IsQuiet}
use Rattle.thread_rounds.specs.index_core.specs.Weights.{weight_of}
use Rattle.core_crashes.specs.recovery.specs.Opened.{IsOpenedFrom}
use Rattle.core_crashes.specs.core_rounds.specs.CoreMaps.{HasNoLines, LeaveCore}
use Rattle.core_crashes.specs.core_rounds.specs.CrashWork.{CrashRoundsWork, IsAnsweredInTime}
use Rattle.core_crashes.specs.core_rounds.specs.LoneCalls.{AreReportCalls, calls_in, has_restart, restarts}
use Rattle.core_crashes.specs.core_rounds.specs.Rounds.{ArePlayed, RoundsEndWithTurn, added_in}

-- A crash that ends a round has a budget for each of so many callers.
abbrev pub HasBudgets : ℕ → RoundPlan → Type 0
HasBudgets callers plan = IfSome plan.crash (λ crash. length crash.budgets ≡ callers)

-- Rounds can be played on this core, one after another: there are as many generations behind its own as it is opened
-- again, each call is one of a report, by one of its callers, and there are not too many.
pub record ArePlayable (core : Index) (plans : List RoundPlan) : Type 0 where
  pub generations : IsGeneration (core.generation + restarts plans)
  pub callers : All (λ (plan : RoundPlan). All (λ a. a.caller < core.layout.callers) plan.ops) plans
  pub told : All (λ (plan : RoundPlan). AreReportCalls plan.ops) plans
  pub limits : All (λ (plan : RoundPlan). plan.limit ≤ 2 ^ 62) plans
  pub budgets : All (HasBudgets core.layout.callers) plans
  pub calls : calls_in plans ≤ 100000

-- Behind none of the first so many rounds the index is opened again, and behind the next one, if there is one, it is.
pub record AreFirstPlain (plans : List RoundPlan) (count : ℕ) : Type 0 where
  pub few : count ≤ length plans
  pub none : restarts (take count plans) ≡ 0
  pub next : (plan : RoundPlan) → count < length plans → has_restart (get_or plans count plan) ≡ true

-- Joined rounds of one caller each were played on this core and reported so, and left that one. Where there are none,
-- it is the same core.
pub record ArePlainPlayed (old : Index) (plans : List RoundPlan) (reports : List RoundReport) (new : Index) : Type 0
  where
    pub played : ArePlayed old.layout.slots old.layout.nodes (weight_of old) (len (map_of_index old)) (map_of_index old)
        (anchors_in (world old)) plans reports (map_of_index new) (anchors_in (world new))
    pub leaves : LeaveCore old plans reports new
    pub still : length plans ≡ 0 → new ≡ old

-- A round of this plan was played on this core and reported so, and behind it that one was opened, of an image. Where
-- an image was just opened as this core, calls of a round that a crash ends are answered in time.
pub record IsPlayedRestart (core : Index) (plan : RoundPlan) (report : RoundReport) (next : Index) : Type 0 where
  pub played : ArePlayed core.layout.slots core.layout.nodes (weight_of core) (len (map_of_index core))
      (map_of_index core) (anchors_in (world core)) (plan ∷ []) (report ∷ []) (map_of_index next)
      (anchors_in (world next))
  pub told : IsReportRound report
  pub weighs : weight_of next ≤ weight_of core + puts_added report.records
  pub names : len (map_of_index next) ≤ len (map_of_index core) + puts_added report.records
  pub layout : next.layout ≡ core.layout
  pub generation : next.generation ≡ suc core.generation
  pub works : (before : Row) → IsOpenedFrom before core →
      IsAnsweredInTime core.layout.nodes (length (anchors_in (world core))) plan report.records
  pub image : Row
  pub opened : IsOpenedFrom image next

-- The crash rounds among these rounds do their work, on an index that an image was just opened as.
abbrev pub WorkOn : Index → List RoundPlan → List RoundReport → Type 0
WorkOn core plans reports = CrashRoundsWork core.layout.slots core.layout.nodes (weight_of core) true
    (length (anchors_in (world core))) plans reports

-- The first of the rounds were played on this core, as many as are reported, and left that one.
pub record AreFirstPlayed (old : Index) (plans : List RoundPlan) (reports : List RoundReport) (new : Index) : Type 0
  where
    pub few : length reports ≤ length plans
    pub played : ArePlayed old.layout.slots old.layout.nodes (weight_of old) (len (map_of_index old)) (map_of_index old)
        (anchors_in (world old)) (take (length reports) plans) reports (map_of_index new) (anchors_in (world new))
    pub told : All IsReportRound reports
    pub weighs : weight_of new ≤ weight_of old + added_in reports
    pub names : len (map_of_index new) ≤ len (map_of_index old) + added_in reports
    pub layout : new.layout ≡ old.layout
    pub generation : new.generation ≡ old.generation + restarts (take (length reports) plans)
    pub index : IsIndex new
    pub quiet : IsQuiet new
    pub settled : RoundsEndWithTurn (take (length reports) plans) → HasNoLines new

-- All of the rounds were played on this core, which an image was just opened as, and left that one.
pub record ArePlayedOn (old : Index) (plans : List RoundPlan) (reports : List RoundReport) (new : Index) : Type 0 where
  pub played : ArePlayed old.layout.slots old.layout.nodes (weight_of old) (len (map_of_index old)) (map_of_index old)
      (anchors_in (world old)) plans reports (map_of_index new) (anchors_in (world new))
  pub told : All IsReportRound reports
  pub layout : new.layout ≡ old.layout
  pub generation : new.generation ≡ old.generation + restarts plans
  pub index : IsIndex new
  pub quiet : IsQuiet new
  pub settled : RoundsEndWithTurn plans → HasNoLines new
  pub works : WorkOn old plans reports
