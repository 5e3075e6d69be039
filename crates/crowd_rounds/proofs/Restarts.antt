-- Rounds behind which the index is opened again: of several callers, and of one that a crash ends.
use Rattle.std.proofs.Common.{◌≡◌, [], ◌∷◌, sym, ap, ◌∙◌, subst, arith}
use Rattle.std.proofs.lemmas.Option.{same_Some}
use Rattle.std.specs.Prelude.{Option, Some, None, length, slice_get, true}
use Rattle.std.specs.FinMap.{len}
use Rattle.cat_history.specs.Maps.{Map}
use Rattle.cat_history.specs.declared.plan.CrashPlan.{CrashPlan}
use Rattle.cat_history.specs.declared.plan.RoundPlan.{RoundPlan}
use Rattle.cat_text.specs.declared.report.RoundReport.{RoundReport}
use Rattle.pm_words.specs.Images.{Row}
use Rattle.index_law.specs.Anchors.{anchors_in}
use Rattle.thread_rounds.specs.index_core.specs.Indexes.{Index, map_of_index, world}
use Rattle.thread_rounds.specs.index_core.specs.Weights.{weight_of}
use Rattle.core_crashes.specs.recovery.specs.Opened.{IsOpenedFrom}
use Rattle.core_crashes.specs.core_rounds.specs.CrashWork.{IsAnsweredInTime}
use Rattle.core_crashes.specs.core_rounds.specs.LoneCalls.{AreLoneCalls, is_crowd}
use Rattle.core_crashes.specs.core_rounds.specs.Rounds.{ArePlayed, crowd, crowd_crash, ends, lone_crash}
use Rattle.core_crashes.specs.core_rounds.proofs.Restarting.{crowd_or_lone}
use Rattle.core_crashes.specs.Rounds.{IsPlayedLoneCrash}
use Rattle.crowd_rounds.specs.Crowds.{IsPlayedAs, IsPlayedCrowd, IsPlayedCrowdCrash}
use Rattle.crowd_rounds.specs.Segments.{IsPlayedRestart}
use Rattle.crowd_rounds.proofs.Working.{opened-turnless}

-- nothing is said of calls of several callers
crowd-works : (core : Index) (plan : RoundPlan) (report : RoundReport) → is_crowd plan.ops ≡ true → (before : Row) → IsOpenedFrom before core →
    IsAnsweredInTime core.layout.nodes (length (anchors_in (world core))) plan report.records
crowd-works core plan report several before opened crash caller budget ended has turnless = absurd ((crowd_or_lone plan.ops).0 several (caller, turnless.lone))

-- calls of one caller are answered in time on a core that was just opened
crash-works : (core next : Index) (plan : RoundPlan) (crash : CrashPlan) (report : RoundReport) → plan.crash ≡ Some crash → IsPlayedLoneCrash core plan crash report next → (before : Row) →
    IsOpenedFrom before core → IsAnsweredInTime core.layout.nodes (length (anchors_in (world core))) plan report.records
crash-works core next plan crash report ended round before opened other caller budget so has turnless =
    let same : other ≡ crash = same_Some other crash (sym so ∙ ended) in
    round.in_time caller budget turnless.lone (ap (λ (c : CrashPlan). slice_get c.budgets caller) (sym same) ∙ has) (opened-turnless before core caller plan opened turnless) turnless.on_names turnless.none

joined-restart : (core next : Index) (plan : RoundPlan) (report : RoundReport) → is_crowd plan.ops ≡ true → plan.crash ≡ None → IsPlayedCrowd core plan report next → IsPlayedRestart core plan report next
joined-restart core next plan report several joined round =
    let few = round.within.few in
    let names = ap len round.map in
    record {
      played = subst (λ (m : Map). ArePlayed core.layout.slots core.layout.nodes (weight_of core) (len (map_of_index core)) (map_of_index core) (anchors_in (world core)) (plan ∷ []) (report ∷ []) m
          (anchors_in (world next))) (sym round.map)
          (crowd ((crowd_or_lone plan.ops).0 several) joined round.writes round.round (anchors_in (world next)) round.within ends);
      told = round.told;
      weighs = round.weighs;
      names = omega (arith, few, names);
      layout = round.layout;
      generation = round.generation;
      works = crowd-works core plan report several;
      image = round.image;
      opened = round.opened;
    }

crashed-restart : (core next : Index) (plan : RoundPlan) (crash : CrashPlan) (report : RoundReport) → is_crowd plan.ops ≡ true → plan.crash ≡ Some crash → IsPlayedCrowdCrash core plan crash report next →
    IsPlayedRestart core plan report next
crashed-restart core next plan crash report several ended round = record {
  played = crowd_crash ((crowd_or_lone plan.ops).0 several) crash ended round.writes round.round round.pays.paid (anchors_in (world next)) round.pays.within ends;
  told = round.told;
  weighs = round.pays.weighs;
  names = round.pays.within.few;
  layout = round.layout;
  generation = round.generation;
  works = crowd-works core plan report several;
  image = round.image;
  opened = round.opened;
}

-- one of several callers, joined or ended by its crash
pub crowd-restart : (core next : Index) (plan : RoundPlan) (report : RoundReport) (crash : Option CrashPlan) → plan.crash ≡ crash → is_crowd plan.ops ≡ true → IsPlayedAs crash core plan report next →
    IsPlayedRestart core plan report next
crowd-restart core next plan report None is several round = joined-restart core next plan report several is round
crowd-restart core next plan report (Some crash) is several round = crashed-restart core next plan crash report several is round

pub crash-restart : (core next : Index) (plan : RoundPlan) (crash : CrashPlan) (report : RoundReport) → AreLoneCalls plan.ops → plan.crash ≡ Some crash → IsPlayedLoneCrash core plan crash report next →
    IsPlayedRestart core plan report next
crash-restart core next plan crash report lone ended round = record {
  played = lone_crash lone crash ended round.round round.answers round.pays.paid (anchors_in (world next)) round.pays.within ends;
  told = round.told;
  weighs = round.pays.weighs;
  names = round.pays.within.few;
  layout = round.layout;
  generation = round.generation;
  works = crash-works core next plan crash report ended round;
  image = round.image;
  opened = round.opened;
}
