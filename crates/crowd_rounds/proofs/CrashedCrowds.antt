-- A round of several callers that a crash ended, behind which the image is opened that it left.
use Rattle.std.proofs.Common.{◌≡◌, ℕ, suc, ◌+◌, ◌<◌, ◌≤◌, ◌^◌, Bool, List, [], ◌∷◌, true, false, length, refl, sym}
use Rattle.std.proofs.Common.{ap, ◌∙◌, subst, arith}
use Rattle.std.specs.Prelude.{All, Option, Some, None}
use Rattle.std.specs.FinMap.{len}
use Rattle.std.specs.List.{AllByRecursion}
use Rattle.std.proofs.lemmas.List.Elements.{All-from_recursion, recursion_from_All}
use Rattle.cat_history.specs.CrashEnds.{IsCrashEnd}
use Rattle.cat_history.specs.CrashRounds.{IsCrashRound, all_settled, changes_cut, settled}
use Rattle.cat_history.specs.Maps.{Map, map_of}
use Rattle.cat_history.specs.Records.{numbered}
use Rattle.cat_history.specs.Writes.{after_all}
use Rattle.cat_history.specs.declared.plan.CrashPlan.{CrashPlan}
use Rattle.cat_history.specs.declared.plan.RoundPlan.{RoundPlan}
use Rattle.cat_history.specs.declared.record.Record.{Record}
use Rattle.cat_history.proofs.SettleLemmas.{settled_is_crash_round}
use Rattle.cat_text.specs.ReportGrammar.{IsReportReply}
use Rattle.cat_text.specs.declared.report.RoundReport.{RoundReport}
use Rattle.pm_words.specs.Images.{Row}
use Rattle.pm_words.specs.declared.layout.Layout.{Layout}
use Rattle.shapes.specs.ShapeRounds.{puts_added, FullIsPaid, IsShapeWithin}
use Rattle.image_rules.proofs.MapLemmas.{has_one_map}
use Rattle.caller_rounds.proofs.Rising.{crash_names_rise}
use Rattle.caller_rounds.proofs.Settling.{settled_stay}
use Rattle.caller_rounds.proofs.Told.{records_are_told}
use Rattle.index_law.specs.Anchors.{anchors_in}
use Rattle.thread_rounds.specs.index_core.specs.Indexes.{Index, map_of_index, world}
use Rattle.thread_rounds.specs.index_core.specs.Rounds.{BeginsRound}
use Rattle.thread_rounds.specs.index_core.specs.Weights.{weight_of}
use Rattle.core_crashes.specs.recovery.specs.Opened.{IsOpenedFrom}
use Rattle.core_crashes.specs.core_rounds.specs.LoneCalls.{AreReportCalls}
use Rattle.core_crashes.specs.recovery.specs.Cores.{IsReopened}
use Rattle.core_crashes.specs.core_rounds.specs.Rounds.{IsCrashedRound}
use Rattle.core_crashes.specs.core_rounds.proofs.CoreMaps.{opened_is_map}
use Rattle.thread_rounds.specs.Played.{IsToldOnceSettled}
use Rattle.thread_rounds.specs.declared.round.Finish.{Finish}
use Rattle.thread_rounds.specs.declared.round.Finish.TheVariants.{Crashed, Joined}
use Rattle.thread_rounds.specs.declared.round.Round.{Round}
use Rattle.thread_rounds.specs.RunRounds.{EndsAs, IsCrashedAnd, IsJoinedAnd, IsRunCrash, IsRunRound}
use Rattle.crowd_rounds.specs.Crowds.{IsPlayedAs, IsPlayedCrowd, IsPlayedCrowdCrash, IsReportedBehind, IsReportedCrash}
use Rattle.crowd_rounds.proofs.CrowdRounds.{base-is, crowd-played, same-generation, same-layout}

-- who was joined had no crash, and who left an image had one
pub joined-so : (o : Option CrashPlan) (core : Index) (plan : RoundPlan) (round : Round) (met : Index) → round.finish ≡ Joined met → EndsAs o core plan round → (o ≡ None) × IsRunRound core plan round.records round.writes met
joined-so None core plan round met is run = (refl, subst (λ (f : Finish). IsJoinedAnd f (IsRunRound core plan round.records round.writes)) is run)
joined-so (Some crash) core plan round met is run = absurd (subst (λ (f : Finish). IsCrashedAnd f (IsRunCrash core plan crash round.records round.writes)) is run)

pub crashed-so : (o : Option CrashPlan) (core : Index) (plan : RoundPlan) (round : Round) (image : Row) → round.finish ≡ Crashed image → EndsAs o core plan round → (crash : CrashPlan) × (o ≡ Some crash) × IsRunCrash core plan crash round.records round.writes image
crashed-so None core plan round image is run = absurd (subst (λ (f : Finish). IsJoinedAnd f (IsRunRound core plan round.records round.writes)) is run)
crashed-so (Some crash) core plan round image is run = (crash, refl, subst (λ (f : Finish). IsCrashedAnd f (IsRunCrash core plan crash round.records round.writes)) is run)

-- once it is settled each reply is one of a report
settled-told : (end : Map) (records : List Record) → AllByRecursion IsToldOnceSettled records → AllByRecursion (λ (r : Record). IsReportReply r.op r.reply) (all_settled end records)
settled-told end [] told = tt
settled-told end (r ∷ records) told = (told.0 end, settled-told end records told.1)

module _ (core mid next : Index) (plan : RoundPlan) (crash : CrashPlan) (image : Row) (records : List Record) (writes : ℕ) (begins : BeginsRound core mid) (run : IsRunCrash mid plan crash records writes image)
    (opened : IsOpenedFrom image next) (told : AreReportCalls plan.ops) where
  -- the map that was found
  abbrev found : Map
  found = map_of next.base

  abbrev settled-records : List Record
  settled-records = all_settled found records

  abbrev report : RoundReport
  report = record { records = settled-records; crashed = true; writes = writes; names = length next.base }

  now-is : map_of_index next ≡ found
  now-is = ap (after_all found) opened.history

  ends : IsCrashEnd (after_all (map_of mid.base) run.history) (changes_cut records) found
  ends = subst (IsCrashEnd (after_all (map_of mid.base) run.history) (changes_cut records)) (has_one_map image.layout image.words run.end found run.keeps opened.keeps) run.ends

  legal : IsCrashRound (map_of mid.base) (numbered plan.ops) plan.limit crash.budgets settled-records run.history found
  legal = settled_is_crash_round (map_of mid.base) (numbered plan.ops) plan.limit crash.budgets records run.history found run.legal ends

  same-added : puts_added settled-records ≡ puts_added records
  same-added = (settled_stay records found).added

  few : len found ≤ len (map_of mid.base) + puts_added settled-records
  few =
      let rises = crash_names_rise (map_of mid.base) (numbered plan.ops) plan.limit records run.history found run.legal.legal ends in
      let same = same-added in
      omega arith

  light : weight_of next ≤ weight_of mid + puts_added settled-records
  light =
      let image_is = (opened_is_map image next opened).weighs in
      let weight = run.weight in
      let same = same-added in
      omega arith

  paid : All (FullIsPaid mid.layout.slots mid.layout.nodes (weight_of mid + puts_added settled-records) (len (map_of mid.base) + puts_added settled-records)) settled-records
  paid = (settled_stay records found).paid mid.layout.slots mid.layout.nodes (weight_of mid + puts_added settled-records) (len (map_of mid.base) + puts_added settled-records)
      (subst (λ (n : ℕ). All (FullIsPaid mid.layout.slots mid.layout.nodes (weight_of mid + n) (len (map_of mid.base) + n)) records) (sym same-added) run.paid)

  within : IsShapeWithin mid.layout.slots mid.layout.nodes (weight_of mid + puts_added settled-records) (len (map_of mid.base) + puts_added settled-records) (map_of_index next) (anchors_in (world next))
  within =
      let shape = subst (λ (l : Layout). IsShapeWithin l.slots l.nodes (weight_of next) (len (map_of_index next)) (map_of_index next) (anchors_in (world next))) (opened.layout ∙ run.layout) (opened_is_map image next opened).within in
      let heavy = shape.light in
      let names = few in
      let most = light in
      let now : len (map_of_index next) ≡ len found = ap len now-is in
      record { shape = shape.shape; light = omega arith; few = omega arith }

  round : IsCrashedRound (map_of mid.base) plan crash report run.history (map_of_index next)
  round = record {
    legal = subst (IsCrashRound (map_of mid.base) (numbered plan.ops) plan.limit crash.budgets settled-records run.history) (sym now-is) legal;
    crashed = refl;
    placed = run.writes_are;
    names_are = (opened_is_map image next opened).counted;
  }

  pub crash-played : writes < 2 ^ 64 → length next.base < 2 ^ 64 → IsPlayedCrowdCrash core plan crash report next
  crash-played writes-fit names-fit = record {
    writes = run.history;
    round = subst (λ (m : Map). IsCrashedRound m plan crash report run.history (map_of_index next)) (base-is core mid begins) round;
    told = record {
      records = records_are_told (map_of mid.base) plan.ops plan.limit settled-records run.history legal.legal told
          (All-from_recursion (λ (r : Record). IsReportReply r.op r.reply) settled-records (settled-told found records (recursion_from_All IsToldOnceSettled records run.replies)));
      by_caller = (settled_stay records found).stand run.stand;
      writes = writes-fit;
      names = names-fit;
    };
    pays = record {
      paid = subst (λ (q : Layout × ℕ × Map). All (FullIsPaid (q.0).slots (q.0).nodes (q.1 + puts_added settled-records) (len q.2 + puts_added settled-records)) settled-records)
          (λ k. (same-layout core mid begins k, begins.weighs k, base-is core mid begins k)) paid;
      within = subst (λ (q : Layout × ℕ × Map). IsShapeWithin (q.0).slots (q.0).nodes (q.1 + puts_added settled-records) (len q.2 + puts_added settled-records) (map_of_index next) (anchors_in (world next)))
          (λ k. (same-layout core mid begins k, begins.weighs k, base-is core mid begins k)) within;
      weighs = let most = light in let weight = begins.weighs in omega arith;
    };
    layout = opened.layout ∙ run.layout ∙ same-layout core mid begins;
    generation = opened.generation ∙ ap suc (run.generation ∙ same-generation core mid begins);
    image = image;
    opened = opened;
    left = run.leaves.left;
    index = run.leaves.index;
    began = ap map_of run.leaves.base ∙ base-is core mid begins;
    leaves = run.leaves.leaves;
  }

-- what the code reports
abbrev report-of : List Record → Bool → ℕ → ℕ → RoundReport
report-of records crashed writes names = record { records = records; crashed = crashed; writes = writes; names = names }

pub told-joined : (met next : Index) (records : List Record) (writes names : ℕ) → IsReopened met next → names ≡ length next.base → names < 2 ^ 64
    → IsReportedBehind met records writes (record { records = records; crashed = false; writes = writes; names = names }) next
told-joined met next records writes names reopened is fits = record {
  reopened = reopened;
  reported = ap (report-of records false writes) is;
  names_fit = subst (λ (n : ℕ). n < 2 ^ 64) is fits;
}

pub told-crash : (image : Row) (next : Index) (records now : List Record) (writes names : ℕ) → IsOpenedFrom image next → now ≡ all_settled (map_of next.base) records → names ≡ length next.base → names < 2 ^ 64
    → IsReportedCrash image records writes (record { records = now; crashed = true; writes = writes; names = names }) next
told-crash image next records now writes names opened settled is fits = record {
  opened = opened;
  reported = ap (λ (l : List Record). report-of l true writes names) settled ∙ ap (report-of (all_settled (map_of next.base) records) true writes) is;
  names_fit = subst (λ (n : ℕ). n < 2 ^ 64) is fits;
}

-- what is reported of a round that was played on this core, behind whichever end
pub reported-joined : (core mid met : Index) (plan : RoundPlan) (round : Round) (report : RoundReport) (next : Index) → BeginsRound core mid → round.finish ≡ Joined met → EndsAs plan.crash mid plan round → AreReportCalls plan.ops →
    round.writes < 2 ^ 64 → IsReportedBehind met round.records round.writes report next → IsPlayedAs plan.crash core plan report next
reported-joined core mid met plan round report next begins finish ends told writes-fit behind =
    let so = joined-so plan.crash mid plan round met finish ends in
    subst (λ (o : Option CrashPlan). IsPlayedAs o core plan report next) (sym so.0)
    (subst (λ (r : RoundReport). IsPlayedCrowd core plan r next) (sym behind.reported)
    (crowd-played core mid met next plan round.records round.writes (length next.base) begins so.1 behind.reopened told refl writes-fit behind.names_fit))

pub reported-crash : (core mid : Index) (plan : RoundPlan) (round : Round) (image : Row) (report : RoundReport) (next : Index) → BeginsRound core mid → round.finish ≡ Crashed image → EndsAs plan.crash mid plan round → AreReportCalls plan.ops →
    round.writes < 2 ^ 64 → IsReportedCrash image round.records round.writes report next → IsPlayedAs plan.crash core plan report next
reported-crash core mid plan round image report next begins finish ends told writes-fit behind =
    let so = crashed-so plan.crash mid plan round image finish ends in
    subst (λ (o : Option CrashPlan). IsPlayedAs o core plan report next) (sym so.1)
    (subst (λ (r : RoundReport). IsPlayedCrowdCrash core plan so.0 r next) (sym behind.reported)
    (crash-played core mid next plan so.0 image round.records round.writes begins so.2 behind.opened told writes-fit behind.names_fit))
