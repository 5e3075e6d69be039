-- A round of several callers on the map of a core, behind which the image is opened again.
use Rattle.std.proofs.Common.{◌≡◌, ℕ, suc, ◌+◌, ◌<◌, ◌≤◌, ◌^◌, List, [], false, length, refl, sym, ap, ◌∙◌, subst}
use Rattle.std.proofs.Common.{arith}
use Rattle.std.proofs.lemmas.List.{take_all}
use Rattle.std.specs.FinMap.{len}
use Rattle.cat_history.specs.Maps.{Map, map_of}
use Rattle.cat_history.specs.Writes.{after_all}
use Rattle.cat_history.specs.declared.op.Write.{Write}
use Rattle.cat_history.specs.declared.plan.RoundPlan.{RoundPlan}
use Rattle.cat_history.specs.declared.record.Record.{Record}
use Rattle.cat_text.specs.declared.report.RoundReport.{RoundReport}
use Rattle.pm_words.specs.declared.layout.Layout.{Layout}
use Rattle.shapes.specs.ShapeRounds.{puts_added, IsShapeWithin}
use Rattle.caller_rounds.proofs.Rising.{names_rise}
use Rattle.caller_rounds.proofs.Told.{records_are_told}
use Rattle.index_law.specs.Anchors.{anchors_in}
use Rattle.thread_rounds.specs.index_core.specs.Indexes.{Index, map_of_index, world}
use Rattle.thread_rounds.specs.index_core.specs.Rounds.{BeginsRound}
use Rattle.thread_rounds.specs.index_core.specs.Weights.{weight_of}
use Rattle.core_crashes.specs.core_rounds.specs.LoneCalls.{AreReportCalls}
use Rattle.core_crashes.specs.recovery.specs.Cores.{IsReopened}
use Rattle.core_crashes.specs.core_rounds.specs.Rounds.{IsCrowdRound}
use Rattle.core_crashes.specs.core_rounds.proofs.CoreMaps.{opened_is_map}
use Rattle.thread_rounds.specs.RunRounds.{IsRunRound}
use Rattle.crowd_rounds.specs.Crowds.{IsPlayedCrowd}

-- the core as the round begins has the map as its base
pub no-history : (core mid : Index) → BeginsRound core mid → mid.history ≡ []
no-history core mid begins = ap (λ (s : Index). s.history) begins.is

pub same-layout : (core mid : Index) → BeginsRound core mid → mid.layout ≡ core.layout
same-layout core mid begins = ap (λ (s : Index). s.layout) begins.is

pub same-generation : (core mid : Index) → BeginsRound core mid → mid.generation ≡ core.generation
same-generation core mid begins = ap (λ (s : Index). s.generation) begins.is

pub base-is : (core mid : Index) → BeginsRound core mid → map_of mid.base ≡ map_of_index core
base-is core mid begins = sym (ap (after_all (map_of mid.base)) (no-history core mid begins)) ∙ begins.map

module _ (core mid met next : Index) (plan : RoundPlan) (records : List Record) (writes names : ℕ) (begins : BeginsRound core mid) (run : IsRunRound mid plan records writes met)
    (reopened : IsReopened met next) (told : AreReportCalls plan.ops) (counted : names ≡ length next.base) where
  abbrev report : RoundReport
  report = record { records = records; crashed = false; writes = writes; names = names }

  abbrev left : Map
  left = after_all (map_of mid.base) met.history

  map-is : map_of_index next ≡ left
  map-is = reopened.map ∙ ap (λ b. after_all (map_of b) met.history) run.base

  names-are : names ≡ len left
  names-are = counted ∙ (opened_is_map reopened.image next reopened.opened).counted ∙ ap len map-is

  round : IsCrowdRound mid.layout.slots mid.layout.nodes (weight_of mid) (len (map_of mid.base)) (map_of mid.base) plan report met.history
  round = record { legal = run.legal; paid = run.paid; apart = run.apart; joined = refl; placed = run.writes_are; names_are = names-are }

  light : weight_of next ≤ weight_of mid + puts_added records
  light = let lighter = reopened.weighs in let weight = run.weight in omega (arith, lighter, weight)

  within : IsShapeWithin mid.layout.slots mid.layout.nodes (weight_of mid + puts_added records) (len (map_of mid.base) + puts_added records) left (anchors_in (world next))
  within =
      let shape = (opened_is_map reopened.image next reopened.opened).within in
      let all : len left ≤ len (map_of mid.base) + puts_added records =
      subst (λ (ws : List Write). len (after_all (map_of mid.base) ws) ≤ len (map_of mid.base) + puts_added records) (take_all (length met.history) met.history (omega arith))
      (names_rise (map_of mid.base) _ plan.limit records met.history (length met.history) run.legal.legal (omega arith)) in
      let here = subst (λ (m : Map). IsShapeWithin next.layout.slots next.layout.nodes (weight_of next) (len m) m (anchors_in (world next))) map-is shape in
      let there = subst (λ (l : Layout). IsShapeWithin l.slots l.nodes (weight_of next) (len left) left (anchors_in (world next))) (reopened.layout ∙ run.layout) here in
      let heavy = there.light in
      record { shape = there.shape; light = omega (arith, heavy, light); few = omega (arith, all) }

  pub crowd-played : writes < 2 ^ 64 → names < 2 ^ 64 → IsPlayedCrowd core plan report next
  crowd-played writes-fit names-fit =
      let base = base-is core mid begins in
      let layout = same-layout core mid begins in
      let weight = begins.weighs in
      record {
        writes = met.history;
        round = here-round;
        told = record {
          records = records_are_told (map_of mid.base) plan.ops plan.limit records met.history run.legal.legal told run.replies;
          by_caller = run.stand;
          writes = writes-fit;
          names = names-fit;
        };
        within = subst (λ (q : Layout × ℕ × Map). IsShapeWithin (q.0).slots (q.0).nodes (q.1 + puts_added records) (len q.2 + puts_added records) (after_all q.2 met.history) (anchors_in (world next)))
            (λ k. (layout k, weight k, base k)) within;
        map = map-is ∙ ap (λ (m : Map). after_all m met.history) base;
        weighs = omega (arith, light, weight);
        layout = reopened.layout ∙ run.layout ∙ layout;
        generation = reopened.generation ∙ ap suc (run.generation ∙ same-generation core mid begins);
        image = reopened.image;
        opened = reopened.opened;
      }
    where
      here-round : IsCrowdRound core.layout.slots core.layout.nodes (weight_of core) (len (map_of_index core)) (map_of_index core) plan report met.history
      here-round = subst (λ (q : Layout × ℕ × Map). IsCrowdRound (q.0).slots (q.0).nodes q.1 (len q.2) q.2 plan report met.history)
          (λ k. (same-layout core mid begins k, begins.weighs k, base-is core mid begins k)) round
