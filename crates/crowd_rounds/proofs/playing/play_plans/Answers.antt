use Rattle.std.proofs.Common.{◌≡◌, ℕ, ◌+◌, ◌/◌, ◌<◌, ◌≤◌, List, [], ◌∷◌, sym, ap, subst, arith}
use Rattle.std.proofs.lemmas.Result.{IfOk-weaker}
use Rattle.std.specs.Prelude.{All}
use Rattle.std.specs.FinMap.{empty, len, len-empty}
use Rattle.cat_key.specs.Names.{name_cmp}
use Rattle.cat_history.specs.Maps.{Map}
use Rattle.cat_history.specs.declared.op.CallerOp.{CallerOp}
use Rattle.cat_history.specs.declared.plan.RoundPlan.{RoundPlan}
use Rattle.cat_text.specs.declared.report.RoundReport.{RoundReport}
use Rattle.pm_words.specs.declared.layout.Layout.{Layout}
use Rattle.shapes.specs.Anchors.{Anchors}
use Rattle.version_lock.specs.Versions.{IsGeneration}
use Rattle.index_law.specs.Anchors.{anchors_in}
use Rattle.thread_rounds.specs.index_core.specs.Indexes.{Index, map_of_index, world}
use Rattle.thread_rounds.specs.index_core.specs.Weights.{weight_of}
use Rattle.core_crashes.specs.core_rounds.specs.LoneCalls.{restarts}
use Rattle.core_crashes.specs.core_rounds.specs.Rounds.{ArePlayed}
use Rattle.core_crashes.specs.core_rounds.proofs.Restarting.{restarts_few}
use Rattle.core_crashes.specs.core_rounds.proofs.Played.{more_pays}
use Rattle.crowd_rounds.specs.Segments.{HasBudgets}
use Rattle.crowd_rounds.proofs.Working.{from-one}
use Rattle.crowd_rounds.proofs.playing.play_plans.Goals as goal

-- there are more generations than rounds, and the core has the callers of the layout
pub play_rounds-requires-clause-playable : goal.play_rounds-requires-clause-playable
play_rounds-requires-clause-playable g c κs within =
    let few = restarts_few c.args.plans.now in
    let layout = sym c.in_ok-core.ensures.opened.layout in
    record {
      generations = subst (λ (n : ℕ). IsGeneration (n + restarts c.args.plans.now)) (sym c.in_ok-core.ensures.generation) (record { least = omega arith; fits = omega (arith, few, c.requires.rounds) });
      callers = subst (λ (l : Layout). All (λ (plan : RoundPlan). All (λ (a : CallerOp). a.caller < l.callers) plan.ops) c.args.plans.now) layout c.requires.callers;
      told = c.requires.told;
      limits = c.requires.limits;
      budgets = subst (λ (l : Layout). All (HasBudgets l.callers) c.args.plans.now) layout c.requires.budgets;
      calls = c.requires.calls;
    }

-- what is played on the core of a fresh image is played from an empty catalogue
from-empty : (l : Layout) (s : Index) (plans : List RoundPlan) (reports : List RoundReport) (end : Map) (shape : Anchors) → s.layout ≡ l → map_of_index s ≡ empty → anchors_in (world s) ≡ [] ∷ [] →
    weight_of s ≤ l.slots / 2 →
    ArePlayed s.layout.slots s.layout.nodes (weight_of s) (len (map_of_index s)) (map_of_index s) (anchors_in (world s)) plans reports end shape →
    ArePlayed l.slots l.nodes (l.slots / 2) 0 empty ([] ∷ []) plans reports end shape
from-empty l s plans reports end shape layout none one light played =
    let size : len (empty {K = List ℕ} {X = ℕ} {R = name_cmp}) ≡ 0 = len-empty name_cmp ℕ in
    let few = ap len none in
    more_pays l.slots l.nodes (weight_of s) (len (map_of_index s)) (l.slots / 2) 0 empty end ([] ∷ []) shape plans reports light (omega (arith, size, few))
    (subst (λ (a : Anchors). ArePlayed l.slots l.nodes (weight_of s) (len (map_of_index s)) empty a plans reports end shape) one
    (subst (λ (m : Map). ArePlayed l.slots l.nodes (weight_of s) (len (map_of_index s)) m (anchors_in (world s)) plans reports end shape) none
    (subst (λ (k : Layout). ArePlayed k.slots k.nodes (weight_of s) (len (map_of_index s)) (map_of_index s) (anchors_in (world s)) plans reports end shape) layout played)))

pub returns-clause-played : goal.returns-clause-played
returns-clause-played g c =
    let fresh = c.in_ok-core.ensures in
    IfOk-weaker c.play_rounds.result _ _
    (λ done played. from-empty c.args.layout.now c.in_ok-core.core c.args.plans.now done.report (map_of_index done.core) (anchors_in (world done.core)) fresh.opened.layout fresh.empty fresh.anchors
    fresh.weighs played) c.play_rounds.ensures.played

pub returns-clause-works : goal.returns-clause-works
returns-clause-works g c =
    let fresh = c.in_ok-core.ensures in
    IfOk-weaker c.play_rounds.result _ _
    (λ done works. from-one _ c.args.layout.now c.in_ok-core.core c.args.plans.now done.report fresh.opened fresh.opened.layout fresh.anchors fresh.weighs works) c.play_rounds.ensures.works
