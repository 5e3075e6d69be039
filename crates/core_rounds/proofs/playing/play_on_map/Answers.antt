use Rattle.std.proofs.Common.{◌≡◌, ℕ, List, [], ◌∷◌, ◌+◌, ◌*◌, ◌<◌, ◌≤◌, All, ◌∙◌, length, drop, ap, sym, subst, refl, arith}
use Rattle.std.specs.Prelude.{None}
use Rattle.std.proofs.lemmas.List.{at_drop_all, take_all}
use Rattle.std.proofs.lemmas.List.Elements.{All-push}
use Rattle.cat_history.specs.LoneRounds.{writes_of}
use Rattle.cat_text.specs.ReportGrammar.{IsReportRound}
use Rattle.shapes.specs.ShapeRounds.{anchors_end}
use Rattle.core_rounds.specs.Rounds.{IsPlayedRound, RoundsEndWithTurn, added_in}
use Rattle.core_rounds.proofs.Played.{none-so-far-at, one-more-at, all-so-far, of-plan, added_in-append}
use Rattle.core_rounds.specs.LoneCalls.{AreLoneCalls, AreReportCalls, calls_in}
use Rattle.core_rounds.proofs.CallCounts.{calls-to-come, calls-of-one, calls-of-rest, none-beside}
use Rattle.core_rounds.proofs.RoundTurns.{last-ends}
use Rattle.cat_history.specs.declared.plan.RoundPlan.{RoundPlan}
use Rattle.core_rounds.specs.Updated.{changes_by, changes_of_rounds}
use Rattle.core_rounds.specs.Waiting.{changes_in, puts_asked, writes_asked}
use Rattle.core_rounds.proofs.RoundWaits.{changes_made-push, waits-first, waits-round}
use Rattle.core_rounds.proofs.Using.{bounds-first, bounds-then}
use Rattle.core_rounds.proofs.playing.play_on_map.Goals as goal

pub loop-plan-init : goal.loop-plan-init
loop-plan-init g c =
    record {
      bounds = bounds-first (g.M.UpdatedMap.state c.args.map.now);
      so_far = none-so-far-at _ _ _ _ _ _ _ (record { shape = c.has_shape.ensures.shape.shape; light = c.has_shape.ensures.shape.light; few = omega arith }) c.in_ok-rounds.ensures.items;
      weighs_so = omega arith;
      told = rw c.in_ok-rounds.ensures.items (λ k d within. absurd (omega (arith, within)));
      waits = λ none. rw c.in_ok-rounds.ensures.items (waits-first (g.M.UpdatedMap.waits c.args.map.now));
      settled = λ none. absurd none;
      calls = λ n enough. enough;
      writes = c.requires.writes;
    }

pub run_lone_round-requires : goal.run_lone_round-requires
run_lone_round-requires g c =
    let plans = c.args.plans.now in
    let plan = c.plan-item.result in
    let was = c.loop-plan.invariant in
    let first = g.M.UpdatedMap.state c.args.map.now in
    let now = g.M.UpdatedMap.state c.loop-plan.map in
    let come = calls-to-come plans c.loop-plan.plan-index plan c.loop-plan-test.true c.plan-item.is in
    record {
      caller = of-plan (λ (p : RoundPlan). AreLoneCalls p.ops) plans c.loop-plan.plan-index plan c.requires.lone c.loop-plan-test.true c.plan-item.is;
      callers = subst (λ k. All (λ a. a.caller < k) plan.ops) (sym was.bounds.callers)
          (subst (λ (p : RoundPlan). All (λ a. a.caller < first.callers) p.ops) (sym c.plan-item.is) (c.requires.callers c.loop-plan.plan-index plan c.loop-plan-test.true));
      told = of-plan (λ (p : RoundPlan). AreReportCalls p.ops) plans c.loop-plan.plan-index plan c.requires.told c.loop-plan-test.true c.plan-item.is;
      calls = subst (λ k. length plan.ops * k ≤ now.calls_left) (sym was.bounds.most)
          (calls-of-one (length plan.ops) (calls_in (drop (c.loop-plan.plan-index + 1) plans)) first.most _
          (subst (λ n. n * first.most ≤ now.calls_left) come
          (none-beside (calls_in (drop c.loop-plan.plan-index plans)) (calls_in plans) first.most _ _ (was.calls 0) c.requires.calls)));
      writes = omega (arith, was.writes, come);
    }

pub loop-plan-preserved : goal.loop-plan-preserved
loop-plan-preserved g c =
    let was = c.loop-plan.invariant in
    let plans = c.args.plans.now in
    let told = c.in_ok-run_lone_round.ensures in
    let report = c.in_ok-run_lone_round.field-0 in
    let uses = c.run_lone_round.ensures.uses in
    let first = g.M.UpdatedMap.state c.args.map.now in
    let before = g.M.UpdatedMap.state c.loop-plan.map in
    let behind = g.M.UpdatedMap.state c.run_lone_round.new.map in
    let now = before.contents in
    let shape = before.anchors in
    let slots = first.slots in
    let most = first.most in
    let come = calls-to-come plans c.loop-plan.plan-index c.plan-item.result c.loop-plan-test.true c.plan-item.is in
    let round : IsPlayedRound slots most now shape c.plan-item.result report (writes_of report.records) =
    subst (λ (k : ℕ). IsPlayedRound slots k now shape c.plan-item.result report (writes_of report.records)) was.bounds.most
    (subst (λ (k : ℕ). IsPlayedRound k before.most now shape c.plan-item.result report (writes_of report.records)) was.bounds.slots told.played) in
    let taken = subst (λ (k : ℕ). before.calls_left ≤ behind.calls_left + length c.plan-item.result.ops * k) was.bounds.most uses.calls_left in
    record {
      bounds = bounds-then first before behind was.bounds uses.bounds;
      weighs_so =
          let added = ap added_in c.in_ok-push.ensures.items ∙ added_in-append c.loop-plan.rounds.items (report ∷ []) in
          omega (arith, was.weighs_so, told.after.weighs, added);
      so_far = one-more-at _ _ _ _ _ _ _ _ _ _ _ _ _ _ _ _ c.has_shape.ensures.shape.enough
          (of-plan (λ (p : RoundPlan). AreLoneCalls p.ops) plans c.loop-plan.plan-index c.plan-item.result c.requires.lone c.loop-plan-test.true c.plan-item.is)
          (of-plan (λ (p : RoundPlan). p.crash ≡ None) plans c.loop-plan.plan-index c.plan-item.result c.requires.joined c.loop-plan-test.true c.plan-item.is)
          was.so_far c.loop-plan-test.true c.plan-item.is round told.after.contents
          (told.after.anchors ∙ ap (λ (k : ℕ). anchors_end k now shape report.records) was.bounds.slots) c.in_ok-push.ensures.items;
      told = rw c.in_ok-push.ensures.items (All-push IsReportRound c.loop-plan.rounds.items report was.told told.report);
      waits = λ none.
          let rounds = c.loop-plan.rounds.items in
          waits-round (g.M.UpdatedMap.waits c.args.map.now) (g.M.UpdatedMap.waits c.loop-plan.map) (g.M.UpdatedMap.waits c.run_lone_round.new.map) plans c.loop-plan.plan-index c.plan-item.result
          (changes_of_rounds first rounds) (changes_by before report.records) (changes_of_rounds first c.push.new.self.items)
          (was.waits none) (told.waits (subst (λ (p : RoundPlan). p.updater ≡ 0) (sym c.plan-item.is) (none c.loop-plan.plan-index c.plan-item.result c.loop-plan-test.true)))
          c.loop-plan-test.true c.plan-item.is
          (ap (changes_of_rounds first) c.in_ok-push.ensures.items ∙ changes_made-push slots first.contents first.anchors rounds report
          ∙ (λ k. changes_of_rounds first rounds + changes_in (sym was.bounds.slots k) (sym was.so_far.map_is k) (sym was.so_far.shape_is k) report.records));
      settled = λ ends. told.settled (last-ends plans c.loop-plan.plan-index c.plan-item.result c.loop-plan-test.true c.plan-item.is ends);
      calls = λ n enough. calls-of-rest (length c.plan-item.result.ops) (n + calls_in (drop (c.loop-plan.plan-index + 1) plans)) most _ _
          (subst (λ k. k * most ≤ before.calls_left) (omega (arith, come)) (was.calls n enough)) taken;
      writes = omega (arith, was.writes, uses.writes_left, come);
    }

pub returns-clause-played : goal.returns-clause-played
returns-clause-played g c =
    let was = c.loop-plan.invariant in
    record {
      played = (all-so-far _ _ _ _ _ _ _ _ _ _ _ _ _ was.so_far c.loop-plan-test.false refl refl).played;
      told = was.told;
      weighs = was.weighs_so;
      names = was.so_far.within.few;
    }

pub returns-clause-settled : goal.returns-clause-settled
returns-clause-settled g c ends =
    c.loop-plan.invariant.settled (subst RoundsEndWithTurn (sym (take_all c.loop-plan.plan-index c.args.plans.now (omega (arith, c.loop-plan-test.false)))) ends)

pub returns-clause-waits : goal.returns-clause-waits
returns-clause-waits g c none changes writes puts waits =
    let M = g.M.UpdatedMap in
    let all = take_all c.loop-plan.plan-index c.args.plans.now (omega (arith, c.loop-plan-test.false)) in
    c.loop-plan.invariant.waits none changes writes puts
    (subst (λ (plans : List RoundPlan). M.waits c.args.map.now changes (writes + writes_asked plans) (puts + puts_asked plans)) (sym all) waits)

-- none are to come
pub returns-clause-calls_left : goal.returns-clause-calls_left
returns-clause-calls_left g c calls enough =
    let first = g.M.UpdatedMap.state c.args.map.now in
    let now = g.M.UpdatedMap.state c.loop-plan.map in
    let none : calls_in (drop c.loop-plan.plan-index c.args.plans.now) ≡ 0 = at_drop_all calls_in c.args.plans.now c.loop-plan.plan-index (omega (arith, c.loop-plan-test.false)) in
    subst (λ k. k * first.most ≤ now.calls_left) (omega (arith, none)) (c.loop-plan.invariant.calls calls enough)
