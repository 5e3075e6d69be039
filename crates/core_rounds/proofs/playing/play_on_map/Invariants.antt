use Rattle.std.proofs.Common.{ℕ, ◌+◌, ◌*◌, ◌≤◌, take, drop, All}
use Rattle.std.specs.FinMap.{len}
use Rattle.cat_text.specs.ReportGrammar.{IsReportRound}
use Rattle.core_rounds.specs.LoneCalls.{calls_in}
use Rattle.core_rounds.specs.Rounds.{RoundsEndWithTurn, added_in}
use Rattle.core_rounds.specs.Updated.{KeepsBounds, WaitBehind, changes_of_rounds}
use Rattle.core_rounds.specs.Waiting.{HaveNoTurns, puts_asked, writes_asked}
use Rattle.core_rounds.proofs.Played.{SoFar}
use Rattle.core_rounds.proofs.playing.play_on_map.Given as goal

-- the rounds so far are played and left the map and the shape as they are, and there are calls and writes left for the
-- rest, and for as many more calls as there were
abbrev pub invariant-loop-plan : goal.invariant-loop-plan
invariant-loop-plan g l =
    let M = g.M.UpdatedMap in
    let first = M.state l.fn.map in
    let now = M.state l.map in
    let rounds = l.rounds.items in
    record {
      bounds : KeepsBounds first now;
      so_far : SoFar first.slots first.most first.weighs (len first.contents) first.contents first.anchors (take l.plan-index l.plans) rounds now.contents now.anchors;
      weighs_so : now.weighs ≤ first.weighs + added_in rounds;
      told : All IsReportRound rounds;
      waits : HaveNoTurns l.plans →
          WaitBehind (M.waits l.fn.map) (M.waits l.map) (changes_of_rounds first rounds) (writes_asked (take l.plan-index l.plans)) (puts_asked (take l.plan-index l.plans));
      settled : RoundsEndWithTurn (take l.plan-index l.plans) → M.is_settled l.map;
      calls : (n : ℕ) → (n + calls_in l.plans) * first.most ≤ first.calls_left → (n + calls_in (drop l.plan-index l.plans)) * first.most ≤ now.calls_left;
      writes : calls_in (drop l.plan-index l.plans) ≤ now.writes_left;
    }
