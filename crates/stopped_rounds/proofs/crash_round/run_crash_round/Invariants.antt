use Rattle.std.proofs.Common.{◌≡◌, ◌+◌, ◌*◌, ◌<◌, ◌≤◌, length, take, vec_len, All}
use Rattle.std.specs.Vec.{vec_capacity}
use Rattle.shapes.specs.ShapeRounds.{puts_added}
use Rattle.stopped_rounds.specs.Replies.{SettlesToReport}
use Rattle.stopped_rounds.specs.InTime.{AreInTime, AreOnNames}
use Rattle.stopped_rounds.proofs.Timing.{HasCome}
use Rattle.stopped_rounds.proofs.Turns.{Between}
use Rattle.stopped_rounds.proofs.Stopping.{Stopping}
use Rattle.stopped_rounds.proofs.crash_round.run_crash_round.Given as goal

-- the records so far are those of a round of the calls so far
abbrev pub invariant-loop-index : goal.invariant-loop-index
invariant-loop-index g l =
    let M = g.M.BoundedMap in
    record {
      stopping : Stopping (M.slots l.fn.map) (M.most l.fn.map) l.plan.limit l.budget l.left l.writes (M.state l.fn.map) (take l.index l.plan.ops) l.records.items (M.state l.map);
      few : l.writes ≤ l.index;
      slots_stay : M.slots l.map ≡ M.slots l.fn.map;
      most_stays : M.most l.map ≡ M.most l.fn.map;
      calls : M.calls_left l.fn.map ≤ M.calls_left l.map + l.index * M.most l.fn.map;
      writes_left : M.writes_left l.fn.map ≤ M.writes_left l.map + l.index;
      weighs_so : M.weighs l.map ≤ M.weighs l.fn.map + puts_added l.records.items;
      told : All SettlesToReport l.records.items;
      in_time : 0 < M.call_events → AreOnNames l.plan.ops →
          Between l.plan.updater M.calls_between M.turn_events 0 l.plan.ops (M.has_room l.fn.map) (M.turnless l.fn.map) l.updater_budget →
          AreInTime M.call_events l.budget l.records.items × HasCome M.call_events l.budget l.left l.index (length l.plan.ops)
          (Between l.plan.updater M.calls_between M.turn_events l.index l.plan.ops (M.has_room l.map) (M.turnless l.map) l.updater_left);
      made : vec_len l.records ≡ l.index;
      reserved : length l.asked ≤ vec_capacity l.records;
    }
