use Rattle.std.proofs.Common.{◌≡◌, ◌+◌, ◌≤◌, length}
use Rattle.shapes.specs.Anchors.{past}
use Rattle.stopped_rounds.specs.Bounded.{IsSame}
use Rattle.stopped_rounds.proofs.ScanStops.{Reads, to_come}
use Rattle.stopped_rounds.proofs.crash_round.scan.Given as goal

-- the scan goes on behind its parts so far
abbrev pub invariant-loop-next : goal.invariant-loop-next
invariant-loop-next g l =
    let M = g.M.BoundedMap in
    record {
      reads : Reads (M.state l.fn.map) l.from l.count l.place l.next l.left l.parts.items;
      same : IsSame (M.state l.fn.map) (M.state l.map);
      slots : M.slots l.map ≡ M.slots l.fn.map;
      most : M.most l.map ≡ M.most l.fn.map;
      calls : M.calls_left l.fn.map + to_come (M.state l.fn.map).anchors l.next ≤ M.calls_left l.map + (length (past (M.state l.fn.map).anchors l.from) + 1);
      writes : M.writes_left l.fn.map ≤ M.writes_left l.map;
      weighs_so : M.weighs l.map ≤ M.weighs l.fn.map;
    }

-- fewer parts are to come
abbrev pub decreases-loop-next : goal.decreases-loop-next
decreases-loop-next g l = to_come (g.M.BoundedMap.state l.fn.map).anchors l.next
