use Rattle.stopped_rounds.proofs.ScanStops.{to_come}
use Rattle.core_rounds.proofs.ScanSteps.{Scanned}
use Rattle.core_rounds.proofs.round.scan.Given as goal

-- the scan goes on behind its parts so far
abbrev pub invariant-loop-next : goal.invariant-loop-next
invariant-loop-next g l =
    let M = g.M.UpdatedMap in
    Scanned (M.state l.fn.map) (M.state l.map) (M.waits l.fn.map) (M.waits l.map) l.from l.count l.place l.next l.left l.parts.items

-- fewer parts are to come
abbrev pub decreases-loop-next : goal.decreases-loop-next
decreases-loop-next g l = to_come (g.M.UpdatedMap.state l.fn.map).anchors l.next
