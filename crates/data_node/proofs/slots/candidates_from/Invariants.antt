use Rattle.std.proofs.Common.{◌≤◌}
use Rattle.data_node.proofs.Bitmaps.{Marks}
use Rattle.data_node.proofs.slots.candidates_from.Given as goal

-- the bits set so far are the candidates among the slots that the loop has passed
abbrev pub invariant-loop-slot : goal.invariant-loop-slot
invariant-loop-slot l = (Marks l.bitmap l.prints l.print l.slot l.found) × (l.slot ≤ l.end)
