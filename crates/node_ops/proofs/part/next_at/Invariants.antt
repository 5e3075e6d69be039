use Rattle.std.proofs.Common.{◌≡◌}
use Rattle.node_ops.specs.PartSteps.{next_at}
use Rattle.node_ops.proofs.part.next_at.Given as goal

-- none of the slots that the loop has passed is live
abbrev pub invariant-loop-slot : goal.invariant-loop-slot
invariant-loop-slot l = next_at l.bitmap l.from l.slots ≡ next_at l.bitmap l.slot l.slots
