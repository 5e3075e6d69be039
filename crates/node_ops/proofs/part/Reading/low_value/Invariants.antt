use Rattle.std.proofs.Common.{◌≡◌}
use Rattle.node_ops.specs.PartSteps.{low_value}
use Rattle.node_ops.proofs.part.Reading.low_value.Given as goal

-- it has what the slots that the loop has passed say
abbrev pub invariant-loop-slot : goal.invariant-loop-slot
invariant-loop-slot l = l.old ≡ low_value l.self l.slot
