use Rattle.std.proofs.Common.{◌^◌, ◌<◌}
use Rattle.image_recovery.specs.Plans.{IsKept}
use Rattle.image_recovery.proofs.Trimming.{AreBits}
use Rattle.image_recovery.proofs.trim.trimmed.Given as goal

-- the bits of the slots that the loop has passed
abbrev pub invariant-loop-slot : goal.invariant-loop-slot
invariant-loop-slot l = record {
  bounded : l.bits < 2 ^ l.image.layout.slots;
  are : AreBits (IsKept l.image l.node) l.bits l.slot;
}
