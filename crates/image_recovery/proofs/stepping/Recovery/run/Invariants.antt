use Rattle.std.proofs.Common.{◌+◌, ◌-◌, length, is_some, if◌then◌else◌}
use Rattle.pm_words.specs.Images.{Row}
use Rattle.image_recovery.specs.Recovered.{IsRecoverable}
use Rattle.image_recovery.specs.Recoveries.{IsRecovering}
use Rattle.image_recovery.proofs.stepping.Recovery.run.Given as goal

-- it is a recovery of whatever image it was one of
abbrev pub invariant-moves : goal.invariant-moves
invariant-moves g l = (image : Row) → IsRecoverable image → IsRecovering image l.fn.self l.fn.memory → IsRecovering image l.self l.memory

abbrev pub decreases-moves : goal.decreases-moves
decreases-moves g l = (length l.self.moves.items - l.self.begun) + (if is_some l.self.making then 1 else 0)
