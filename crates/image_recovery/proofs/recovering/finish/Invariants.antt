use Rattle.std.proofs.Common.{◌≡◌, List}
use Rattle.pm_words.specs.Images.{Row}
use Rattle.image_recovery_law.specs.Moves as law
use Rattle.image_recovery.specs.Plans.{columns, list_of}
use Rattle.image_recovery.specs.Makings.{making_left}
use Rattle.image_recovery.specs.MakingLaw.{IsAtMove}
use Rattle.image_recovery.specs.Recovered.{IsRecoverable}
use Rattle.image_recovery.specs.Recoveries.{IsMakingOne}
use Rattle.image_recovery.proofs.recovering.finish.Given as goal

-- of whatever recovery the rows were as it began, they are of it, at this move
abbrev pub invariant-turns : goal.invariant-turns
invariant-turns g l = record {
  layout : l.memory.layout ≡ l.fn.memory.layout;
  at : (image : Row) (rest : List law.Move) → IsRecoverable image → IsMakingOne image l.fn.memory rest l.fn.making → IsAtMove image.layout (list_of image) (columns image) rest l.memory.words l.making;
}

abbrev pub decreases-turns : goal.decreases-turns
decreases-turns g l = making_left l.making
