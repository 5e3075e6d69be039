use Rattle.image_recovery_law.specs.Stages.{Empties}
use Rattle.image_recovery.specs.Plans.{PlansTo}
use Rattle.image_recovery.proofs.planning.plan_empties.Given as goal

-- the moves up to this line
abbrev pub invariant-loop-line : goal.invariant-loop-line
invariant-loop-line l = PlansTo l.image (Empties l.line) l.moves.items
