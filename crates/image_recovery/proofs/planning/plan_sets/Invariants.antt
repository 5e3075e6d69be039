use Rattle.image_recovery_law.specs.Stages.{Sets}
use Rattle.image_recovery.specs.Plans.{PlansTo}
use Rattle.image_recovery.proofs.planning.plan_sets.Given as goal

-- the moves up to this line
abbrev pub invariant-loop-line : goal.invariant-loop-line
invariant-loop-line l = PlansTo l.image (Sets l.line) l.moves.items
