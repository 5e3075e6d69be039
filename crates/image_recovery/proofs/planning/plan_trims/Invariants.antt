use Rattle.image_recovery.proofs.PlanLemmas.{WalksTo}
use Rattle.image_recovery.proofs.planning.plan_trims.Given as goal

-- the moves for the nodes before this one
abbrev pub invariant-loop-position : goal.invariant-loop-position
invariant-loop-position l = WalksTo l.image l._position l.node l.moves.items
