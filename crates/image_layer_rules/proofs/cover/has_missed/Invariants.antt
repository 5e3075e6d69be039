use Rattle.std.proofs.Common.{ℕ, ◌<◌}
use Rattle.image_layer_rules.specs.Covers.{IsMissed}
use Rattle.image_layer_rules.proofs.cover.has_missed.Given as goal

-- none of the nodes that the loop has passed is missed
abbrev pub invariant-loop-node : goal.invariant-loop-node
invariant-loop-node l = (n : ℕ) → n < l.node → ¬ IsMissed l.image.layout l.image.words n
