use Rattle.std.proofs.Common.{ℕ, ◌<◌}
use Rattle.image_layer_rules.specs.Checks.{IsRightChild}
use Rattle.image_layer_rules.proofs.cell.has_wrong_child.Given as goal

-- the children that the loop has passed are right
abbrev pub invariant-loop-byte : goal.invariant-loop-byte
invariant-loop-byte l = (b : ℕ) → b < l.byte → IsRightChild l.image.layout l.image.words l.reference b
