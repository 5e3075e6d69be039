use Rattle.std.proofs.Common.{◌≢◌, ℕ, ◌-◌, ◌<◌}
use Rattle.tree_law.specs.Trees.{Nothing}
use Rattle.image_layer_rules.specs.Faults.{image_tree}
use Rattle.image_layer_rules.specs.Checks.{IsWrongFrom}
use Rattle.image_layer_rules.proofs.walk.+is_wrong_from.Given as goal

abbrev pub decreases-is_wrong_from : goal.decreases-is_wrong_from
decreases-is_wrong_from l = 24 - l.least

-- nothing is wrong below the children that the loop has passed
abbrev pub invariant-loop-byte : goal.invariant-loop-byte
invariant-loop-byte l = (b : ℕ) → b < l.byte →
    (image_tree l.image.layout l.image.words).child l.reference b ≢ Nothing →
    ¬ IsWrongFrom l.image.layout l.image.words ((image_tree l.image.layout l.image.words).child l.reference b)
