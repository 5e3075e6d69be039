use Rattle.std.proofs.Common.{ℕ, ◌-◌, ◌<◌}
use Rattle.image_layer_rules.specs.Faults.{image_tree}
use Rattle.image_layer_rules.specs.Covers.{IsStrayFrom}
use Rattle.image_layer_rules.proofs.stray.+is_stray_from.Given as goal

abbrev pub decreases-is_stray_from : goal.decreases-is_stray_from
decreases-is_stray_from l = 24 - l.least

-- no such leaf is reached from the children that the loop has passed
abbrev pub invariant-loop-byte : goal.invariant-loop-byte
invariant-loop-byte l = (b : ℕ) → b < l.byte →
    ¬ IsStrayFrom l.image.layout l.image.words ((image_tree l.image.layout l.image.words).child l.reference b)
