use Rattle.std.proofs.Common.{◌≡◌, ℕ, ◌+◌, ◌-◌, ◌≤◌, length}
use Rattle.tree_law.specs.Trees.{way_length}
use Rattle.image_layer_rules.specs.Faults.{image_tree}
use Rattle.image_layer_rules.proofs.CountLemmas.{below_first}
use Rattle.image_layer_rules.proofs.count.+room_behind.Given as goal

abbrev pub decreases-room_behind : goal.decreases-room_behind
decreases-room_behind l = 24 - l.least

-- so much room is left behind the leaves below the children that the loop has passed
abbrev pub invariant-loop-byte : goal.invariant-loop-byte
invariant-loop-byte l = (fuel : ℕ) → way_length ≤ fuel + l.next →
    l.left + length (below_first (image_tree l.image.layout l.image.words) fuel l.reference l.byte) ≡ l.room
