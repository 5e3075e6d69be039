use Rattle.std.proofs.Common.{◌≡◌, ℕ, ◌<◌, ◌≤◌}
use Rattle.radix_nodes.specs.Cells.{children_of}
use Rattle.image_layer_rules.proofs.children.next_byte.Given as goal

-- no byte that the loop has passed has a child
abbrev pub invariant-loop-byte : goal.invariant-loop-byte
invariant-loop-byte l = (b : ℕ) → l.from ≤ b → b < l.byte → children_of l.cell b ≡ 0
