use Rattle.std.proofs.Common.{◌≡◌, ℕ, ◌<◌, ◌≤◌, slice_index}
use Rattle.radix_nodes.specs.Keys.{key_byte_of}
use Rattle.image_layer_rules.proofs.heads.ends_at.Given as goal

-- the bytes that the loop has passed are 0
abbrev pub invariant-loop-at : goal.invariant-loop-at
invariant-loop-at l = (b : ℕ) → l.depth ≤ b → b < l.at → key_byte_of (slice_index l.key) b ≡ 0
