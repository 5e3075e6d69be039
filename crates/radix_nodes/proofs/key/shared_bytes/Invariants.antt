use Rattle.std.proofs.Common.{◌≡◌, ℕ, ◌<◌, slice_index}
use Rattle.radix_nodes.specs.Keys.{key_byte_of}
use Rattle.radix_nodes.proofs.key.shared_bytes.Given as goal

abbrev pub invariant-loop-at : goal.invariant-loop-at
invariant-loop-at l = (k : ℕ) → k < l.at → key_byte_of (slice_index l.one) k ≡ key_byte_of (slice_index l.other) k
