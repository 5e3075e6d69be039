use Rattle.std.proofs.Common.{◌≡◌, ℕ, ◌-◌, ◌*◌, ◌<◌, length, slice_index}
use Rattle.radix_nodes.specs.Keys.{first_bytes_of}
use Rattle.radix_nodes.proofs.key.prefix_of.Given as goal

abbrev pub invariant-loop-at : goal.invariant-loop-at
invariant-loop-at l = (length l.prefix ≡ 3) × ((k : ℕ) → k < l.at → slice_index l.prefix k ≡ first_bytes_of (slice_index l.key k) (l.depth - 8 * k))
