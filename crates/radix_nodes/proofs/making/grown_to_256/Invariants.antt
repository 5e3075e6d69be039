use Rattle.std.proofs.Common.{◌≡◌}
use Rattle.radix_nodes.specs.Making.{in_256}
use Rattle.radix_nodes.proofs.making.grown_to_256.Given as goal

abbrev pub invariant-loop-byte : goal.invariant-loop-byte
invariant-loop-byte l = l.grown ≡ in_256 l.cell l.byte
