use Rattle.std.proofs.Common.{◌≡◌}
use Rattle.radix_nodes.specs.Making.{in_16}
use Rattle.radix_nodes.proofs.making.grown_to_16.Given as goal

abbrev pub invariant-loop-entry : goal.invariant-loop-entry
invariant-loop-entry l = l.grown ≡ in_16 l.cell l.entry
