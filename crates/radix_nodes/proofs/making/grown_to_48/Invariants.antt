use Rattle.std.proofs.Common.{◌≡◌}
use Rattle.radix_nodes.specs.Making.{in_48}
use Rattle.radix_nodes.proofs.making.grown_to_48.Given as goal

abbrev pub invariant-loop-entry : goal.invariant-loop-entry
invariant-loop-entry l = l.grown ≡ in_48 l.cell l.entry
