use Rattle.radix_nodes.specs.Cells.{children_of}
use Rattle.radix_nodes.proofs.Lookups.{NoneFrom}
use Rattle.radix_nodes.proofs.lookup.below.Given as goal

abbrev pub invariant-loop-passed : goal.invariant-loop-passed
invariant-loop-passed l = NoneFrom (children_of l.cell) l.limit l.passed
