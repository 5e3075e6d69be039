use Rattle.radix_nodes.specs.Cells.{words_of}
use Rattle.radix_nodes.proofs.Lookups.{NoneBehind}
use Rattle.radix_nodes.proofs.lookup.entry_with.Given as goal

abbrev pub invariant-loop-passed : goal.invariant-loop-passed
invariant-loop-passed l = NoneBehind (words_of l.cell) l.first l.count l.passed l.byte
