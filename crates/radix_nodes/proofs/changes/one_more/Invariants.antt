use Rattle.radix_nodes.specs.Cells.{children_of}
use Rattle.radix_nodes.proofs.Others.{FoundSo}
use Rattle.radix_nodes.proofs.changes.one_more.Given as goal

abbrev pub invariant-loop-other : goal.invariant-loop-other
invariant-loop-other l = FoundSo (children_of l.cell) l.byte l.other l.found
