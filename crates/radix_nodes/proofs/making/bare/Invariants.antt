use Rattle.std.proofs.Common.{◌≡◌}
use Rattle.radix_nodes.specs.Cells.{words_of}
use Rattle.radix_nodes.specs.Making.{copied}
use Rattle.radix_nodes.proofs.making.bare.Given as goal

abbrev pub invariant-loop-at : goal.invariant-loop-at
invariant-loop-at l = l.words ≡ copied (words_of l.cell) l.at
