use Rattle.pm_words.specs.Locations.{Cached}
use Rattle.radix_nodes.proofs.Heads.{Copied}
use Rattle.tree_law.specs.Words.{cell_in}
use Rattle.tree_row.specs.Rows.{layer_words}
use Rattle.tree_marks.proofs.words.read_cell.Given as goal

-- the words that the loop has passed are read, and those behind are 0
abbrev pub invariant-loop-at : goal.invariant-loop-at
invariant-loop-at l = Copied (cell_in (layer_words l.memory.layout l.memory.words Cached) l.reference) l.words l.at
