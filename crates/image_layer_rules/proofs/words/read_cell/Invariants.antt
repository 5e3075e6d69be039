use Rattle.radix_nodes.proofs.Heads.{Copied}
use Rattle.tree_law.specs.Words.{cell_in}
use Rattle.tree_row.specs.Rows.{image_layer}
use Rattle.image_layer_rules.proofs.words.read_cell.Given as goal

-- the words that the loop has passed are read, and those behind are 0
abbrev pub invariant-loop-at : goal.invariant-loop-at
invariant-loop-at l = Copied (cell_in (image_layer l.image.layout l.image.words) l.reference) l.words l.at
