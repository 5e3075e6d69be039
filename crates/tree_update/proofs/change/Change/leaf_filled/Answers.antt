use Rattle.std.proofs.Common.{slice_index}
use Rattle.radix_nodes.specs.Making.{prefix_word}
use Rattle.tree_update.proofs.ChangeStays.{pair_low}
use Rattle.tree_update.proofs.change.Change.leaf_filled.Goals as goal

pub wants_cell-requires-clause-low : goal.wants_cell-requires-clause-low
wants_cell-requires-clause-low c = (pair_low c.pair-cell.result c.in-Beside.depth (prefix_word c.in-Beside.depth (slice_index c.args.self.now.key)) c.branch-old.result c.branch-new.result c.pair-cell.ensures).0

pub wants_cell-requires-clause-high : goal.wants_cell-requires-clause-high
wants_cell-requires-clause-high c = (pair_low c.pair-cell.result c.in-Beside.depth (prefix_word c.in-Beside.depth (slice_index c.args.self.now.key)) c.branch-old.result c.branch-new.result c.pair-cell.ensures).1
