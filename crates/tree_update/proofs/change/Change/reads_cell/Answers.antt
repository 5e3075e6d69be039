use Rattle.std.proofs.Common.{sym, subst}
use Rattle.tree_update.specs.Changes.{IsChangeAt}
use Rattle.tree_update.proofs.ChangeStays.{larger_read}
use Rattle.tree_update.proofs.change.Change.reads_cell.Goals as goal

pub wants_cell-requires-clause-low : goal.wants_cell-requires-clause-low
wants_cell-requires-clause-low c =
    (larger_read c.args.self.now.layout c.args.self.now.key c.args.self.now.word c.in-ReadingCell.read c.in-ReadingCell.spot c.in-ReadingCell.byte c.in-ReadingCell.leaf c.args.got c.in_ok-cell.cell
    c.larger.result (subst (IsChangeAt c.args.self.now.layout c.args.self.now.key c.args.self.now.word) c.in-ReadingCell.is c.requires.0.here) (sym c.in_ok-cell.ensures) c.larger.ensures.is).0

pub wants_cell-requires-clause-high : goal.wants_cell-requires-clause-high
wants_cell-requires-clause-high c =
    (larger_read c.args.self.now.layout c.args.self.now.key c.args.self.now.word c.in-ReadingCell.read c.in-ReadingCell.spot c.in-ReadingCell.byte c.in-ReadingCell.leaf c.args.got c.in_ok-cell.cell
    c.larger.result (subst (IsChangeAt c.args.self.now.layout c.args.self.now.key c.args.self.now.word) c.in-ReadingCell.is c.requires.0.here) (sym c.in_ok-cell.ensures) c.larger.ensures.is).1
