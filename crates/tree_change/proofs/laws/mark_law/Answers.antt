use Rattle.tree_change.proofs.MarkSteps.{take_makes_marks, finish_makes_marks, leaf_leaves_marks, cell_leaves_marks}
use Rattle.tree_change.proofs.laws.mark_law.Goals as goal

pub returns : goal.returns
returns c = record {
  takes = take_makes_marks;
  finishes = finish_makes_marks;
  leaves = leaf_leaves_marks;
  cells = cell_leaves_marks;
}
