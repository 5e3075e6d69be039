use Rattle.tree_change.proofs.ActsLaw.{action_happens, finish_happens, leaf_happens, cell_happens, take_leaves}
use Rattle.tree_change.proofs.laws.act_law.Goals as goal

pub returns : goal.returns
returns c = record {
  acts = action_happens;
  finishes = finish_happens;
  leaves = leaf_happens;
  cells = cell_happens;
  takes = take_leaves;
}
