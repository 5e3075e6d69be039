use Rattle.tree_change.proofs.RowSteps.{finish_acts, finish_evicts, finish_crashes, leaf_acts, cell_acts, fill_evicts, fill_crashes}
use Rattle.tree_change.proofs.laws.row_law.Goals as goal

pub returns : goal.returns
returns c = record {
  finishes = finish_acts;
  finish_evicts = finish_evicts;
  finish_crashes = finish_crashes;
  leaves = leaf_acts;
  cells = cell_acts;
  fill_evicts = fill_evicts;
  fill_crashes = fill_crashes;
}
