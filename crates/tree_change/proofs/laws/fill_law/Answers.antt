use Rattle.tree_change.proofs.FillTurns.{leaf_turns, cell_turns}
use Rattle.tree_change.proofs.FillingLaw.{fill_begins, fill_step_keeps, filling_drains, filling_mixes}
use Rattle.tree_change.proofs.laws.fill_law.Goals as goal

pub returns : goal.returns
returns c = record {
  begins = fill_begins;
  leaves = leaf_turns;
  cells = cell_turns;
  keeps = fill_step_keeps;
  drains = filling_drains;
  mixes = filling_mixes;
}
