use Rattle.tree_look.proofs.EndLaw.{key_is_set, leaf_is_added, cell_is_grown, pair_is_made, leaf_is_removed, cell_is_collapsed, is_in_cell}
use Rattle.tree_look.proofs.laws.end_law.Goals as goal

pub returns : goal.returns
returns c = record { sets = key_is_set; adds = leaf_is_added; grows = cell_is_grown; pairs = pair_is_made; removes = leaf_is_removed; collapses = cell_is_collapsed; in_cell = is_in_cell }
