use Rattle.tree_look.proofs.EndLaw.{leaf_add_reaches, cell_grow_reaches, pair_make_reaches, leaf_remove_reaches, cell_collapse_reaches}
use Rattle.tree_look.proofs.laws.reach_law.Goals as goal

pub returns : goal.returns
returns c = record {
  adds = leaf_add_reaches;
  grows = cell_grow_reaches;
  pairs = pair_make_reaches;
  removes = leaf_remove_reaches;
  collapses = cell_collapse_reaches;
}
