use Rattle.tree_law.proofs.ReachedLaw.{add_reaches, pair_reaches, grow_reaches, remove_reaches, collapse_reaches}
use Rattle.tree_law.proofs.laws.reached_law.Goals as goal

pub returns : goal.returns
returns c = record {
  adds = add_reaches;
  pairs = pair_reaches;
  grows = grow_reaches;
  removes = remove_reaches;
  collapses = collapse_reaches;
}
