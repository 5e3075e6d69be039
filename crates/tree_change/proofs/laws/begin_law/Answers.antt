use Rattle.tree_change.proofs.FilledLaw.{leaf_is_filled, pair_is_filled}
use Rattle.tree_change.proofs.GrownLaw.{larger_is_filled}
use Rattle.tree_change.proofs.BeginLaw.{set_begins, pair_begins, grow_begins, remove_begins, clear_begins, unindex_begins, collapse_begins}
use Rattle.tree_change.proofs.laws.begin_law.Goals as goal

pub returns : goal.returns
returns c = record {
  leaf = leaf_is_filled;
  pair = pair_is_filled;
  larger = larger_is_filled;
  sets = set_begins;
  pairs = pair_begins;
  grows = grow_begins;
  removes = remove_begins;
  clears = clear_begins;
  unindexes = unindex_begins;
  collapses = collapse_begins;
}
