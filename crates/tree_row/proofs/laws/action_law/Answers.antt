use Rattle.tree_row.proofs.RowLaw.{load_leaves, store_makes, drain_makes, outside_leaves, eviction_mixes}
use Rattle.tree_row.proofs.laws.action_law.Goals as goal

pub returns : goal.returns
returns c = record {
  loads = load_leaves;
  stores = store_makes;
  drains = drain_makes;
  outside = outside_leaves;
  evicts = eviction_mixes;
}
