use Rattle.radix_nodes.proofs.GrownCells.{grown_is_grown, larger_is_larger}
use Rattle.radix_nodes.proofs.PairCells.{pair_is_pair, pairs_alike}
use Rattle.radix_nodes.proofs.CellFits.{larger_fits, pair_fits, prefix_fits, made_kinds}
use Rattle.radix_nodes.proofs.laws.making_law.Goals as goal

pub returns : goal.returns
returns c = record {
  grown = grown_is_grown;
  larger = larger_is_larger;
  pair = pair_is_pair;
  pairs = pairs_alike;
  kinds = made_kinds;
  larger_fits = larger_fits;
  pair_fits = pair_fits;
  prefix_fits = prefix_fits;
}
