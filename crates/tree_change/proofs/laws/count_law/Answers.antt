use Rattle.tree_change.proofs.CountStays.{others_end, count_stays}
use Rattle.tree_change.proofs.CountExact.{counts_are_exact, count_is_exact}
use Rattle.tree_change.proofs.CountedLaw.{two_are_more, one_is_more}
use Rattle.tree_change.proofs.laws.count_law.Goals as goal

pub returns : goal.returns
returns c = record {
  ends = others_end;
  exact = counts_are_exact;
  stays = count_stays;
  counts = count_is_exact;
  two = two_are_more;
  one = one_is_more;
}
