use Rattle.tree_change.proofs.TakeExact.{take_stays, take_marks, take_is_exact, taken_is_unreached, unreached_stays, some_is_taken, take_sets, free_sets}
use Rattle.tree_change.proofs.laws.take_law.Goals as goal

pub returns : goal.returns
returns c = record {
  stays = take_stays;
  marks = take_marks;
  exact = take_is_exact;
  unreached = taken_is_unreached;
  beside = unreached_stays;
  some = some_is_taken;
  sets = take_sets;
  frees = free_sets;
}
