use Rattle.tree_law.proofs.MarkingLaw.{fill_reaches, node_word_reaches, set_add_reaches, set_pair_reaches, set_grow_reaches, unset_remove_reaches, unset_collapse_reaches, marks_tell_again}
use Rattle.tree_law.proofs.MarksSet.{one_comes, two_come, one_is_replaced, one_goes, two_go}
use Rattle.tree_law.proofs.laws.marking_law.Goals as goal

pub returns : goal.returns
returns c = record {
  fills = fill_reaches;
  node = node_word_reaches;
  adds = set_add_reaches;
  pairs = set_pair_reaches;
  grows = set_grow_reaches;
  removes = unset_remove_reaches;
  collapses = unset_collapse_reaches;
  marks = marks_tell_again;
  one_comes = one_comes;
  two_come = two_come;
  replaced = one_is_replaced;
  one_goes = one_goes;
  two_go = two_go;
}
