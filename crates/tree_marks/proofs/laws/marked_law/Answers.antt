use Rattle.tree_marks.proofs.RestLaw.{marked_by_walk, marked_is_at_rest, marks_tell_exactly, marking_keeps_others, crash_leaves_image}
use Rattle.tree_marks.proofs.laws.marked_law.Goals as goal

pub returns : goal.returns
returns c = record {
  walk = marked_by_walk;
  rest = marked_is_at_rest;
  exact = marks_tell_exactly;
  others = marking_keeps_others;
  crash = crash_leaves_image;
}
