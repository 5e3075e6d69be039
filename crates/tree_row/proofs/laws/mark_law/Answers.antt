use Rattle.tree_row.proofs.MarkLaw.{mark_is_set, store_leaves_marks, load_leaves_marks, eviction_leaves_marks, image_has_no_marks}
use Rattle.tree_row.proofs.laws.mark_law.Goals as goal

pub returns : goal.returns
returns c = record {
  sets = mark_is_set;
  stores = store_leaves_marks;
  loads = load_leaves_marks;
  evicts = eviction_leaves_marks;
  image = image_has_no_marks;
}
