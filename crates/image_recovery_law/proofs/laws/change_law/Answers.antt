use Rattle.image_recovery_law.proofs.RowChanges.{changes_on_rows, unset_begins, unset_goes, unset_ends, set_begins, set_goes, set_ends}
use Rattle.image_recovery_law.proofs.laws.change_law.Goals as goal

pub returns : goal.returns
returns c = record {
  rows = changes_on_rows;
  unset_begins = unset_begins;
  unset_goes = unset_goes;
  unset_ends = unset_ends;
  set_begins = set_begins;
  set_goes = set_goes;
  set_ends = set_ends;
}
