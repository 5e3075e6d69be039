use Rattle.updater_row_law.proofs.RowCrash.{layer_is_safe}
use Rattle.updater_row_law.proofs.laws.crash_law.Goals as goal

pub returns : goal.returns
returns c = layer_is_safe
