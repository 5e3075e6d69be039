use Rattle.updater_row_law.proofs.RowTurns.{row_step_keeps}
use Rattle.updater_row_law.proofs.RowActions.{row_step_can_act}
use Rattle.updater_row_law.proofs.laws.row_law.Goals as goal

pub returns : goal.returns
returns c = record { acts = row_step_can_act; keeps = row_step_keeps }
