use Rattle.image_recovery_law.proofs.RowMoves.{move_stores, move_ends, row_evicts}
use Rattle.image_recovery_law.proofs.RowPlans.{row_reaches, row_ends}
use Rattle.image_recovery_law.proofs.laws.move_law.Goals as goal

pub returns : goal.returns
returns c = record { stores = move_stores; ends = move_ends; evictions = row_evicts; reaches = row_reaches; last = row_ends }
