use Rattle.updater_row_law.proofs.RowEvicts.{eviction_keeps_turn}
use Rattle.updater_row_law.proofs.laws.evict_law.Goals as goal

pub returns : goal.returns
returns c = eviction_keeps_turn
