use Rattle.tree_update.proofs.ChangeStays.{changes_stay, sets_stay, unsets_stay}
use Rattle.tree_update.proofs.laws.turn_law.Goals as goal

pub returns : goal.returns
returns c = record { changes = changes_stay; sets = sets_stay; unsets = unsets_stay }
