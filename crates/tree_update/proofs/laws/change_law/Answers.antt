use Rattle.tree_update.proofs.Acting.{change_can_act}
use Rattle.tree_update.proofs.OthersStay.{change_acts_on, change_keeps_others}
use Rattle.tree_update.proofs.Turning.{change_acts}
use Rattle.tree_update.proofs.RunLaw.{change_evicts, change_mixes}
use Rattle.tree_update.proofs.laws.change_law.Goals as goal

pub returns : goal.returns
returns c = record { acts = change_can_act; on = change_acts_on; others = change_keeps_others; keeps = change_acts; evicts = change_evicts; mixes = change_mixes }
