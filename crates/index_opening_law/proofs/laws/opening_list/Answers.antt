use Rattle.index_opening_law.proofs.Opened.{opening_has_list, opening_is_unlocked}
use Rattle.index_opening_law.proofs.laws.opening_list.Goals as goal

pub returns : goal.returns
returns c = record { list = opening_has_list; unlocked = opening_is_unlocked }
