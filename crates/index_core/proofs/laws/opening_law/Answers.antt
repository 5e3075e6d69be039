use Rattle.index_core.proofs.Opening.{opening_is_index, opening_is_unused}
use Rattle.index_core.proofs.laws.opening_law.Goals as goal

pub returns : goal.returns
returns c = record { index = opening_is_index; unused = opening_is_unused }
