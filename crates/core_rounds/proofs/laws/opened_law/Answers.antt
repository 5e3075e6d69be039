use Rattle.core_rounds.proofs.CoreMaps.{opened_is_map}
use Rattle.core_rounds.proofs.laws.opened_law.Goals as goal

pub returns : goal.returns
returns c = opened_is_map
