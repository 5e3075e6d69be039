use Rattle.image_recovery.proofs.RecoveringLemmas.{recovering_evicts, end_is_recovered}
use Rattle.image_recovery.proofs.laws.recovering_law.Goals as goal

pub returns : goal.returns
returns c = record { evicts = recovering_evicts; ends = end_is_recovered }
