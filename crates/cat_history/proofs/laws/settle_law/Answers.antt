use Rattle.cat_history.proofs.SettleLemmas.{settled_is_crash_round}
use Rattle.cat_history.proofs.laws.settle_law.Goals as goal

pub returns : goal.returns
returns c = settled_is_crash_round
