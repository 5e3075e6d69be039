use Rattle.caller_rounds.proofs.Settling.{settled_stay}
use Rattle.caller_rounds.proofs.laws.settled_law.Goals as goal

pub returns : goal.returns
returns c = settled_stay
