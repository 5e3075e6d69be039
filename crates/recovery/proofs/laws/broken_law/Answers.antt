use Rattle.recovery.proofs.Breaks.{broken_are_as_good}
use Rattle.recovery.proofs.laws.broken_law.Goals as goal

pub returns : goal.returns
returns c = broken_are_as_good
