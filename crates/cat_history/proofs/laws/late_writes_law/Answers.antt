use Rattle.cat_history.proofs.CallerLemmas.{late_writes_are_few}
use Rattle.cat_history.proofs.laws.late_writes_law.Goals as goal

pub returns : goal.returns
returns c = late_writes_are_few
