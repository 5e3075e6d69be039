use Rattle.cat_history.proofs.LoneRoundLemmas.{lone_rounds_are_legal}
use Rattle.cat_history.proofs.laws.lone_round_law.Goals as goal

pub returns : goal.returns
returns c = lone_rounds_are_legal
