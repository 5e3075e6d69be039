use Rattle.cat_history.proofs.AnsweredLemmas.{answered_are_all, answered_come_first}
use Rattle.cat_history.proofs.laws.answered_law.Goals as goal

pub returns : goal.returns
returns c = record { all = answered_are_all; first = answered_come_first }
