use Rattle.index_core.proofs.OneHistory.{one_legal_history, idle_are_counted}
use Rattle.index_core.proofs.Rounds.{round_begins}
use Rattle.index_core.proofs.laws.one_history_law.Goals as goal

pub returns-clause-history : goal.returns-clause-history
returns-clause-history c = one_legal_history

pub returns-clause-idle : goal.returns-clause-idle
returns-clause-idle c = idle_are_counted

pub returns-clause-round : goal.returns-clause-round
returns-clause-round c = round_begins
