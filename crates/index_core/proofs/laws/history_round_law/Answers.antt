use Rattle.index_core.proofs.LegalRounds.{legal_history_is_legal_round, legal_history_keeps_limit}
use Rattle.index_core.proofs.ToldRounds.{legal_history_is_told_round}
use Rattle.index_core.proofs.laws.history_round_law.Goals as goal

pub returns-clause-round : goal.returns-clause-round
returns-clause-round c = legal_history_is_legal_round

pub returns-clause-limit : goal.returns-clause-limit
returns-clause-limit c = legal_history_keeps_limit

pub returns-clause-told : goal.returns-clause-told
returns-clause-told c = legal_history_is_told_round
