use Rattle.index_law.proofs.Fresh.{fresh_law}
use Rattle.index_law.proofs.Rounds.{round_law}
use Rattle.index_law.proofs.Starts.{rest_law, idle_law}
use Rattle.index_law.proofs.laws.rest_law.Goals as goal

pub returns-clause-lawful : goal.returns-clause-lawful
returns-clause-lawful c = rest_law

pub returns-clause-idle : goal.returns-clause-idle
returns-clause-idle c = idle_law

pub returns-clause-round : goal.returns-clause-round
returns-clause-round c = round_law

pub returns-clause-fresh : goal.returns-clause-fresh
returns-clause-fresh c = fresh_law
