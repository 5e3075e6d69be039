use Rattle.caller_rounds.proofs.Stopping.{stops_make_round, stops_end_so}
use Rattle.caller_rounds.proofs.laws.stop_law.Goals as goal

pub returns-clause-round : goal.returns-clause-round
returns-clause-round c = stops_make_round

pub returns-clause-end : goal.returns-clause-end
returns-clause-end c = stops_end_so
