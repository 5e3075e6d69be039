use Rattle.caller_rounds.proofs.Meeting.{callers_make_round, replies_make_round}
use Rattle.caller_rounds.proofs.laws.meeting_law.Goals as goal

pub returns-clause-legal : goal.returns-clause-legal
returns-clause-legal c = replies_make_round

pub returns-clause-joined : goal.returns-clause-joined
returns-clause-joined c = callers_make_round
