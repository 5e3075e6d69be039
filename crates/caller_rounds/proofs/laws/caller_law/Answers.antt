use Rattle.caller_rounds.proofs.Calling.{replies_follow, replies_stay}
use Rattle.caller_rounds.proofs.laws.caller_law.Goals as goal

pub returns-clause-follow : goal.returns-clause-follow
returns-clause-follow c = replies_follow

pub returns-clause-stay : goal.returns-clause-stay
returns-clause-stay c = replies_stay
