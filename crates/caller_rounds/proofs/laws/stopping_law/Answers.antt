use Rattle.caller_rounds.proofs.Stopping.{stops_follow, unstarted_follow, within_follows}
use Rattle.caller_rounds.proofs.laws.stopping_law.Goals as goal

pub returns-clause-follow : goal.returns-clause-follow
returns-clause-follow c = stops_follow

pub returns-clause-unstarted : goal.returns-clause-unstarted
returns-clause-unstarted c = unstarted_follow

pub returns-clause-within : goal.returns-clause-within
returns-clause-within c = within_follows
