use Rattle.core_rounds.proofs.Restarting.{crowd_or_lone, joined_lone_have_no_restart, restarts_add_up, restarts_few}
use Rattle.core_rounds.proofs.laws.restarts_law.Goals as goal

pub returns : goal.returns
returns c = record { either = crowd_or_lone; none = joined_lone_have_no_restart; few = restarts_few; add = restarts_add_up }
