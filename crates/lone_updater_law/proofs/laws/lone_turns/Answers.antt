use Rattle.lone_updater_law.proofs.Begins.{turns_begin}
use Rattle.lone_updater_law.proofs.Ending.{gone_are_held_back}
use Rattle.lone_updater_law.proofs.Going.{turns_go}
use Rattle.lone_updater_law.proofs.laws.lone_turns.Goals as goal

pub returns-clause-begins : goal.returns-clause-begins
returns-clause-begins c = turns_begin

pub returns-clause-goes : goal.returns-clause-goes
returns-clause-goes c = turns_go

pub returns-clause-gone : goal.returns-clause-gone
returns-clause-gone c = gone_are_held_back
