use Rattle.caller_rounds.proofs.Rooms.{room_follows, full_rounds_are_paid}
use Rattle.caller_rounds.proofs.laws.room_law.Goals as goal

pub returns-clause-follow : goal.returns-clause-follow
returns-clause-follow c = room_follows

pub returns-clause-paid : goal.returns-clause-paid
returns-clause-paid c = full_rounds_are_paid
