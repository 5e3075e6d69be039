use Rattle.std.proofs.Common.{length, ap}
use Rattle.thread_rounds.proofs.round.joined.Goals as goal

pub returns : goal.returns
returns c = record { records_are = c.of.ensures; met = (c.in_ok-met.ensures.meeting, ap length c.history.ensures) }
