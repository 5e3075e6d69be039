use Rattle.stopped_rounds.proofs.LoneStopLemmas.{lone_stops_are_stopped, answered_are_done}
use Rattle.stopped_rounds.proofs.laws.lone_stop_law.Goals as goal

pub returns : goal.returns
returns c = record { legal = lone_stops_are_stopped; answered = answered_are_done }
