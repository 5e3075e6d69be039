use Rattle.index_core.proofs.Logs.{log_is_counted, quiet_has_none_open, room_needs_no_turn}
use Rattle.index_core.proofs.laws.log_law.Goals as goal

pub returns : goal.returns
returns c = record { none_open = quiet_has_none_open; counted = log_is_counted; room = room_needs_no_turn }
