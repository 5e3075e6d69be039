use Rattle.std.proofs.Common.{◌≡◌}
use Rattle.pm_words.specs.Turns.{turn_of}
use Rattle.pac_index.specs.Budgets.{Pays}
use Rattle.pac_index.specs.Kept.{IsLone, party}
use Rattle.pac_index.specs.Calls.{Runs, turn_left}
use Rattle.pac_index.proofs.shared.Shared.run_in.Given as goal

abbrev pub invariant-steps : goal.invariant-steps
invariant-steps g l = ((l.seat.table_id ≡ l.fn.seat.table_id) × (l.seat.id ≡ l.fn.seat.id)) × IsLone l.seat.me × Runs g.C.BeginsCall.call g.C.BeginsCall.index (party l.fn.seat.me) (turn_of l.machine l.answer) (party l.seat.me) × Pays l.fn.left l.left (party l.fn.seat.me).taken (party l.seat.me).taken

abbrev pub decreases-steps : goal.decreases-steps
decreases-steps g l = turn_left (turn_of l.machine l.answer)
