use Rattle.std.proofs.Common.{◌≡◌}
use Rattle.pm_words.specs.Turns.{turn_of}
use Rattle.updater.specs.Makings.{worked}
use Rattle.pac_index.specs.Budgets.{Pays}
use Rattle.pac_index.specs.Kept.{IsLone, party}
use Rattle.pac_index.specs.Turns.{TurnRuns, actions_left}
use Rattle.pac_index.proofs.shared.Shared.run_turn.Given as goal

abbrev pub ghosts-begin_work : goal.ghosts-begin_work
ghosts-begin_work g a = record { epoch = a.epoch }

abbrev pub invariant-steps : goal.invariant-steps
invariant-steps g l = ((l.seat.table_id ≡ l.fn.seat.table_id) × (l.seat.id ≡ l.fn.seat.id)) × IsLone l.seat.me × TurnRuns l.epoch (party l.fn.seat.me) (worked (turn_of l.work l.turned)) (party l.seat.me) × Pays l.fn.left l.left (party l.fn.seat.me).taken (party l.seat.me).taken

abbrev pub decreases-steps : goal.decreases-steps
decreases-steps g l = actions_left (worked (turn_of l.work l.turned))
