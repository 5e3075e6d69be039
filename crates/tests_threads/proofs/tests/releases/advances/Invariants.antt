use Rattle.epochs.specs.Seats.{IsSeatOf, IsUnpinned}
use Rattle.tests_threads.proofs.tests.releases.advances.Given as goal

abbrev pub invariant-loop : goal.invariant-loop
invariant-loop l = IsSeatOf l.fn.epochs l.seat × IsUnpinned l.seat
