use Rattle.recovery.specs.Stops.{MayGoOn}
use Rattle.tests_core.proofs.tests.recoveries.go.Given as goal

abbrev pub invariant-loop : goal.invariant-loop
invariant-loop g l = MayGoOn l.recovery
