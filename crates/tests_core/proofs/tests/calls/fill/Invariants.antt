use Rattle.recovery.specs.index_core.specs.Lone.{IsQuiet}
use Rattle.tests_core.proofs.tests.calls.fill.Given as goal

abbrev pub invariant-loop-number : goal.invariant-loop-number
invariant-loop-number l = IsQuiet l.core

abbrev pub invariant-loop-other : goal.invariant-loop-other
invariant-loop-other l = IsQuiet l.core
