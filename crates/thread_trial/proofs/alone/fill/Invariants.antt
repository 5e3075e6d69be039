use Rattle.std.proofs.Common.{◌≡◌}
use Rattle.index_core.specs.Lone.{IsQuiet}
use Rattle.thread_trial.proofs.alone.fill.Given as goal

-- no call is in flight, and the layout is as it was
abbrev pub invariant-loop-number : goal.invariant-loop-number
invariant-loop-number g l = IsQuiet l.core × (l.core.layout ≡ l.fn.core.layout)
