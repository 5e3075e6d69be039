use Rattle.std.proofs.Common.{◌<◌}
use Rattle.index_core.specs.Lone.{IsQuiet}
use Rattle.thread_trial.proofs.alone.play_on_core.Given as goal

-- no call is in flight, and there is a first caller
abbrev pub invariant-loop-number : goal.invariant-loop-number
invariant-loop-number g l = IsQuiet l.core × (0 < l.core.layout.callers)
