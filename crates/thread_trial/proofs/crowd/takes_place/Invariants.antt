use Rattle.std.proofs.Common.{◌≡◌}
use Rattle.pac_index.specs.Callers.{IsCallerOf}
use Rattle.thread_trial.proofs.crowd.takes_place.Given as goal

abbrev pub invariant-loop-tries : goal.invariant-loop-tries
invariant-loop-tries l = IsCallerOf l.fn.shared l.caller × (l.caller.number ≡ l.fn.caller.number)
