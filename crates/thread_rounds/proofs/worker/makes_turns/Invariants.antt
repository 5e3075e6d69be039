use Rattle.std.proofs.Common.{◌≡◌}
use Rattle.std.specs.Prelude.{None}
use Rattle.pac_index.specs.Callers.{IsCallerOf, seen_by}
use Rattle.pac_index.specs.Ends.{HasOnlyRead}
use Rattle.thread_rounds.proofs.worker.makes_turns.Given as goal

abbrev pub invariant-loop-turn : goal.invariant-loop-turn
invariant-loop-turn g l = IsCallerOf l.fn.shared l.caller × (l.caller.number ≡ l.fn.caller.number) × HasOnlyRead (seen_by l.fn.caller) (seen_by l.caller) × (l.caller.cut ≡ None) × (l.fn.plan.crash ≡ None → l.caller.left ≡ None)
