use Rattle.std.proofs.Common.{◌≡◌}
use Rattle.pac_index.specs.Callers.{IsCallerOf}
use Rattle.thread_rounds.specs.Played.{budget_of}
use Rattle.thread_rounds.proofs.Playing.{PlaysSoFar}
use Rattle.thread_rounds.proofs.worker.makes_calls.Given as goal

abbrev pub invariant-loop-at : goal.invariant-loop-at
invariant-loop-at g l = IsCallerOf l.fn.shared l.caller × (l.number ≡ l.fn.caller.number) × PlaysSoFar l.fn.plan l.fn.caller.number (budget_of l.fn.plan.crash l.fn.caller.number) l.at l.caller l.index l.records.items
