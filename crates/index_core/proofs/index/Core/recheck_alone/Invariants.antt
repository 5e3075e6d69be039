use Rattle.std.proofs.Common.{◌≡◌, ℕ, ◌+◌, ◌-◌}
use Rattle.index_core.proofs.LoneRechecks.{LoneRecheck}
use Rattle.index_core.proofs.index.Core.recheck_alone.Given as goal

abbrev pub invariant-steps : goal.invariant-steps
invariant-steps g l = (left : ℕ) × LoneRecheck l.fn.self l.self l.caller l.fn.node l.fn.version left × (l.steps + left ≡ l.fn.steps + 2)

abbrev pub decreases-steps : goal.decreases-steps
decreases-steps g l = l.fn.steps + 2 - l.steps
