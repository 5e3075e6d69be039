use Rattle.std.proofs.Common.{◌≡◌, ◌+◌, ◌≤◌}
use Rattle.index_core.proofs.Costs.{first_left}
use Rattle.index_core.proofs.Tries.{Lone, cost_at, left_at}
use Rattle.index_core.proofs.index.Core.try_within.Given as goal

abbrev pub invariant-steps : goal.invariant-steps
invariant-steps g l = Lone l.fn.self l.self l.caller l.fn.call × (l.steps + l.budget ≡ l.fn.steps + l.fn.budget) ×
    (l.steps + cost_at l.self l.caller ≤ l.fn.steps + first_left l.fn.self.layout l.fn.call)

abbrev pub decreases-steps : goal.decreases-steps
decreases-steps g l = left_at l.self l.caller
