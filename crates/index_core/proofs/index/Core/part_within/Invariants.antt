use Rattle.std.proofs.Common.{◌≡◌, ◌+◌, ◌≤◌}
use Rattle.index_core.specs.declared.party.CoreCall.TheVariants as call
use Rattle.index_core.proofs.Costs.{first_left}
use Rattle.index_core.proofs.Tries.{Lone, cost_at, left_at}
use Rattle.index_core.proofs.index.Core.part_within.Given as goal

abbrev pub invariant-steps : goal.invariant-steps
invariant-steps g l = Lone l.fn.self l.self l.caller (call.Part l.fn.low l.fn.count) × (l.steps + l.budget ≡ l.fn.steps + l.fn.budget) ×
    (l.steps + cost_at l.self l.caller ≤ l.fn.steps + first_left l.fn.self.layout (call.Part l.fn.low l.fn.count))

abbrev pub decreases-steps : goal.decreases-steps
decreases-steps g l = left_at l.self l.caller
