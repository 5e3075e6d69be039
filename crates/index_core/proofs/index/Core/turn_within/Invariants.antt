use Rattle.std.proofs.Common.{◌≡◌, ◌+◌}
use Rattle.index_core.proofs.Waiting.{Turns}
use Rattle.index_core.proofs.index.Core.turn_within.Given as goal

abbrev pub invariant-tries : goal.invariant-tries
invariant-tries g l = Turns l.fn.self l.self l.party l.fn.stamp l.fn.release l.fn.steps l.steps × (l.steps + l.budget ≡ l.fn.steps + l.fn.budget)

abbrev pub decreases-tries : goal.decreases-tries
decreases-tries g l = l.budget
