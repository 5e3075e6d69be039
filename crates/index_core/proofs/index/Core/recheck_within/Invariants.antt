use Rattle.std.proofs.Common.{◌≡◌, ℕ, ◌+◌}
use Rattle.index_law.specs.Facts.{version_in}
use Rattle.index_core.proofs.LoneRechecks.{LoneRecheck}
use Rattle.index_core.proofs.index.Core.recheck_within.Given as goal

abbrev pub invariant-tries : goal.invariant-tries
invariant-tries g l = (left : ℕ) × LoneRecheck l.fn.self l.self l.caller l.node l.version left × (l.steps + l.budget ≡ l.fn.steps + l.fn.budget) ×
    (version_in l.fn.self.layout l.fn.self.words l.node ≡ l.version → l.steps + left ≡ l.fn.steps + 2)

abbrev pub decreases-tries : goal.decreases-tries
decreases-tries g l = l.budget
