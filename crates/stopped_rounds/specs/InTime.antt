-- Which calls of a round were surely answered within a budget.
use Rattle.std.specs.Prelude.{◌≡◌, ℕ, ◌+◌, ◌*◌, ◌/◌, ◌<◌, ◌≤◌, ◌⊎◌, List, All, length, slice_get, Some}
use Rattle.cat_history.specs.Rounds.{IsAnswered, IsOnName}
use Rattle.cat_history.specs.declared.op.CallerOp.{CallerOp}
use Rattle.cat_history.specs.declared.plan.RoundPlan.{RoundPlan}
use Rattle.cat_history.specs.declared.record.Record.{Record}
use Rattle.cat_history.specs.declared.record.Reply.{Reply}

abbrev pub AreOnNames : List CallerOp → Type 0
AreOnNames asked = All (λ (a : CallerOp). IsOnName a.op) asked

-- The updater makes no turn behind a call of the round: none at all, or none before more calls than there are.
abbrev pub HasNoTurns : RoundPlan → Type 0
HasNoTurns plan = (plan.updater ≡ 0) ⊎ (length plan.ops < plan.updater)

-- The updater makes a turn behind each so many calls or fewer, and its budget has so many events for each of its turns.
abbrev pub HasTimelyTurns : ℕ → ℕ → RoundPlan → ℕ → Type 0
HasTimelyTurns between events plan budget =
    (0 < plan.updater) × (plan.updater ≤ between) × ((length plan.ops / plan.updater) * events ≤ budget)

-- Each call was answered, by its number from 0, for which, and for each one before it, the budget has so many events.
abbrev pub AreInTime : ℕ → ℕ → List Record → Type 0
AreInTime most budget records = (i : ℕ) (r : Record) → slice_get records i ≡ Some r → (i + 1) * most ≤ budget →
    IsAnswered r.reply

-- One call took so many events at most, and this holds behind it, or it had a budget below that.
abbrev pub RepliesInTime : ℕ → ℕ → Reply → ℕ → Type 0 → Type 0
RepliesInTime most before reply after Then =
    (IsAnswered reply × (before ≤ after + most) × Then) ⊎ (before < most)
