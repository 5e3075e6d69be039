-- The end of a write whose store is made, step by step.
use Rattle.std.specs.Prelude.{ℕ, ◌+◌, ◌≤◌, Option, Some, None}
use Rattle.pm_words.specs.declared.TheConstants.{LINE_WORDS}
use Rattle.pm_words.specs.Locations.{node_words}
use Rattle.pm_words.specs.declared.action.Action.{Action}
use Rattle.pm_words.specs.declared.action.Action.TheVariants.{Store, Add}
use Rattle.pm_words.specs.declared.machine.Turn.{Turn}
use Rattle.pm_words.specs.declared.machine.Turn.TheVariants.{Go, Done}
use Rattle.call_stages.specs.declared.once.Once.{Once}
use Rattle.call_stages.specs.declared.once.Once.TheVariants as once
use Rattle.call_stages.specs.declared.once.Placed.{Placed}
use Rattle.call_stages.specs.Kinds.{clock_address}
use Rattle.node_ops.specs.declared.call.Call.{Call}
use Rattle.pm_words.specs.declared.fence.Fence.{Fence}
use Rattle.node_ops.specs.declared.finish.Finish.{Finish}
use Rattle.node_ops.specs.declared.finish.FinishAt.{FinishAt}
use Rattle.node_ops.specs.declared.finish.FinishAt.TheVariants as at
use Rattle.node_ops.specs.Calls.{IsCall, IsToldOf, call_address}
use Rattle.version_lock.specs.Versions.{IsLockWord}
use Rattle.pm_words.specs.Fences.{IsFence, fence_asks, fence_next, fence_left}
use Rattle.pm_words.specs.Offsets.{version_offset}

abbrev pub finish_at_asks : Finish → FinishAt → Action
finish_at_asks finish (at.Fence line fence) = fence_asks (call_address finish.call (line + fence.word)) fence
finish_at_asks finish at.Add = Add (clock_address finish.call.view.layout)
finish_at_asks finish (at.Unlock place) = Store (call_address finish.call version_offset) (finish.hold.locked + 1)

abbrev pub finish_asks : Finish → Action
finish_asks finish = finish_at_asks finish finish.at

-- it goes on there
abbrev pub finishes_on : Finish → FinishAt → Turn Finish (Once Placed)
finishes_on finish at = Go (record finish { at = at })

abbrev pub finish_fenced : Finish → ℕ → Option Fence → Turn Finish (Once Placed)
finish_fenced finish line (Some fence) = finishes_on finish (at.Fence line fence)
finish_fenced finish line None = finishes_on finish at.Add

abbrev pub finish_at_turned : Finish → FinishAt → ℕ → Turn Finish (Once Placed)
finish_at_turned finish (at.Fence line fence) got = finish_fenced finish line (fence_next fence got)
finish_at_turned finish at.Add got = finishes_on finish (at.Unlock got)
finish_at_turned finish (at.Unlock place) got =
    Done (once.Done (record { old = finish.old; place = place; hops = finish.call.hops }))

abbrev pub finish_turned : Finish → ℕ → Turn Finish (Once Placed)
finish_turned finish got = finish_at_turned finish finish.at got

abbrev pub IsFinishAt : Call → FinishAt → Type 0
IsFinishAt call (at.Fence line fence) = (line + LINE_WORDS ≤ node_words call.view.layout) × IsFence fence
IsFinishAt call at.Add = Unit {0}
IsFinishAt call (at.Unlock place) = Unit {0}

-- what the fields of the end of a write keep
pub record IsFinish (finish : Finish) : Type 0 where
  pub call : IsCall finish.call
  pub locked : IsLockWord finish.hold.locked
  pub here : IsFinishAt finish.call finish.at

abbrev pub finish_takes : Finish → ℕ → Type 0
finish_takes finish got = IsFinish finish × IsToldOf finish.call (finish_asks finish) got

abbrev pub finish_at_left : FinishAt → ℕ
finish_at_left (at.Fence line fence) = fence_left fence + 2
finish_at_left at.Add = 2
finish_at_left (at.Unlock place) = 1

abbrev pub finish_left : Finish → ℕ
finish_left finish = finish_at_left finish.at
