-- The states READY and EMPTY, step by step.
use Rattle.std.specs.Prelude.{◌≡◌, ℕ, ◌*◌, ◌^◌, ◌<◌, true, Option, Some}
use Rattle.pm_words.specs.declared.layout.Layout.{Layout}
use Rattle.pm_words.specs.declared.action.Action.{Action}
use Rattle.pm_words.specs.declared.action.Action.TheVariants.{Store}
use Rattle.pm_words.specs.declared.machine.Turn.{Turn}
use Rattle.pm_words.specs.declared.machine.Turn.TheVariants.{Go, Done}
use Rattle.pm_words.specs.Layouts.{IsLayout}
use Rattle.call_stages.specs.Lines.{HeldLine, Notes}
use Rattle.pm_words.specs.declared.fence.Fence.{Fence}
use Rattle.smo_log.specs.declared.line.Entry.{Entry}
use Rattle.smo_log.specs.declared.state.Ready.{Ready}
use Rattle.smo_log.specs.declared.state.ReadyAt.{ReadyAt}
use Rattle.smo_log.specs.declared.state.ReadyAt.TheVariants as at
use Rattle.smo_log.specs.declared.state.Clear.{Clear}
use Rattle.pm_words.specs.Fences.{fence_start, IsFence, fence_asks, fence_next, fence_left}
use Rattle.pm_words.specs.Codes.{empty_state, ready_state}
use Rattle.pm_words.specs.Offsets.{state_offset}
use Rattle.smo_log.specs.LogLines.{numbered_address, fields, fenced, fenced_to, open_line, ready_line}

abbrev pub ready_from : Layout → ℕ → Ready
ready_from layout line = record { layout = layout; line = line; at = at.State }

abbrev pub ready_at_asks : Layout → ℕ → ReadyAt → Action
ready_at_asks l line at.State = Store (numbered_address l line state_offset) ready_state
ready_at_asks l line (at.Fence fence) = fence_asks (numbered_address l line fence.word) fence

abbrev pub ready_asks : Ready → Action
ready_asks ready = ready_at_asks ready.layout ready.line ready.at

-- it goes on there
abbrev pub readies_on : Ready → ReadyAt → Turn Ready (Unit {0})
readies_on ready at = Go (record ready { at = at })

abbrev pub ready_fenced : Ready → Option Fence → Turn Ready (Unit {0})
ready_fenced ready = fenced_to (λ fence. record ready { at = at.Fence fence }) (Done tt)

abbrev pub ready_at_turned : Ready → ReadyAt → ℕ → Turn Ready (Unit {0})
ready_at_turned ready at.State got = readies_on ready (at.Fence fence_start)
ready_at_turned ready (at.Fence fence) got = ready_fenced ready (fence_next fence got)

abbrev pub ready_turned : Ready → ℕ → Turn Ready (Unit {0})
ready_turned ready got = ready_at_turned ready ready.at got

abbrev pub IsReadyAt : ReadyAt → Type 0
IsReadyAt at.State = Unit {0}
IsReadyAt (at.Fence fence) = IsFence fence

-- what its fields keep
pub record IsReady (ready : Ready) : Type 0 where
  pub layout : IsLayout ready.layout
  pub line : ready.line < 8 * ready.layout.callers
  pub here : IsReadyAt ready.at

abbrev pub ready_takes : Ready → ℕ → Type 0
ready_takes ready got = IsReady ready × (got < 2 ^ 64)

abbrev pub ready_at_left : ReadyAt → ℕ
ready_at_left at.State = 17
ready_at_left (at.Fence fence) = fence_left fence

abbrev pub ready_left : Ready → ℕ
ready_left ready = ready_at_left ready.at

-- what the party knows, at this point, of a line that it opened so
abbrev pub ready_at_held : ℕ → Entry → ReadyAt → HeldLine
ready_at_held line entry at.State = open_line line entry
ready_at_held line entry (at.Fence fence) = fenced true line (fields entry 7) fence

abbrev pub ready_held : Entry → Ready → HeldLine
ready_held entry ready = ready_at_held ready.line entry ready.at

-- The kind of step of a turn, and that the fields are kept. At the end the line was made READY, and all that it says is
-- durable.
abbrev pub ReadyNotes : Layout → ℕ → Entry → HeldLine → Action → ℕ → Turn Ready (Unit {0}) → Type 0
ReadyNotes l line entry held action x (Go next) =
    Notes l (Some held) action x (Some (ready_held entry next)) × IsReady next × (next.layout ≡ l) × (next.line ≡ line)
ReadyNotes l line entry held action x (Done answer) = Notes l (Some held) action x (Some (ready_line line entry))

abbrev pub clear_from : Layout → ℕ → Clear
clear_from layout line = record { layout = layout; line = line }

abbrev pub clear_asks : Clear → Action
clear_asks clear = Store (numbered_address clear.layout clear.line state_offset) empty_state

abbrev pub clear_turned : Clear → ℕ → Turn Clear (Unit {0})
clear_turned clear got = Done tt

-- what its fields keep
pub record IsClear (clear : Clear) : Type 0 where
  pub layout : IsLayout clear.layout
  pub line : clear.line < 8 * clear.layout.callers

abbrev pub clear_takes : Clear → ℕ → Type 0
clear_takes clear got = IsClear clear × (got < 2 ^ 64)

abbrev pub clear_left : Clear → ℕ
clear_left clear = 1
