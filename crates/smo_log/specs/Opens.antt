-- The opening of a line, step by step.
use Rattle.std.specs.Prelude.{◌≡◌, ℕ, zero, suc, ◌+◌, ◌-◌, ◌*◌, ◌^◌, ◌<◌, ◌≤◌, nat_lt, if◌then◌else◌, false, List, []}
use Rattle.std.specs.Prelude.{◌∷◌}
use Rattle.std.specs.Prelude.{Option, Some, None}
use Rattle.pm_words.specs.declared.TheConstants.{LINE_WORDS}
use Rattle.pm_words.specs.declared.layout.Layout.{Layout}
use Rattle.pm_words.specs.declared.action.Action.{Action}
use Rattle.pm_words.specs.declared.action.Action.TheVariants.{Store}
use Rattle.pm_words.specs.declared.machine.Turn.{Turn}
use Rattle.pm_words.specs.declared.machine.Turn.TheVariants.{Go, Done}
use Rattle.pm_words.specs.Layouts.{IsLayout}
use Rattle.call_stages.specs.Lines.{HeldLine, Notes}
use Rattle.pm_words.specs.declared.fence.Fence.{Fence}
use Rattle.smo_log.specs.declared.line.Entry.{Entry}
use Rattle.smo_log.specs.declared.open.Open.{Open}
use Rattle.smo_log.specs.declared.open.OpenAt.{OpenAt}
use Rattle.smo_log.specs.declared.open.OpenAt.TheVariants as at
use Rattle.pm_words.specs.Fences.{fence_start, IsFence, fence_asks, fence_next, fence_left}
use Rattle.pm_words.specs.Codes.{open_state, empty_state}
use Rattle.pm_words.specs.Offsets.{state_offset, kind_offset}
use Rattle.smo_log.specs.LogLines.{caller_of, index_of, numbered_address, field_of, IsEntryOf, fields, settled, fenced}
use Rattle.smo_log.specs.LogLines.{open_line, fenced_to}

abbrev pub open_from : Layout → ℕ → Entry → Open
open_from layout line entry = record { layout = layout; line = line; entry = entry; at = at.Field kind_offset }

abbrev pub open_at_asks : Layout → ℕ → Entry → OpenAt → Action
open_at_asks l line entry (at.Field offset) = Store (numbered_address l line offset) (field_of entry offset)
open_at_asks l line entry (at.FenceFields fence) = fence_asks (numbered_address l line fence.word) fence
open_at_asks l line entry at.State = Store (numbered_address l line state_offset) open_state
open_at_asks l line entry (at.FenceState fence) = fence_asks (numbered_address l line fence.word) fence

abbrev pub open_asks : Open → Action
open_asks open_ = open_at_asks open_.layout open_.line open_.entry open_.at

-- it goes on there
abbrev pub opens_on : Open → OpenAt → Turn Open (Unit {0})
opens_on open_ at = Go (record open_ { at = at })

-- the fields are durable once the fence is done
abbrev pub fields_fenced : Open → Option Fence → Turn Open (Unit {0})
fields_fenced open_ = fenced_to (λ fence. record open_ { at = at.FenceFields fence }) (opens_on open_ at.State)

abbrev pub state_fenced : Open → Option Fence → Turn Open (Unit {0})
state_fenced open_ = fenced_to (λ fence. record open_ { at = at.FenceState fence }) (Done tt)

abbrev pub open_at_turned : Open → OpenAt → ℕ → Turn Open (Unit {0})
open_at_turned open_ (at.Field offset) got =
    if nat_lt (offset + 1) LINE_WORDS then opens_on open_ (at.Field (offset + 1)) else opens_on open_
    (at.FenceFields fence_start)
open_at_turned open_ (at.FenceFields fence) got = fields_fenced open_ (fence_next fence got)
open_at_turned open_ at.State got = opens_on open_ (at.FenceState fence_start)
open_at_turned open_ (at.FenceState fence) got = state_fenced open_ (fence_next fence got)

abbrev pub open_turned : Open → ℕ → Turn Open (Unit {0})
open_turned open_ got = open_at_turned open_ open_.at got

abbrev pub IsOpenAt : OpenAt → Type 0
IsOpenAt (at.Field offset) = (1 ≤ offset) × (offset < 8)
IsOpenAt (at.FenceFields fence) = IsFence fence
IsOpenAt at.State = Unit {0}
IsOpenAt (at.FenceState fence) = IsFence fence

-- what its fields keep
pub record IsOpen (open_ : Open) : Type 0 where
  pub layout : IsLayout open_.layout
  pub line : open_.line < 8 * open_.layout.callers
  pub entry : IsEntryOf open_.layout open_.entry
  pub here : IsOpenAt open_.at

abbrev pub open_takes : Open → ℕ → Type 0
open_takes open_ got = IsOpen open_ × (got < 2 ^ 64)

abbrev pub open_at_left : OpenAt → ℕ
open_at_left (at.Field offset) = (8 - offset) + 33
open_at_left (at.FenceFields fence) = fence_left fence + 17
open_at_left at.State = 17
open_at_left (at.FenceState fence) = fence_left fence

abbrev pub open_left : Open → ℕ
open_left open_ = open_at_left open_.at

-- of the words behind the state the first so many may differ from their durable twins
abbrev pub stored : ℕ → List (ℕ × ℕ)
stored zero = []
stored (suc n) = (1, suc n) ∷ []

-- the line as so many fields are stored; its state is EMPTY still
abbrev pub filled_line : ℕ → Entry → ℕ → HeldLine
filled_line line entry n =
    record {
      caller = caller_of line;
      number = index_of line;
      seen = (state_offset, empty_state) ∷ fields entry n;
      dirty = stored n;
      hand =
          None;
      ready = false;
    }

-- what the party knows of the line at this point; offset 0 is none of the fields'
abbrev pub open_at_held : ℕ → Entry → OpenAt → HeldLine
open_at_held line entry (at.Field zero) = filled_line line entry 0
open_at_held line entry (at.Field (suc n)) = filled_line line entry n
open_at_held line entry (at.FenceFields fence) = fenced false line ((state_offset, empty_state) ∷ fields entry 7) fence
open_at_held line entry at.State = settled false line ((state_offset, empty_state) ∷ fields entry 7)
open_at_held line entry (at.FenceState fence) = fenced false line ((state_offset, open_state) ∷ fields entry 7) fence

abbrev pub open_held : Open → HeldLine
open_held open_ = open_at_held open_.line open_.entry open_.at

-- The kind of step of a turn, and that the fields are kept. At the end the line is OPEN, and all that it says is
-- durable.
abbrev pub OpenNotes : Layout → ℕ → Entry → HeldLine → Action → ℕ → Turn Open (Unit {0}) → Type 0
OpenNotes l line entry held action x (Go next) =
    Notes l (Some held) action x (Some (open_held next)) × IsOpen next × (next.layout ≡ l) × (next.line ≡ line) ×
    (next.entry ≡ entry)
OpenNotes l line entry held action x (Done answer) = Notes l (Some held) action x (Some (open_line line entry))
