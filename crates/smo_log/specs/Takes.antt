-- The look for an EMPTY line, step by step.
use Rattle.std.specs.Prelude.{◌≡◌, ℕ, ◌+◌, ◌-◌, ◌*◌, ◌^◌, ◌<◌, ◌==◌, nat_lt, if◌then◌else◌, false, [], ◌∷◌, Option}
use Rattle.std.specs.Prelude.{Some, None}
use Rattle.pm_words.specs.declared.TheConstants.{LOG_LINES}
use Rattle.pm_words.specs.declared.layout.Layout.{Layout}
use Rattle.pm_words.specs.declared.action.Action.{Action}
use Rattle.pm_words.specs.declared.action.Action.TheVariants.{Load}
use Rattle.pm_words.specs.declared.machine.Turn.{Turn}
use Rattle.pm_words.specs.declared.machine.Turn.TheVariants.{Go, Done}
use Rattle.pm_words.specs.Layouts.{IsLayout}
use Rattle.call_stages.specs.Lines.{HeldLine, Notes}
use Rattle.pm_words.specs.declared.fence.Fence.{Fence}
use Rattle.smo_log.specs.declared.take.Taken.{Taken}
use Rattle.smo_log.specs.declared.take.Taken.TheVariants.{Line, Full}
use Rattle.smo_log.specs.declared.take.Take.{Take}
use Rattle.smo_log.specs.declared.take.TakeAt.{TakeAt}
use Rattle.smo_log.specs.declared.take.TakeAt.TheVariants as at
use Rattle.pm_words.specs.Fences.{fence_start, IsFence, fence_asks, fence_next, fence_left}
use Rattle.pm_words.specs.Codes.{empty_state}
use Rattle.pm_words.specs.Offsets.{state_offset}
use Rattle.smo_log.specs.LogLines.{caller_of, numbered_address, fenced, fenced_to, empty_line}

abbrev pub take_from : Layout → ℕ → Take
take_from layout caller = record { layout = layout; caller = caller; index = 0; at = at.State }

-- the number of the line that it is at
abbrev pub take_line : Take → ℕ
take_line take = LOG_LINES * take.caller + take.index

abbrev pub take_at_asks : Layout → ℕ → TakeAt → Action
take_at_asks l line at.State = Load (numbered_address l line state_offset)
take_at_asks l line (at.Fence fence) = fence_asks (numbered_address l line fence.word) fence

abbrev pub take_asks : Take → Action
take_asks take = take_at_asks take.layout (take_line take) take.at

-- it goes on there
abbrev pub takes_on : Take → TakeAt → Turn Take Taken
takes_on take at = Go (record take { at = at })

abbrev pub saw_state : Take → ℕ → Turn Take Taken
saw_state take state =
    if state == empty_state then takes_on take (at.Fence fence_start)
    else (if nat_lt (take.index + 1) LOG_LINES then Go (record take { index = take.index + 1 }) else Done Full)

abbrev pub take_fenced : Take → Option Fence → Turn Take Taken
take_fenced take = fenced_to (λ fence. record take { at = at.Fence fence }) (Done (Line (take_line take)))

abbrev pub take_at_turned : Take → TakeAt → ℕ → Turn Take Taken
take_at_turned take at.State got = saw_state take got
take_at_turned take (at.Fence fence) got = take_fenced take (fence_next fence got)

abbrev pub take_turned : Take → ℕ → Turn Take Taken
take_turned take got = take_at_turned take take.at got

abbrev pub IsTakeAt : TakeAt → Type 0
IsTakeAt at.State = Unit {0}
IsTakeAt (at.Fence fence) = IsFence fence

-- what its fields keep
pub record IsTake (take : Take) : Type 0 where
  pub layout : IsLayout take.layout
  pub caller : take.caller < take.layout.callers
  pub index : take.index < 8
  pub here : IsTakeAt take.at

-- a load may give any word
abbrev pub take_takes : Take → ℕ → Type 0
take_takes take got = IsTake take × (got < 2 ^ 64)

abbrev pub take_at_left : TakeAt → ℕ
take_at_left at.State = 17
take_at_left (at.Fence fence) = fence_left fence

abbrev pub take_left : Take → ℕ
take_left take = (8 - take.index) + take_at_left take.at

-- the line that it has at this point
abbrev pub take_at_held : ℕ → TakeAt → Option HeldLine
take_at_held line at.State = None
take_at_held line (at.Fence fence) = Some (fenced false line ((state_offset, empty_state) ∷ []) fence)

abbrev pub take_held : Take → Option HeldLine
take_held take = take_at_held (take_line take) take.at

-- The kind of step of a turn, and that the fields are kept. Nothing is relied on of a line that isn't EMPTY. The line
-- that is taken is one of the caller's, and its EMPTY state is durable.
abbrev pub TakeNotes : Layout → ℕ → Option HeldLine → Action → ℕ → Turn Take Taken → Type 0
TakeNotes l c held action x (Go take) = Notes l held action x (take_held take) × IsTake take × (take.layout ≡ l) ×
    (take.caller ≡ c)
TakeNotes l c held action x (Done (Line line)) = Notes l held action x (Some (empty_line line)) × (caller_of line ≡ c) ×
    (line < 8 * l.callers)
TakeNotes l c held action x (Done Full) = Notes l held action x None
