-- The log lines of a row: in order, whichever of their words are durable. They stand beside all that is said of nodes.
use Rattle.std.specs.Prelude.{◌≡◌, ◌≢◌, ℕ, ◌<◌, ◌⊎◌, ◌&&◌, nat_lt, if◌then◌else◌, true, false, List, Option, Some}
use Rattle.std.specs.Prelude.{IfSome}
use Rattle.pm_words.specs.declared.layout.Layout.{Layout}
use Rattle.pm_words.specs.declared.action.Action.{Action}
use Rattle.pm_words.specs.Locations.{Line, Cached, Durable, at}
use Rattle.pm_words.specs.Rows.{IsRow, acted, got, evicted}
use Rattle.pm_words.specs.Locations.{image_words}
use Rattle.pm_words.specs.Codes.{ready_state, empty_state}
use Rattle.pm_words.specs.Offsets.{state_offset}
use Rattle.data_node.specs.Spots.{Spot, updated}
use Rattle.call_stages.specs.Stages.{Stage, IsAmong, Tells}
use Rattle.call_stages.specs.Lines.{HeldLine, IsEntry, IsFitLine, IsBlind, Notes}
use Rattle.index_law.specs.Laws.{Allowed}
use Rattle.index_law.specs.Twins.{IsMix}
use Rattle.index_law.specs.Worlds.{World}
use Rattle.index_law.specs.Lawful.{Lawful}

-- The words of a line, and their durable twins.
unfoldable pub line_in : Layout → List ℕ → ℕ → ℕ → Spot
line_in l words c j offset =
    if nat_lt c l.callers && (nat_lt j 8 && nat_lt offset 8) then at l words (Cached (Line c j offset)) else 0

unfoldable pub safe_line : Layout → List ℕ → ℕ → ℕ → Spot
safe_line l words c j offset =
    if nat_lt c l.callers && (nat_lt j 8 && nat_lt offset 8) then at l words (Durable (Line c j offset)) else 0

-- Each line is in order, whichever of its words are durable.
abbrev pub AreFit : Layout → List ℕ → Type 0
AreFit l words = (c j : ℕ) (mix : Spot) → IsMix (safe_line l words c j) (line_in l words c j) mix → IsFitLine l mix

-- This is the word of the line that is its party's no more: the state, once it was made READY.
pub record IsGiven (e : HeldLine) (offset : ℕ) : Type 0 where
  pub ready : e.ready ≡ true
  pub state : offset ≡ state_offset

-- The state is READY, or a turn has emptied the line.
abbrev pub WaitsOrIsEmpty : ℕ → Type 0
WaitsOrIsEmpty state = (state ≡ empty_state) ⊎ (state ≡ ready_state)

-- What holds of a line that was made READY, by its words and their durable twins.
pub record IsWaiting (l : Layout) (seen : List (ℕ × ℕ)) (now safe : Spot) : Type 0 where
  pub state : WaitsOrIsEmpty (now state_offset)
  pub entry : IsEntry l (updated now state_offset ready_state)  -- it says which change it is of,
  pub durable : (offset : ℕ) → offset ≢ state_offset → safe offset ≡ now offset  -- durably,
  pub blind : IsBlind seen  -- and its party relies on no state

-- What a call knows of its line.
pub record SureLine (l : Layout) (words : List ℕ) (e : HeldLine) : Type 0 where
  pub here : (e.caller < l.callers) × (e.number < 8)
  pub seen : Tells e.seen (line_in l words e.caller e.number)
  pub clean : (offset : ℕ) → (IsAmong e.dirty offset → ⊥) → (IsGiven e offset → ⊥) →
      safe_line l words e.caller e.number offset ≡ line_in l words e.caller e.number offset
  pub hand : IfSome e.hand (λ hand. (line_in l words e.caller e.number hand.0 ≡ hand.1) ⊎
      (IsGiven e hand.0 × (hand.1 ≡ ready_state)))
  pub unready : e.ready ≡ false → line_in l words e.caller e.number state_offset ≢ ready_state
  pub waits : e.ready ≡ true →
      IsWaiting l e.seen (line_in l words e.caller e.number) (safe_line l words e.caller e.number)

-- A step on a line keeps all lines in order, tells its call what it relies on then, and leaves the other lines, and the
-- nodes.
pub record NoteLaw (w : World) (action : Action) (e : HeldLine) (next : Option HeldLine) : Type 0 where
  pub kept : Lawful (record w { words = acted w.layout w.words action })
  pub fit : AreFit w.layout (acted w.layout w.words action)
  pub sure : IfSome next (SureLine w.layout (acted w.layout w.words action))
  pub others : (c j offset : ℕ) → c ≢ e.caller →
      (line_in w.layout (acted w.layout w.words action) c j offset ≡ line_in w.layout w.words c j offset)
      × (safe_line w.layout (acted w.layout w.words action) c j offset ≡ safe_line w.layout w.words c j offset)

abbrev pub NotesKeep : Type 0
NotesKeep = (w : World) (e : HeldLine) (action : Action) (x : ℕ) (next : Option HeldLine) → Lawful w →
    AreFit w.layout w.words → SureLine w.layout w.words e →
    Notes w.layout (Some e) action x next → x ≡ got w.layout w.words action → NoteLaw w action e next

-- What a party may do at its stage on nodes leaves all lines.
abbrev pub NodesLeaveLines : Type 0
NodesLeaveLines = (l : Layout) (words : List ℕ) (stage : Stage) (action : Action) (c j offset : ℕ) →
    Allowed l stage action →
    (line_in l (acted l words action) c j offset ≡ line_in l words c j offset) ×
    (safe_line l (acted l words action) c j offset ≡ safe_line l words c j offset)

-- And an eviction keeps them in order.
abbrev pub EvictFits : Type 0
EvictFits = (l : Layout) (words : List ℕ) (word : ℕ) → IsRow l words → word < image_words l → AreFit l words →
    AreFit l (evicted l words word)
