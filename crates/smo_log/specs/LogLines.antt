-- Log lines by their numbers, and what they say.
use Rattle.std.specs.Prelude.{◌≡◌, ℕ, ◌+◌, zero, suc, ◌-◌, ◌/◌, ◌%◌, ◌<◌, ◌≤◌, ◌==◌, ◌⊎◌, if◌then◌else◌, Bool, true, false}
use Rattle.std.specs.Prelude.{List, [], ◌∷◌}
use Rattle.std.specs.Prelude.{slice_index, Option, Some, None}
use Rattle.pm_words.specs.declared.layout.Layout.{Layout}
use Rattle.cat_key.specs.Names.{IsName, words_of}
use Rattle.call_stages.specs.Lines.{HeldLine, line_address}
use Rattle.smo_log.specs.declared.line.Entry.{Entry}
use Rattle.pm_words.specs.declared.fence.Fence.{Fence}
use Rattle.pm_words.specs.declared.machine.Turn.{Turn}
use Rattle.pm_words.specs.declared.machine.Turn.TheVariants.{Go}
use Rattle.pm_words.specs.Fences.{hand_of}
use Rattle.pm_words.specs.Codes.{merge_kind, split_kind, empty_state, open_state}
use Rattle.pm_words.specs.Offsets.{anchor_offset, state_offset, kind_offset, line_node_offset, left_offset}

-- The caller of a line, and which of the caller's lines it is.
abbrev pub caller_of : ℕ → ℕ
caller_of line = line / 8

abbrev pub index_of : ℕ → ℕ
index_of line = line % 8

abbrev pub numbered_address : Layout → ℕ → ℕ → ℕ
numbered_address l line offset = line_address l (caller_of line) (index_of line) offset

-- The word that is to stand at this offset behind the state.
abbrev pub field_of : Entry → ℕ → ℕ
field_of entry offset =
    if offset == kind_offset then entry.kind
    else (if offset == line_node_offset then entry.node
    else (if offset == anchor_offset then slice_index entry.anchor 0
    else (if offset == anchor_offset + 1 then slice_index entry.anchor 1
    else (if offset == anchor_offset + 2 then slice_index entry.anchor 2
    else (if offset == left_offset then entry.left else 0)))))

-- A split or a merge of two nodes, with a name as the anchor of the new or the merged one.
pub record IsEntryOf (l : Layout) (entry : Entry) : Type 0 where
  pub kind : (entry.kind ≡ split_kind) ⊎ (entry.kind ≡ merge_kind)
  pub node : (1 ≤ entry.node) × (entry.node < l.nodes)
  pub name : List ℕ
  pub is_name : IsName name
  pub anchor : slice_index entry.anchor 0 ∷ slice_index entry.anchor 1 ∷ slice_index entry.anchor 2 ∷ [] ≡ words_of name
  pub left : entry.left < l.nodes

-- The first so many words behind the state, by offset.
abbrev pub fields : Entry → ℕ → List (ℕ × ℕ)
fields entry zero = []
fields entry (suc n) = (suc n, field_of entry (suc n)) ∷ fields entry n

-- What a party knows of a line that it has, all of which is durable, and which it may have made READY.
abbrev pub settled : Bool → ℕ → List (ℕ × ℕ) → HeldLine
settled ready line seen = record {
  caller = caller_of line;
  number = index_of line;
  seen = seen;
  dirty = [];
  hand = None;
  ready = ready;
}

-- And of one that it makes durable.
abbrev pub fenced : Bool → ℕ → List (ℕ × ℕ) → Fence → HeldLine
fenced ready line seen fence =
    record {
      caller = caller_of line;
      number = index_of line;
      seen = seen;
      dirty = (fence.word, 8 - fence.word) ∷ [];
      hand = hand_of fence.word fence.at;
      ready = ready;
    }

-- What it knows of a line that it has just taken: it is EMPTY; of one that it opened: it is OPEN, and says this; and of
-- one that it made READY: it says this, whatever its state is by now.
abbrev pub empty_line : ℕ → HeldLine
empty_line line = settled false line ((state_offset, empty_state) ∷ [])

abbrev pub open_line : ℕ → Entry → HeldLine
open_line line entry = settled false line ((state_offset, open_state) ∷ fields entry 7)

abbrev pub ready_line : ℕ → Entry → HeldLine
ready_line line entry = settled true line (fields entry 7)

-- After a turn of a fence it goes on with that, or so, where it is done.
abbrev pub fenced_to : {M A : Type 0} → (Fence → M) → Turn M A → Option Fence → Turn M A
fenced_to goes done (Some fence) = Go (goes fence)
fenced_to goes done None = done
