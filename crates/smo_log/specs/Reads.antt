-- The read of a line, step by step.
use Rattle.std.specs.Prelude.{◌≡◌, ℕ, ◌+◌, ◌-◌, ◌*◌, ◌^◌, ◌<◌, nat_lt, if◌then◌else◌, List, [], ◌∷◌, slice_index}
use Rattle.std.specs.Prelude.{slice_set, length, None}
use Rattle.pm_words.specs.declared.layout.Layout.{Layout}
use Rattle.pm_words.specs.declared.action.Action.{Action}
use Rattle.pm_words.specs.declared.action.Action.TheVariants.{Load}
use Rattle.pm_words.specs.declared.machine.Turn.{Turn}
use Rattle.pm_words.specs.declared.machine.Turn.TheVariants.{Go, Done}
use Rattle.pm_words.specs.Layouts.{IsLayout}
use Rattle.pm_words.specs.Offsets.{state_offset, kind_offset, line_node_offset, left_offset}
use Rattle.call_stages.specs.data_node.specs.Lists.{anchor_words}
use Rattle.call_stages.specs.Lines.{Notes}
use Rattle.smo_log.specs.declared.read.LineSeen.{LineSeen}
use Rattle.smo_log.specs.declared.read.ReadLine.{ReadLine}
use Rattle.smo_log.specs.LogLines.{numbered_address}

abbrev pub read_from : Layout → ℕ → ReadLine
read_from layout line = record { layout = layout; line = line; offset = 0; words = 0 ∷ 0 ∷ 0 ∷ 0 ∷ 0 ∷ 0 ∷ 0 ∷ [] }

abbrev pub read_asks : ReadLine → Action
read_asks read = Load (numbered_address read.layout read.line read.offset)

-- what these words say
abbrev pub seen_in : List ℕ → LineSeen
seen_in words = record {
  state = slice_index words state_offset;
  entry = record {
    kind = slice_index words kind_offset;
    node = slice_index words line_node_offset;
    anchor = anchor_words (slice_index words);
    left = slice_index words left_offset;
  };
}

abbrev pub read_turned : ReadLine → ℕ → Turn ReadLine LineSeen
read_turned read got =
    if nat_lt (read.offset + 1) 7 then Go (record read {
      offset = read.offset + 1;
      words =
          slice_set read.words read.offset got;
    })
    else Done (seen_in (slice_set read.words read.offset got))

-- what its fields keep
pub record IsRead (read : ReadLine) : Type 0 where
  pub layout : IsLayout read.layout
  pub line : read.line < 8 * read.layout.callers
  pub offset : read.offset < 7

abbrev pub read_takes : ReadLine → ℕ → Type 0
read_takes read got = IsRead read × (got < 2 ^ 64)

abbrev pub read_left : ReadLine → ℕ
read_left read = 7 - read.offset

-- The kind of step of a turn: nothing is relied on.
abbrev pub ReadNotes : Layout → ℕ → Action → ℕ → Turn ReadLine LineSeen → Type 0
ReadNotes l line action x (Go next) = Notes l None action x None × IsRead next × (next.layout ≡ l) × (next.line ≡ line)
ReadNotes l line action x (Done seen) = Notes l None action x None

-- The words before this one are as they were loaded.
pub record HasRead (told : ℕ → ℕ) (words : List ℕ) (most : ℕ) : Type 0 where
  pub size : length words ≡ 7
  pub same : (offset : ℕ) → offset < most → slice_index words offset ≡ told offset

-- The line as it was loaded, word by word.
pub record IsSeen (told : ℕ → ℕ) (seen : LineSeen) : Type 0 where
  pub state : seen.state ≡ told state_offset
  pub kind : seen.entry.kind ≡ told kind_offset
  pub node : seen.entry.node ≡ told line_node_offset
  pub anchor : seen.entry.anchor ≡ anchor_words told
  pub left : seen.entry.left ≡ told left_offset

abbrev pub ReadsOn : (ℕ → ℕ) → Turn ReadLine LineSeen → Type 0
ReadsOn told (Go read) = HasRead told read.words read.offset
ReadsOn told (Done seen) = IsSeen told seen
