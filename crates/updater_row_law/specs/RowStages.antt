-- Where a turn on a row of words is, and the words that it has loaded.
use Rattle.std.specs.Prelude.{ℕ, zero, suc, ◌+◌, ◌==◌, ◌&&◌, nat_lt, Bool, true, if◌then◌else◌, List}
use Rattle.std.specs.Prelude.{slice_index}
use Rattle.pm_words.specs.Codes.{merge_kind}
use Rattle.pm_words.specs.Offsets.{kind_offset, line_node_offset}
use Rattle.call_stages.specs.data_node.specs.Lists.{anchor_words}
use Rattle.layer_map.specs.Keys.{key_number}
use Rattle.layer_map.specs.Layers.{node_of}
use Rattle.search_layer.specs.tree_update.specs.Stages.{Aim}
use Rattle.search_layer.specs.ChangeStages.{Changing}
use Rattle.updater_law.specs.TurnStages.{ReadyLine, TurnStage}
use Rattle.updater_law.specs.TurnStages as turns
use Rattle.updater_row_law.specs.Columns.{RowTerms, line_count}

-- A ready line as its words were read.
pub record RowLine : Type 0 where
  pub line : ℕ
  pub kind : ℕ
  pub node : ℕ
  pub anchor : List ℕ

-- these are the words of line j, from its state on
abbrev pub line_read : ℕ → List ℕ → RowLine
line_read j seen = record {
  line = j;
  kind = slice_index seen kind_offset;
  node = slice_index seen line_node_offset;
  anchor = anchor_words (slice_index seen);
}

abbrev pub entry_of : RowLine → ReadyLine
entry_of e = record { line = e.line; kind = e.kind; node = e.node; anchor = key_number e.anchor }

-- The node to which a walk led, the version word that the walk loaded first, and the words of the node's anchor.
pub record RowTarget : Type 0 where
  pub node : ℕ
  pub version : ℕ
  pub low : List ℕ

-- the same three words
abbrev pub are_same : List ℕ → List ℕ → Bool
are_same one other =
    slice_index one 0 == slice_index other 0 && (slice_index one 1 == slice_index other 1 && slice_index one 2 ==
    slice_index other 2)

-- the node word to which the anchor is to lead: that of the target, or 0 where the target has another anchor
abbrev pub word_at : List ℕ → RowTarget → ℕ
word_at anchor target = if are_same target.low anchor then target.node + 1 else 0

abbrev pub aim_of : RowLine → ℕ → Aim
aim_of e word = record { key = e.anchor; word = word }

pub data RowStage : Type 0 where
  -- it hasn't the updater lock
  Resting : RowStage
  -- from here on it has the lock; it comes to this line
  Between : ℕ → RowStage
  -- it has loaded so many words of this line, whose state is ready
  Reads : ℕ → ℕ → List ℕ → RowStage
  -- it has read the line, and looks for its anchor's target; then it has the target
  Lands : RowLine → RowStage
  HasTarget : RowLine → RowTarget → RowStage
  -- it makes the layer lead the line's anchor to this node word
  Changes : RowLine → ℕ → Changing → RowStage
  -- it is to stamp the node of a merge, and to empty the line
  Stamps : RowLine → RowStage
  Clears : ℕ → RowStage
  -- it comes to this node, and has loaded its status, its stamp, its version; then it has taken the stamp away
  Sweeps : ℕ → RowStage
  Gone : ℕ → RowStage
  HasStamp : ℕ → RowStage
  IsUnworn : ℕ → RowStage
  Frees : ℕ → RowStage
  -- it looks once more whether a node is free, comes to this one, and has seen none, or one
  Counts : ℕ → Bool → RowStage

-- behind a line: the next one, or the first node
abbrev pub after_line : RowTerms → ℕ → RowStage
after_line r j = if nat_lt (j + 1) (line_count r.layout) then Between (j + 1) else Sweeps 0

-- behind a node: the next one, or the first once more
abbrev pub after_node : RowTerms → ℕ → RowStage
after_node r n = if nat_lt (n + 1) r.layout.nodes then Sweeps (n + 1) else Counts 0 true

-- once the layer is changed
abbrev pub after_change : RowLine → RowStage
after_change e = if e.kind == merge_kind then Stamps e else Clears e.line

-- What the law of turns knows of a stage.

abbrev pub reading_stage : ℕ → ℕ → List ℕ → TurnStage
reading_stage j zero seen = turns.Sees j
reading_stage j (suc zero) seen = turns.Sees j
reading_stage j (suc (suc zero)) seen = turns.SeesKind j (slice_index seen kind_offset)
reading_stage j (suc (suc (suc more))) seen =
    turns.SeesNode j (slice_index seen kind_offset) (slice_index seen line_node_offset)

abbrev pub turn_stage : RowStage → TurnStage
turn_stage Resting = turns.Resting
turn_stage (Between j) = turns.Between j
turn_stage (Reads j offset seen) = reading_stage j offset seen
turn_stage (Lands e) = turns.Lands (entry_of e)
turn_stage (HasTarget e target) = turns.Lands (entry_of e)
turn_stage (Changes e word s) = turns.Changes (entry_of e) (node_of word)
turn_stage (Stamps e) = turns.Stamps (entry_of e)
turn_stage (Clears j) = turns.Clears j
turn_stage (Sweeps n) = turns.Sweeps n
turn_stage (Gone n) = turns.Gone n
turn_stage (HasStamp n) = turns.HasStamp n
turn_stage (IsUnworn n) = turns.IsUnworn n
turn_stage (Frees n) = turns.Frees n
turn_stage (Counts n none) = turns.Counts n none
