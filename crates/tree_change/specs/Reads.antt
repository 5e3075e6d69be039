-- Reading a cell whole, word by word, and what it is that was read.
use Rattle.std.specs.Prelude.{◌≡◌, ℕ, ◌+◌, ◌-◌, ◌^◌, ◌<◌, ◌≤◌, nat_lt, if◌then◌else◌, replicate, IsSomeAnd}
use Rattle.pm_words.specs.declared.layout.Layout.{Layout}
use Rattle.pm_words.specs.declared.action.Action.{Action}
use Rattle.pm_words.specs.declared.action.Action.TheVariants.{Load}
use Rattle.pm_words.specs.declared.machine.Turn.{Turn}
use Rattle.pm_words.specs.declared.machine.Turn.TheVariants.{Go, Done}
use Rattle.pm_words.specs.Layouts.{IsLayout}
use Rattle.pm_words.specs.Locations.{kind_words}
use Rattle.radix_nodes.specs.declared.cell.Cell as cells
use Rattle.radix_nodes.specs.Cells.{IsCell, words_of}
use Rattle.radix_nodes.specs.Changes.{stored}
use Rattle.tree_law.specs.Trees.{Cell, IsReached}
use Rattle.tree_law.specs.Words.{LayerWord, LayerWords, word_in, kind_of, tree_of, IsLawful}
use Rattle.tree_floor.specs.tree_row.specs.Rows.{layer_address}
use Rattle.tree_floor.specs.Floors.{cell_word, IsCellOf}
use Rattle.tree_change.specs.declared.read_cell.ReadCell.{ReadCell}
use Rattle.tree_change.specs.Filled.{StandsIn}
use Rattle.tree_floor.specs.Telling.{answer_in}

abbrev pub read_starts : Layout → ℕ → ReadCell
read_starts l reference = record {
  layout = l;
  reference = reference;
  cell = record { kind = kind_of reference; words = replicate 264 0 };
  offset = 0;
}

-- the word that it reads
abbrev pub read_word : ReadCell → LayerWord
read_word read = cell_word read.reference read.offset

abbrev pub read_asks : ReadCell → Action
read_asks read = Load (layer_address read.layout (read_word read))

-- how many words the cell has
abbrev pub read_all : ReadCell → ℕ
read_all read = kind_words (kind_of read.reference)

-- what was read once it is told a word
abbrev pub read_told : ReadCell → ℕ → cells.Cell
read_told read got = stored read.cell (record { offset = read.offset; value = got })

abbrev pub read_turned : ReadCell → ℕ → Turn ReadCell cells.Cell
read_turned read got =
    if nat_lt (read.offset + 1) (read_all read) then
    Go (record read { cell = read_told read got; offset = read.offset + 1 })
    else Done (read_told read got)

-- What its fields keep.
pub record IsReadCell (read : ReadCell) : Type 0 where
  pub layout : IsLayout read.layout
  pub cell : IsCellOf read.layout read.reference
  pub here : read.offset < read_all read

abbrev pub read_takes : ReadCell → ℕ → Type 0
read_takes read got = IsReadCell read × (got < 2 ^ 64)

-- how many actions it asks for from here on; from its start on as many as the largest cell has words, at most
abbrev pub read_left : ReadCell → ℕ
read_left read = read_all read - read.offset

abbrev pub read_most : ℕ
read_most = 264

-- It stays one of its cell, and reads less and less, whatever it is told.
abbrev pub ReadAfter : ReadCell → Turn ReadCell cells.Cell → Type 0
ReadAfter read (Go next) =
    IsReadCell next × (next.layout ≡ read.layout) × (next.reference ≡ read.reference) ×
    (read_left next < read_left read)
ReadAfter read (Done cell) = Unit {0}

abbrev pub ReadStays : Type 0
ReadStays = (read : ReadCell) (got : ℕ) → read_takes read got → ReadAfter read (read_turned read got)

-- The words of the cell as they stand, with zeros behind them.
pub record IsReadOf (w : LayerWords) (x : ℕ) (cell : cells.Cell) : Type 0 where
  pub stands : StandsIn w x cell
  pub behind : (o : ℕ) → kind_words cell.kind ≤ o → words_of cell o ≡ 0

-- its turn, told these words as it asks for them
abbrev pub read_turn : LayerWords → ReadCell → Turn ReadCell cells.Cell
read_turn w read = read_turned read (word_in w (read_word read))

-- So long as the words stay as they are, it answers those of its cell.
abbrev pub ReadIsExact : Type 0
ReadIsExact = (l : Layout) (x : ℕ) (w : LayerWords) (times : ℕ) → read_most < times → IsCellOf l x →
    IsSomeAnd (answer_in times (read_turn w) (read_starts l x)) (IsReadOf w x)

-- They are a cell in order where the tree reaches it.
abbrev pub ReadIsCell : Type 0
ReadIsCell = (count nodes : ℕ) (w : LayerWords) (x : ℕ) (cell : cells.Cell) → IsLawful count nodes w →
    IsReached (tree_of w) (Cell x) → IsReadOf w x cell → ((p : LayerWord) → word_in w p < 2 ^ 64) → IsCell cell
