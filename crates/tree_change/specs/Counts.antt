-- Counting the other children of a cell, word by word.
use Rattle.std.specs.Prelude.{◌≡◌, ℕ, ◌^◌, ◌<◌, IsSomeAnd}
use Rattle.pm_words.specs.declared.layout.Layout.{Layout}
use Rattle.pm_words.specs.declared.action.Action.{Action}
use Rattle.pm_words.specs.declared.action.Action.TheVariants.{Load}
use Rattle.pm_words.specs.declared.machine.Turn.{Turn}
use Rattle.pm_words.specs.declared.machine.Turn.TheVariants.{Go, Done}
use Rattle.pm_words.specs.Layouts.{IsLayout}
use Rattle.radix_nodes.specs.Cells.{IsForm}
use Rattle.tree_law.specs.Words.{LayerWord, LayerWords, word_in, kind_of, cell_in}
use Rattle.tree_floor.specs.tree_row.specs.Rows.{layer_address}
use Rattle.tree_floor.specs.Floors.{cell_word, IsCellOf}
use Rattle.tree_change.specs.declared.others.Others.{Others}
use Rattle.tree_change.specs.declared.others.Counted.{Counted}
use Rattle.tree_change.specs.declared.count.Count.{Count}
use Rattle.tree_change.specs.Others.{others_starts, others_offset, others_turned, others_left, others_most, IsOthers}
use Rattle.tree_change.specs.Others.{IsCounted}
use Rattle.tree_floor.specs.Telling.{answer_in}

abbrev pub count_starts : Layout → ℕ → ℕ → Count
count_starts l cell byte = record { layout = l; cell = cell; byte = byte; others = others_starts }

-- the word that it reads
abbrev pub count_word : Count → LayerWord
count_word count = cell_word count.cell (others_offset (kind_of count.cell) count.others)

abbrev pub count_asks : Count → Action
count_asks count = Load (layer_address count.layout (count_word count))

abbrev pub count_goes : Count → Turn Others Counted → Turn Count Counted
count_goes count (Go others) = Go (record count { others = others })
count_goes count (Done counted) = Done counted

abbrev pub count_turned : Count → ℕ → Turn Count Counted
count_turned count got = count_goes count (others_turned (kind_of count.cell) count.byte count.others got)

-- What its fields keep.
pub record IsCount (count : Count) : Type 0 where
  pub layout : IsLayout count.layout
  pub cell : IsCellOf count.layout count.cell
  pub byte : count.byte < 256
  pub here : IsOthers (kind_of count.cell) count.others

abbrev pub count_takes : Count → ℕ → Type 0
count_takes count got = IsCount count × (got < 2 ^ 64)

abbrev pub count_left : Count → ℕ
count_left count = others_left (kind_of count.cell) count.others

-- It stays one of its cell and byte, and reads less and less, whatever it is told.
abbrev pub CountAfter : Count → Turn Count Counted → Type 0
CountAfter count (Go next) =
    IsCount next × (next.layout ≡ count.layout) × (next.cell ≡ count.cell) × (next.byte ≡ count.byte) ×
    (count_left next < count_left count)
CountAfter count (Done counted) = Unit {0}

abbrev pub CountStays : Type 0
CountStays = (count : Count) (got : ℕ) → count_takes count got → CountAfter count (count_turned count got)

-- its turn, told these words as it asks for them
abbrev pub count_turn : LayerWords → Count → Turn Count Counted
count_turn w count = count_turned count (word_in w (count_word count))

-- So long as the words stay as they are, it tells of a cell of its form exactly whether there are two others, or which
-- one there is, or none.
abbrev pub CountIsExact : Type 0
CountIsExact = (l : Layout) (cell byte : ℕ) (w : LayerWords) (times : ℕ) → others_most < times → IsCellOf l cell →
    byte < 256 → IsForm (kind_of cell) (cell_in w cell) →
    IsSomeAnd (answer_in times (count_turn w) (count_starts l cell byte))
    (IsCounted (kind_of cell) (cell_in w cell) byte)
