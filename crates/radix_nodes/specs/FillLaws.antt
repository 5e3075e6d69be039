-- What stands of a part while it is filled, in the cached and in the durable words.
use Rattle.std.specs.Prelude.{◌≡◌, ℕ, ◌+◌, ◌*◌, ◌<◌, ◌⊎◌, List, slice_index}
use Rattle.pm_words.specs.declared.layout.Layout.{Layout}
use Rattle.pm_words.specs.declared.action.Action.{Action}
use Rattle.pm_words.specs.declared.machine.Turn.{Turn}
use Rattle.pm_words.specs.declared.machine.Turn.TheVariants.{Go, Done}
use Rattle.pm_words.specs.declared.fence.FenceAt.{FenceAt}
use Rattle.pm_words.specs.declared.fence.FenceAt.TheVariants as fence_at
use Rattle.pm_words.specs.Locations.{Word, Leaf, Cell, Cached, Durable, at}
use Rattle.pm_words.specs.Rows.{IsRow, CanAct, acted, got}
use Rattle.radix_nodes.specs.declared.filling.Filling.{Filling}
use Rattle.radix_nodes.specs.declared.filling.Filling.TheVariants.{Store, Drain}
use Rattle.radix_nodes.specs.declared.fill_leaf.FillLeaf.{FillLeaf}
use Rattle.radix_nodes.specs.declared.fill_cell.FillCell.{FillCell}
use Rattle.radix_nodes.specs.Cells.{words_of}
use Rattle.radix_nodes.specs.Fills.{leaf_value, lines_of, IsFilling, filling_start, IsFillLeaf, fill_leaf_asks}
use Rattle.radix_nodes.specs.Fills.{fill_leaf_turned}
use Rattle.radix_nodes.specs.Fills.{IsFillCell, fill_cell_asks, fill_cell_turned}

-- A leaf or a cell: how many lines it has, its words by their offsets, and what is to stand there.
pub record Part : Type 0 where
  pub lines : ℕ
  pub word : ℕ → Word
  pub value : ℕ → ℕ

abbrev pub leaf_part : FillLeaf → Part
leaf_part m = record { lines = 1; word = λ o. Leaf m.number o; value = λ o. leaf_value (slice_index m.key) m.node o }

abbrev pub cell_part : FillCell → Part
cell_part m = record {
  lines = lines_of m.cell.kind;
  word = λ o. Cell m.cell.kind m.number o;
  value = λ o. words_of m.cell o;
}

-- the cached twin of a word is as asked for, and so is the durable one
abbrev pub Stands : Layout → List ℕ → Part → ℕ → Type 0
Stands l words part o = at l words (Cached (part.word o)) ≡ part.value o

abbrev pub IsDurable : Layout → List ℕ → Part → ℕ → Type 0
IsDurable l words part o = at l words (Durable (part.word o)) ≡ part.value o

-- so many first words have been stored, so many are durable, and the word in hand is as asked for
abbrev pub stored_to : Part → Filling → ℕ
stored_to part (Store offset) = offset
stored_to part (Drain line fence) = 8 * part.lines

abbrev pub durable_to : Filling → ℕ
durable_to (Store offset) = 0
durable_to (Drain line fence) = 8 * line + fence.word

abbrev pub IsHand : FenceAt → ℕ → Type 0
IsHand fence_at.Load value = Unit {0}
IsHand (fence_at.Drain hand) value = hand ≡ value

abbrev pub IsInHand : Part → Filling → Type 0
IsInHand part (Store offset) = Unit {0}
IsInHand part (Drain line fence) = IsHand fence.at (part.value (8 * line + fence.word))

pub record IsFilledTo (l : Layout) (part : Part) (filling : Filling) (words : List ℕ) : Type 0 where
  pub stands : (o : ℕ) → o < stored_to part filling → Stands l words part o
  pub durable : (o : ℕ) → o < durable_to filling → IsDurable l words part o
  pub hand : IsInHand part filling

-- both twins of all its words are as asked for
pub record IsFilled (l : Layout) (part : Part) (words : List ℕ) : Type 0 where
  pub stands : (o : ℕ) → o < 8 * part.lines → Stands l words part o
  pub durable : (o : ℕ) → o < 8 * part.lines → IsDurable l words part o

-- A filling begins on any words.
abbrev pub FillsBegin : Type 0
FillsBegin = (l : Layout) (part : Part) (words : List ℕ) → IsFilledTo l part filling_start words

-- Whatever others do, as long as the cached twins stay and a durable one at most becomes the cached one: evictions, and
-- steps on words elsewhere.
pub record AreBeside (l : Layout) (part : Part) (words words' : List ℕ) : Type 0 where
  pub cached : (o : ℕ) → o < 8 * part.lines →
      at l words' (Cached (part.word o)) ≡ at l words (Cached (part.word o))
  pub durable : (o : ℕ) → o < 8 * part.lines →
      (at l words' (Durable (part.word o)) ≡ at l words (Durable (part.word o))) ⊎
      (at l words' (Durable (part.word o)) ≡ at l words (Cached (part.word o)))

abbrev pub FillsStay : Type 0
FillsStay = (l : Layout) (part : Part) (filling : Filling) (words words' : List ℕ) →
    IsFilling part.lines filling → AreBeside l part words words' → IsFilledTo l part filling words →
    IsFilledTo l part filling words'

-- Each step of a machine can be made, and leaves the part filled further; after the last one it is filled: both twins
-- of each of its words are as asked for. Of a machine count what its fields keep, and how far its filling is.
abbrev pub FillAfter : {M : Type 0} → (M → Type 0) → (M → Filling) → Layout → Part → Turn M (Unit {0}) → List ℕ →
    Type 0
FillAfter Fits far l part (Go m) words = Fits m × IsFilledTo l part (far m) words
FillAfter Fits far l part (Done answer) words = IsFilled l part words

pub record FillStep {M : Type 0} (Fits : M → Type 0) (far : M → Filling) (l : Layout) (part : Part) (asked : Action)
    (turned : ℕ → Turn M (Unit {0})) (words : List ℕ) : Type 0 where
  pub can : CanAct l words asked
  pub after : FillAfter Fits far l part (turned (got l words asked)) (acted l words asked)

abbrev pub LeavesAreFilled : Type 0
LeavesAreFilled = (m : FillLeaf) (words : List ℕ) → IsFillLeaf m → IsRow m.layout words →
    IsFilledTo m.layout (leaf_part m) m.at words →
    FillStep IsFillLeaf (λ leaf. leaf.at) m.layout (leaf_part m) (fill_leaf_asks m) (fill_leaf_turned m) words

abbrev pub CellsAreFilled : Type 0
CellsAreFilled = (m : FillCell) (words : List ℕ) → IsFillCell m → IsRow m.layout words →
    IsFilledTo m.layout (cell_part m) m.at words →
    FillStep IsFillCell (λ cell. cell.at) m.layout (cell_part m) (fill_cell_asks m) (fill_cell_turned m) words
