-- What the actions of a change make of the marks of a row.
use Rattle.std.specs.Prelude.{◌≡◌, ℕ, List, length}
use Rattle.pm_words.specs.declared.layout.Layout.{Layout}
use Rattle.pm_words.specs.declared.action.Action.{Action}
use Rattle.pm_words.specs.Locations.{row_words}
use Rattle.pm_words.specs.Rows.{acted}
use Rattle.radix_nodes.specs.declared.fill_leaf.FillLeaf.{FillLeaf}
use Rattle.radix_nodes.specs.declared.fill_cell.FillCell.{FillCell}
use Rattle.radix_nodes.specs.Fills.{IsFillLeaf, fill_leaf_asks, IsFillCell, fill_cell_asks}
use Rattle.tree_law.specs.Words.{reference_of, part_reference}
use Rattle.tree_law.specs.Stages.{Marks}
use Rattle.tree_law.specs.Marking.{IsMarkSet}
use Rattle.tree_floor.specs.tree_row.specs.RowMarks.{row_marks}
use Rattle.tree_change.specs.declared.take.Take.{Take}
use Rattle.tree_change.specs.declared.take.TakeAt.{TakeAt}
use Rattle.tree_change.specs.declared.take.TakeAt.TheVariants as take_at
use Rattle.tree_change.specs.Takes.{IsTake, take_asks, part_of}
use Rattle.tree_change.specs.declared.finish.Finish.{Finish}
use Rattle.tree_change.specs.declared.finish.FinishAt.{FinishAt}
use Rattle.tree_change.specs.declared.finish.FinishAt.TheVariants as finish_at
use Rattle.tree_change.specs.Finishes.{IsFinish, finish_asks}

-- A take leaves them until it sets the mark of what it takes.
abbrev pub TakeMakes : ℕ → TakeAt → Marks → Marks → Type 0
TakeMakes kind (take_at.Seek number) m m' = m' ≡ m
TakeMakes kind (take_at.Mark number) m m' = IsMarkSet m m' (part_reference (part_of kind number)) 1

abbrev pub TakeMakesMarks : Type 0
TakeMakesMarks = (take : Take) (words : List ℕ) → IsTake take → length words ≡ row_words take.layout →
    TakeMakes take.kind take.at (row_marks take.layout words)
    (row_marks take.layout (acted take.layout words (take_asks take)))

-- A finish leaves them until it takes away the marks of what is free.
abbrev pub FinishMakes : FinishAt → Marks → Marks → Type 0
FinishMakes finish_at.Quiet m m' = m' ≡ m
FinishMakes (finish_at.QuietFence fence) m m' = m' ≡ m
FinishMakes finish_at.Switch m m' = m' ≡ m
FinishMakes (finish_at.SwitchFence fence) m m' = m' ≡ m
FinishMakes (finish_at.Unmark reference) m m' = IsMarkSet m m' (reference_of reference) 0

abbrev pub FinishMakesMarks : Type 0
FinishMakesMarks = (f : Finish) (words : List ℕ) → IsFinish f → length words ≡ row_words f.layout →
    FinishMakes f.at (row_marks f.layout words) (row_marks f.layout (acted f.layout words (finish_asks f)))

-- A filling leaves them.
abbrev pub LeavesMarks : Layout → List ℕ → Action → Type 0
LeavesMarks l words a = row_marks l (acted l words a) ≡ row_marks l words

abbrev pub LeafLeavesMarks : Type 0
LeafLeavesMarks = (m : FillLeaf) (words : List ℕ) → IsFillLeaf m → length words ≡ row_words m.layout →
    LeavesMarks m.layout words (fill_leaf_asks m)

abbrev pub CellLeavesMarks : Type 0
CellLeavesMarks = (m : FillCell) (words : List ℕ) → IsFillCell m → length words ≡ row_words m.layout →
    LeavesMarks m.layout words (fill_cell_asks m)
