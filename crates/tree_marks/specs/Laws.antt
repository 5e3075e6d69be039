-- What marking makes of a row that is made of an image.
use Rattle.std.specs.Prelude.{◌≡◌, ℕ, ◌<◌, ◌⊎◌, List}
use Rattle.pm_words.specs.declared.layout.Layout.{Layout}
use Rattle.pm_words.specs.Locations.{Location, HasLocation, Cached, leaf_count, at}
use Rattle.pm_words.specs.Images.{IsImage}
use Rattle.pm_words.specs.Rows.{durable_row, row_of}
use Rattle.tree_law.specs.Trees.{Reference, IsReached, IsTree}
use Rattle.tree_law.specs.Words.{IsLawful, tree_of}
use Rattle.tree_law.specs.Marking.{MayHaveMark, kind_in, number_in}
use Rattle.tree_row.specs.Rows.{image_layer, layer_words}
use Rattle.tree_row.specs.RowMarks.{row_marks, IsNoMark}
use Rattle.tree_update.specs.Runs.{IsAtRest}
use Rattle.tree_marks.specs.Marked.{row_tree, row_room, MarksFrom, AreMarked}

-- The row is made of an image whose tree is in order, and then the marks of all that its root leads to were set.
pub record IsMarked (l : Layout) (image after : List ℕ) : Type 0 where
  pub is : IsImage l image
  pub lawful : IsLawful (leaf_count l) l.nodes (image_layer l image)
  pub marks : MarksFrom l (row_of l image) (row_tree l (row_of l image)).root after
  pub all : AreMarked l (row_of l image) (row_tree l (row_of l image)).root after

-- So it is where the walk was made that `mark_tree` tells of.
abbrev pub MarkedByWalk : Type 0
MarkedByWalk = (l : Layout) (image after : List ℕ) → IsImage l image →
    IsLawful (leaf_count l) l.nodes (image_layer l image) →
    MarksFrom l (row_of l image) (row_tree l (row_of l image)).root after →
    (IsTree (row_room l) (row_tree l (row_of l image)) →
    AreMarked l (row_of l image) (row_tree l (row_of l image)).root after) → IsMarked l image after

-- Then the layer is that of the image and at rest: in order and durable, with the marks telling what is reached.
abbrev pub MarkedIsAtRest : Type 0
MarkedIsAtRest = (l : Layout) (image after : List ℕ) → IsMarked l image after →
    IsAtRest l after × (layer_words l after Cached ≡ image_layer l image)

-- A leaf or a cell has the mark 1 where the root leads to it, and 0 where it doesn't. So what a change had filled
-- before it was cut off is free again.
abbrev pub IsToldOf : Layout → List ℕ → List ℕ → Reference → Type 0
IsToldOf l image after q =
    (IsReached (tree_of (image_layer l image)) q × (row_marks l after (kind_in q) (number_in q) ≡ 1)) ⊎
    ((IsReached (tree_of (image_layer l image)) q → ⊥) × (row_marks l after (kind_in q) (number_in q) ≡ 0))

abbrev pub MarksTellExactly : Type 0
MarksTellExactly = (l : Layout) (image after : List ℕ) → IsMarked l image after → (q : Reference) → MayHaveMark q →
    number_in q < leaf_count l → IsToldOf l image after q

-- Every word but the marks is as it was, and a crash leaves the image.
abbrev pub MarkingKeepsOthers : Type 0
MarkingKeepsOthers = (l : Layout) (image after : List ℕ) → IsMarked l image after → (p : Location) → HasLocation l p →
    IsNoMark p → at l after p ≡ at l (row_of l image) p

abbrev pub CrashLeavesImage : Type 0
CrashLeavesImage = (l : Layout) (image after : List ℕ) → IsMarked l image after → durable_row l after ≡ image
