-- What a walk over the tree of a row makes of its marks.
use Rattle.std.specs.Prelude.{◌≡◌, ◌≢◌, ℕ, ◌+◌, ◌*◌, ◌^◌, ◌⊎◌, List, length, slice_index}
use Rattle.pm_words.specs.declared.layout.Layout.{Layout}
use Rattle.pm_words.specs.Locations.{Mark, HasLocation, Cached, leaf_count, address_of}
use Rattle.tree_law.specs.Trees.{Reference, Tree, Reaches, Room}
use Rattle.tree_law.specs.Words.{reference_of, tree_of, room_of}
use Rattle.tree_law.specs.Marking.{kind_in, number_in}
use Rattle.tree_row.specs.Rows.{layer_words}
use Rattle.tree_row.specs.RowMarks.{row_marks}

-- the tree of a row, as the cached words have it, and what it has room for
abbrev pub row_tree : Layout → List ℕ → Tree
row_tree l words = tree_of (layer_words l words Cached)

abbrev pub row_room : Layout → Room
row_room l = room_of (leaf_count l) l.nodes

-- the leaf or the cell that has this mark
abbrev pub part_with : ℕ → ℕ → Reference
part_with kind number = reference_of (kind * 2 ^ 16 + number)

-- the address of no mark
abbrev pub IsBesideMarks : Layout → ℕ → Type 0
IsBesideMarks l address = (kind number : ℕ) → HasLocation l (Mark kind number) →
    address ≢ address_of l (Mark kind number)

-- Each mark is as it was, or it is 1 and this reference leads to the leaf or the cell that has it. No other word has
-- changed.
pub record MarksFrom (l : Layout) (words : List ℕ) (from : Reference) (after : List ℕ) : Type 0 where
  pub size : length after ≡ length words
  pub others : (address : ℕ) → IsBesideMarks l address → slice_index after address ≡ slice_index words address
  pub marks : (kind number : ℕ) → (row_marks l after kind number ≡ row_marks l words kind number) ⊎
      ((row_marks l after kind number ≡ 1) × Reaches (row_tree l words) from (part_with kind number))

-- Each leaf and cell to which the reference led has the mark 1.
abbrev pub AreMarked : Layout → List ℕ → Reference → List ℕ → Type 0
AreMarked l words from after = (q : Reference) → Reaches (row_tree l words) from q →
    row_marks l after (kind_in q) (number_in q) ≡ 1
