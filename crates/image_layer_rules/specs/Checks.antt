-- What a check of the tree looks at: a cell that was read, its form, and its children.
use Rattle.std.specs.Prelude.{◌≡◌, ◌≢◌, ℕ, ◌<◌, List}
use Rattle.pm_words.specs.declared.layout.Layout.{Layout}
use Rattle.radix_nodes.specs.declared.cell.Cell as cells
use Rattle.radix_nodes.specs.Cells.{IsForm, words_of}
use Rattle.tree_law.specs.Trees.{Reference, Nothing, Cell, Reaches, IsUnder}
use Rattle.tree_law.specs.Words.{kind_of}
use Rattle.image_layer_rules.specs.Faults.{image_tree, image_cell, IsWrong}

-- these are the kind and the words of the cell
pub record IsRead (l : Layout) (image : List ℕ) (x : ℕ) (cell : cells.Cell) : Type 0 where
  pub kind : cell.kind ≡ kind_of x
  pub words : (o : ℕ) → words_of cell o ≡ image_cell l image x o

abbrev pub HasForm : Layout → List ℕ → ℕ → Type 0
HasForm l image x = IsForm (kind_of x) (image_cell l image x)

-- a branch byte has no child, or one that is under the cell; and some byte has one that isn't
abbrev pub IsRightChild : Layout → List ℕ → ℕ → ℕ → Type 0
IsRightChild l image x b = (image_tree l image).child x b ≢ Nothing →
    IsUnder (image_tree l image) x b ((image_tree l image).child x b)

abbrev pub HasWrongChild : Layout → List ℕ → ℕ → Type 0
HasWrongChild l image x = (b : ℕ) × (b < 256) × ¬ IsRightChild l image x b

abbrev pub IsWrongCell : Layout → List ℕ → ℕ → Type 0
IsWrongCell l image x = IsWrong l image (Cell x)

-- something that is reached from here is wrong
abbrev pub IsWrongFrom : Layout → List ℕ → Reference → Type 0
IsWrongFrom l image r = (q : Reference) × Reaches (image_tree l image) r q × IsWrong l image q
