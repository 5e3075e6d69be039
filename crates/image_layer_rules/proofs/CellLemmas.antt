-- What a walk down the tree knows at a cell from which nothing is wrong, and of a child of it.
use Rattle.std.proofs.Common.{◌≡◌, ◌≢◌, ℕ, ◌+◌, ◌<◌, ◌≤◌, List, subst, arith}
use Rattle.pm_words.specs.declared.layout.Layout.{Layout}
use Rattle.pm_words.specs.Codes.{leaf_kind}
use Rattle.radix_nodes.specs.Cells.{words_of, children_of}
use Rattle.radix_nodes.specs.declared.cell.Cell as cells
use Rattle.tree_law.specs.Trees.{Cell, depth_of}
use Rattle.tree_law.specs.Words.{kind_of, reference_of}
use Rattle.tree_floor.proofs.FloorExact.{reference_some, to_cell}
use Rattle.image_layer_rules.specs.Faults.{image_tree, IsWrong, image_cell}
use Rattle.image_layer_rules.specs.Checks.{IsWrongFrom}
use Rattle.image_layer_rules.proofs.WrongLemmas.{child_is}
use Rattle.image_layer_rules.proofs.WalkLemmas.{wrong_here, wrong_below, depth_small}
use Rattle.image_layer_rules.proofs.CountLemmas.{head_deeper}

-- the child at a byte is what is read of the cell there
pub child_read : (l : Layout) (image : List ℕ) (x : ℕ) (cell : cells.Cell) → cell.kind ≡ kind_of x → ((o : ℕ) → words_of cell o ≡ image_cell l image x o) → (b child : ℕ) → child ≡ children_of cell b
    → (image_tree l image).child x b ≡ reference_of child
child_read l image x cell kind words = child_is l image x cell (record { kind = kind; words = words })

-- A walk goes on with a child of the cell, one byte deeper.
pub record GoesOn (l : Layout) (image : List ℕ) (least depth child : ℕ) : Type 0 where
  pub later : least ≤ depth
  pub small : depth < 24
  pub deep : depth + 1 ≤ depth_of (image_tree l image) (reference_of child)
  pub fine : child ≢ 0 → ¬ IsWrongFrom l image (reference_of child)

module _ (l : Layout) (image : List ℕ) (x : ℕ) (some_cell : x ≢ 0) (kind : kind_of x ≢ leaf_kind) (right : x ≢ 0 → ¬ IsWrongFrom l image (reference_of x)) where
  pub cell_right : ¬ IsWrong l image (Cell x)
  cell_right wrong = right some_cell (wrong_here l image (Cell x) (reference_of x) (to_cell x some_cell kind) wrong)

  pub cell_small : (depth : ℕ) → depth ≡ (image_tree l image).depth x → depth < 24
  cell_small depth is = let small = depth_small l image x cell_right in omega (arith, is)

  pub cell_later : (least depth : ℕ) → depth ≡ (image_tree l image).depth x → least ≤ depth_of (image_tree l image) (reference_of x) → least ≤ depth
  cell_later least depth is least_is =
      let later : least ≤ (image_tree l image).depth x = subst (λ r. least ≤ depth_of (image_tree l image) r) (to_cell x some_cell kind) least_is in
      omega (arith, is)

  pub goes_on : (least depth : ℕ) → depth ≡ (image_tree l image).depth x → least ≤ depth_of (image_tree l image) (reference_of x) → (b child : ℕ) → (image_tree l image).child x b ≡ reference_of child
      → GoesOn l image least depth child
  goes_on least depth is least_is b child same = record {
    later = cell_later least depth is least_is;
    small = cell_small depth is;
    deep = let deeper = head_deeper l image x cell_right b child same in omega (arith, is);
    fine = λ some_child wrong. right some_cell (wrong_below l image x b (reference_of x) (reference_of child) (to_cell x some_cell kind) same (reference_some child some_child) wrong);
  }

  -- with the child that it has read of the cell
  pub reads_on : (cell : cells.Cell) → cell.kind ≡ kind_of x → ((o : ℕ) → words_of cell o ≡ image_cell l image x o) → (least depth : ℕ) → depth ≡ (image_tree l image).depth x → least ≤ depth_of (image_tree l image) (reference_of x)
      → (b child : ℕ) → child ≡ children_of cell b → GoesOn l image least depth child
  reads_on cell kind_is words least depth is least_is b child read = goes_on least depth is least_is b child (child_read l image x cell kind_is words b child read)
