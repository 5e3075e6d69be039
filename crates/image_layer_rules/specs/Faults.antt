-- What is wrong with a leaf or a cell of the tree in an image.
use Rattle.std.specs.Prelude.{◌≡◌, ◌≢◌, ℕ, ◌+◌, ◌*◌, ◌<◌, ◌≤◌, false, List, [], ◌∷◌}
use Rattle.pm_words.specs.Offsets.{prefix_offset}
use Rattle.pm_words.specs.declared.layout.Layout.{Layout}
use Rattle.pm_words.specs.Locations.{leaf_count}
use Rattle.radix_nodes.specs.Keys.{key_bytes}
use Rattle.radix_nodes.specs.Cells.{CellWords, HasSpare, AreEntries, IsIndexed}
use Rattle.tree_law.specs.Trees.{Reference, Nothing, Leaf, Cell, Tree, Room, HasTwo, first_bytes, low, depth_of}
use Rattle.tree_law.specs.Words.{kind_of, cell_in, tree_of, room_of}
use Rattle.tree_row.specs.Rows.{image_layer}
use Rattle.image_layer_rules.specs.Heads.{HasPrefix}
use Rattle.image_layer_rules.specs.Anchors.{AreKeyWords}

-- the tree of an image, what it has room for, and the words of a leaf's key and of a cell
abbrev pub image_tree : Layout → List ℕ → Tree
image_tree l image = tree_of (image_layer l image)

abbrev pub image_room : Layout → Room
image_room l = room_of (leaf_count l) l.nodes

abbrev pub leaf_key : Layout → List ℕ → ℕ → List ℕ
leaf_key l image leaf =
    (image_layer l image).leaf leaf 0 ∷ (image_layer l image).leaf leaf 1 ∷ (image_layer l image).leaf leaf 2 ∷ []

abbrev pub image_cell : Layout → List ℕ → ℕ → CellWords
image_cell l image x = cell_in (image_layer l image) x

abbrev pub prefix_key : Layout → List ℕ → ℕ → List ℕ
prefix_key l image x =
    image_cell l image x prefix_offset ∷ image_cell l image x (prefix_offset + 1) ∷
    image_cell l image x (prefix_offset + 2) ∷ []

-- Each way in which what a reference leads to may be out of order, by itself or with the heads of its children.
pub data IsWrong (l : Layout) (image : List ℕ) : Reference → Type 0 where
  -- a reference has a kind from 1 to 5, and the number of a leaf or of a cell of that kind
  leads_nowhere : IsWrong l image Nothing
  has_no_leaf : {i : ℕ} → leaf_count l ≤ i → IsWrong l image (Leaf i)
  has_no_cell : {x : ℕ} → (image_room l).is_cell x ≡ false → IsWrong l image (Cell x)
  -- a leaf's key is zero or a name, and its node word is that of a node
  has_no_key : {i : ℕ} → ¬ AreKeyWords (leaf_key l image i) → IsWrong l image (Leaf i)
  has_no_node : {i : ℕ} → (image_tree l image).word i ≡ 0 → IsWrong l image (Leaf i)
  is_past_nodes : {i : ℕ} → l.nodes < (image_tree l image).word i → IsWrong l image (Leaf i)
  -- a cell's depth is below the bytes of a key, its prefix has zeros from there on, and the words 4 to 7 are 0 but in
  -- form 4
  is_too_deep : {x : ℕ} → key_bytes ≤ (image_tree l image).depth x → IsWrong l image (Cell x)
  has_no_prefix : {x : ℕ} → ¬ HasPrefix (image_tree l image) x → IsWrong l image (Cell x)
  has_no_spare : {x : ℕ} → kind_of x ≢ 2 → ¬ HasSpare (image_cell l image x) → IsWrong l image (Cell x)
  -- it has two children at least, whose branch bytes differ and are below 256; index places differ and are from 1 to
  -- 48, and have references
  has_few : {x : ℕ} → ¬ HasTwo (image_tree l image) x → IsWrong l image (Cell x)
  has_no_four : {x : ℕ} → kind_of x ≡ 2 → ¬ AreEntries (image_cell l image x) 4 4 → IsWrong l image (Cell x)
  has_no_sixteen : {x : ℕ} → kind_of x ≡ 3 → ¬ AreEntries (image_cell l image x) 8 16 → IsWrong l image (Cell x)
  has_no_index : {x : ℕ} → kind_of x ≡ 4 → ¬ IsIndexed (image_cell l image x) → IsWrong l image (Cell x)
  -- the key or prefix of each child begins with the bytes of the prefix and has the branch byte next, and the child is
  -- deeper
  is_not_under : {x : ℕ} (b : ℕ) → (image_tree l image).child x b ≢ Nothing →
      first_bytes ((image_tree l image).depth x + 1) (low (image_tree l image) ((image_tree l image).child x b))
      ≢ 256 * first_bytes ((image_tree l image).depth x) ((image_tree l image).prefix x) + b → IsWrong l image (Cell x)
  is_not_deeper : {x : ℕ} (b : ℕ) → (image_tree l image).child x b ≢ Nothing →
      depth_of (image_tree l image) ((image_tree l image).child x b) ≤ (image_tree l image).depth x →
      IsWrong l image (Cell x)
