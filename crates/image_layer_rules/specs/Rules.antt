-- The rules of a sound image on the tree of its search layer, each by what breaks it. All of them break at the word of
-- the root.
use Rattle.std.specs.Prelude.{◌≡◌, ◌≢◌, ℕ, ◌⊎◌, List, Some}
use Rattle.pm_words.specs.declared.layout.Layout.{Layout}
use Rattle.image_rules.specs.Nodes.{IsListedNode}
use Rattle.layer_map.specs.Layers.{Layer, HasFew}
use Rattle.updater_law.specs.Covers.{IsOpenFor}
use Rattle.image_layer_rules.specs.Anchors.{image_anchor, image_lines, IsKeyNumber}
use Rattle.tree_law.specs.Trees.{Reference, Nothing, Cell, IsReached}
use Rattle.tree_law.specs.Words.{layer_of}
use Rattle.tree_row.specs.Rows.{image_layer}
use Rattle.image_layer_rules.specs.Faults.{image_tree, IsWrong}

-- the map that the tree of an image is
abbrev pub image_map : Layout → List ℕ → Layer
image_map l image = layer_of (image_layer l image)

-- A key that no line of the log has which isn't EMPTY, and a node: either the key leads to the node, which isn't a
-- listed one with this anchor; or the node is a listed one with this anchor, and the key doesn't lead to it.
pub record IsUncovered (l : Layout) (image : List ℕ) (key node : ℕ) : Type 0 where
  pub is_key : IsKeyNumber key
  pub closed : ¬ IsOpenFor (image_lines l image) key
  pub differ : ((image_map l image key ≡ Some node) × ¬ (IsListedNode l image node × (image_anchor l image node ≡ key)))
      ⊎ ((image_map l image key ≢ Some node) × IsListedNode l image node × (image_anchor l image node ≡ key))

-- A leaf or a cell is a child under two branch bytes, of one cell or of two.
pub record IsReachedTwice (l : Layout) (image : List ℕ) (x y a b : ℕ) : Type 0 where
  pub one : IsReached (image_tree l image) (Cell x)
  pub other : IsReached (image_tree l image) (Cell y)
  pub some_child : (image_tree l image).child x a ≢ Nothing
  pub same : (image_tree l image).child x a ≡ (image_tree l image).child y b
  pub apart : ¬ ((x ≡ y) × (a ≡ b))

-- The image breaks the rule of this number.
pub data BreaksTree (l : Layout) (image : List ℕ) : ℕ → Type 0 where
  -- Rule 10: nothing is wrong with any leaf or cell that the tree reaches, and none is reached by two ways.
  is_wrong : (q : Reference) → IsReached (image_tree l image) q → IsWrong l image q → BreaksTree l image 10
  is_reached_twice : (x y a b : ℕ) → IsReachedTwice l image x y a b → BreaksTree l image 10
  reaches_its_root : (x b : ℕ) → IsReached (image_tree l image) (Cell x) →
      (image_tree l image).child x b ≢ Nothing → (image_tree l image).child x b ≡ (image_tree l image).root →
      BreaksTree l image 10
  -- Rule 11: the layer has at most as many keys as there are nodes.
  has_many : ¬ HasFew l.nodes (image_map l image) → BreaksTree l image 11
  -- Rule 12: each key, zero or a name, that no line has which isn't EMPTY, leads where the list has it.
  is_uncovered : (key node : ℕ) → IsUncovered l image key node → BreaksTree l image 12
