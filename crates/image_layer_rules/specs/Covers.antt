-- What a program looks for to find out whether the tree is covered: at each leaf that it reaches, and at each listed
-- node.
use Rattle.std.specs.Prelude.{◌≡◌, ◌≢◌, ℕ, ◌+◌, ◌-◌, ◌≤◌, List, Option, Some}
use Rattle.pm_words.specs.declared.layout.Layout.{Layout}
use Rattle.image_rules.specs.Nodes.{IsListedNode}
use Rattle.updater_law.specs.Covers.{IsOpenFor}
use Rattle.image_layer_rules.specs.Anchors.{image_anchor, image_lines}
use Rattle.tree_law.specs.Trees.{Reference, Leaf, Reaches, find, node_at, way_length}
use Rattle.tree_law.specs.Words.{reference_of}
use Rattle.image_layer_rules.specs.Faults.{image_tree}
use Rattle.image_layer_rules.specs.Rules.{image_map}

-- the node is a listed one with this anchor
abbrev pub IsListedWith : Layout → List ℕ → ℕ → ℕ → Type 0
IsListedWith l image node key = IsListedNode l image node × (image_anchor l image node ≡ key)

-- A leaf whose node isn't a listed one with its key as the anchor, and no line exempts the key; and one such that is
-- reached from here.
pub record IsStray (l : Layout) (image : List ℕ) (leaf : ℕ) : Type 0 where
  pub closed : ¬ IsOpenFor (image_lines l image) ((image_tree l image).key leaf)
  pub stray : ¬ IsListedWith l image ((image_tree l image).word leaf - 1) ((image_tree l image).key leaf)

abbrev pub IsStrayFrom : Layout → List ℕ → Reference → Type 0
IsStrayFrom l image r = (leaf : ℕ) × Reaches (image_tree l image) r (Leaf leaf) × IsStray l image leaf

-- A listed node to which the tree doesn't lead its anchor, and no line exempts the anchor.
pub record IsMissed (l : Layout) (image : List ℕ) (n : ℕ) : Type 0 where
  pub listed : IsListedNode l image n
  pub closed : ¬ IsOpenFor (image_lines l image) (image_anchor l image n)
  pub missed : image_map l image (image_anchor l image n) ≢ Some n

-- what a key leads to from here, where it is so deep at least
abbrev pub LeadsTo : Layout → List ℕ → ℕ → ℕ → ℕ → Option ℕ → Type 0
LeadsTo l image reference least key target = (fuel : ℕ) → way_length ≤ fuel + least →
    node_at (image_tree l image) (find (image_tree l image) fuel (reference_of reference) key) ≡ target
