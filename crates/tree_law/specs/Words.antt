-- The words in which a tree is kept, of one row, and what stores and mixes of them make of its layer.
use Rattle.std.specs.Prelude.{◌≡◌, ◌≢◌, ℕ, ◌-◌, ◌/◌, ◌%◌, ◌^◌, ◌≤◌, ◌==◌, ◌&&◌, ◌⊎◌}
use Rattle.std.specs.Prelude.{nat_lt, nat_le, if◌then◌else◌, Option, Some}
use Rattle.pm_words.specs.Offsets.{depth_offset}
use Rattle.pm_words.specs.Codes.{leaf_kind}
use Rattle.layer_map.specs.cat_key.specs.declared.TheConstants.{WORDS}
use Rattle.radix_nodes.specs.Keys.{KeyWords}
use Rattle.radix_nodes.specs.Cells.{CellWords, prefix_words, children, IsForm}
use Rattle.radix_nodes.specs.Changes.{IsCellStore}
use Rattle.layer_map.specs.Layers.{Layer, AreSame, changed_at}
use Rattle.layer_map.specs.Keys.{key_of}
use Rattle.tree_law.specs.Trees.{Reference, Nothing, Leaf, Cell, Tree, Reaches, IsReached, Room, IsTree, layer_in}
use Rattle.tree_law.specs.Switches as switches
use Rattle.tree_law.specs.Switches.{Place, Entry}

pub data LayerWord : Type 0 where
  RootWord : LayerWord
  LeafWord : ℕ → ℕ → LayerWord  -- leaf, offset
  CellWord : ℕ → ℕ → ℕ → LayerWord  -- kind, number, offset

pub record LayerWords : Type 0 where
  pub root : ℕ
  pub leaf : ℕ → ℕ → ℕ
  pub cell : ℕ → ℕ → ℕ → ℕ

abbrev pub word_in : LayerWords → LayerWord → ℕ
word_in w RootWord = w.root
word_in w (LeafWord i o) = w.leaf i o
word_in w (CellWord kind n o) = w.cell kind n o

-- a reference is 0, or its kind, 1 of a leaf and 2 to 5 of a cell by its form, times 2^16, and its number
abbrev pub kind_of : ℕ → ℕ
kind_of x = x / 2 ^ 16

abbrev pub number_of : ℕ → ℕ
number_of x = x % 2 ^ 16

abbrev pub reference_of : ℕ → Reference
reference_of x = if x == 0 then Nothing else if kind_of x == leaf_kind then Leaf (number_of x) else Cell x

abbrev pub cell_in : LayerWords → ℕ → CellWords
cell_in w x = w.cell (kind_of x) (number_of x)

-- the number of a key by its words: its order is the order of keys
abbrev pub number_of_key : KeyWords → ℕ
number_of_key key = key_of (key 0) (key 1) (key 2)

-- The tree of the words: of a leaf the first words are its key, and its node word stands behind them; of a cell word 0
-- is its depth, and its prefix stands behind that.
abbrev pub tree_of : LayerWords → Tree
tree_of w = record {
  root = reference_of w.root;
  depth = λ x. cell_in w x depth_offset;
  prefix = λ x. number_of_key (prefix_words (cell_in w x));
  child = λ x b. reference_of (children (kind_of x) (cell_in w x) b);
  key = λ i. number_of_key (w.leaf i);
  word = λ i. w.leaf i WORDS;
}

abbrev pub layer_of : LayerWords → Layer
layer_of w = layer_in (tree_of w)

-- With so many leaves, as many cells of each form, and so many nodes, what there is room for.
abbrev pub room_of : ℕ → ℕ → Room
room_of count nodes = record {
  leaves = count;
  nodes = nodes;
  is_cell = λ x. nat_le 2 (kind_of x) && nat_le (kind_of x) 5 && nat_lt (number_of x) count;
}

-- The words are in order.
pub record IsLawful (count nodes : ℕ) (w : LayerWords) : Type 0 where
  pub tree : IsTree (room_of count nodes) (tree_of w)
  pub forms : (x : ℕ) → IsReached (tree_of w) (Cell x) → IsForm (kind_of x) (cell_in w x)

-- one word is another
pub record Stored (w w' : LayerWords) (p : LayerWord) (word : ℕ) : Type 0 where
  pub here : word_in w' p ≡ word
  pub others : (q : LayerWord) → q ≢ p → word_in w' q ≡ word_in w q

abbrev pub AreEven : LayerWords → LayerWords → Type 0
AreEven w s = (p : LayerWord) → word_in s p ≡ word_in w p

-- each word is that of the one or of the other
abbrev pub IsMix : LayerWords → LayerWords → LayerWords → Type 0
IsMix w s mix = (p : LayerWord) → (word_in mix p ≡ word_in w p) ⊎ (word_in mix p ≡ word_in s p)

-- The words are in order, and keep this layer.
pub record Keeps (count nodes : ℕ) (layer : Layer) (w : LayerWords) : Type 0 where
  pub lawful : IsLawful count nodes w
  pub same : AreSame (layer_of w) layer

-- A store that changes one key of the layer.
abbrev pub ChangesKey : ℕ → ℕ → LayerWords → LayerWords → ℕ → Option ℕ → Type 0
ChangesKey count nodes w w' key node = Keeps count nodes (changed_at (layer_of w) key node) w'

-- where a place's reference stands, and what a store of a new one there makes of its cell
pub data IsSwitchStore (w w' : LayerWords) : Place → ℕ → Type 0 where
  at_root : {reference : ℕ} → Stored w w' RootWord reference → reference_of reference ≢ Nothing →
      IsSwitchStore w w' switches.Root reference
  in_cell : {x b offset word reference : ℕ} → Stored w w' (CellWord (kind_of x) (number_of x) offset) word →
      IsCellStore (kind_of x) (cell_in w x) (cell_in w' x) b reference → IsSwitchStore w w' (Entry x b) reference

-- A switch store makes of the words what it makes of the tree, where each cell below the new reference has its form.
abbrev pub SwitchMakes : Type 0
SwitchMakes = (count nodes : ℕ) (w w' : LayerWords) (place : Place) (reference key : ℕ) (node : Option ℕ) →
    IsLawful count nodes w → IsSwitchStore w w' place reference →
    ((x : ℕ) → Reaches (tree_of w) (reference_of reference) (Cell x) → IsForm (kind_of x) (cell_in w x)) →
    ((root : Reference) (child : ℕ → ℕ → Reference) →
    switches.IsSwitched (tree_of w) root child place (reference_of reference) →
    switches.Makes (room_of count nodes) (tree_of w) (switches.rooted (tree_of w) root child) key node) →
    ChangesKey count nodes w w' key node

abbrev pub NodeWordMakes : Type 0
NodeWordMakes = (count nodes : ℕ) (w w' : LayerWords) (leaf word : ℕ) → IsLawful count nodes w →
    IsReached (tree_of w) (Leaf leaf) → word ≢ 0 → word ≤ nodes → Stored w w' (LeafWord leaf WORDS) word →
    ChangesKey count nodes w w' ((tree_of w).key leaf) (Some (word - 1))

-- A part that the tree doesn't reach: a leaf, or a cell by its reference. All its words may be anything.
pub data Part : Type 0 where
  LeafPart : ℕ → Part
  CellPart : ℕ → Part

abbrev pub part_reference : Part → Reference
part_reference (LeafPart i) = Leaf i
part_reference (CellPart x) = Cell x

abbrev pub part_word : Part → ℕ → LayerWord
part_word (LeafPart i) o = LeafWord i o
part_word (CellPart x) o = CellWord (kind_of x) (number_of x) o

-- all words but those of the part are the same
abbrev pub AreSameBut : Part → LayerWords → LayerWords → Type 0
AreSameBut part w w' = (p : LayerWord) → ((o : ℕ) → p ≢ part_word part o) → word_in w' p ≡ word_in w p

abbrev pub PartMayDiffer : Type 0
PartMayDiffer = (count nodes : ℕ) (w w' : LayerWords) (part : Part) → IsLawful count nodes w →
    (IsReached (tree_of w) (part_reference part) → ⊥) → AreSameBut part w w' → Keeps count nodes (layer_of w) w'
