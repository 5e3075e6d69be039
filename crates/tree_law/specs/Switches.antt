-- One store of a reference, and one of a node word: what they make of a tree.
use Rattle.std.specs.Prelude.{◌≡◌, ◌≢◌, ℕ, ◌-◌, ◌*◌, ◌<◌, ◌≤◌, true, Option, Some, None}
use Rattle.layer_map.specs.Layers.{AreSame, changed_at}
use Rattle.tree_law.specs.Trees.{Reference, Nothing, Leaf, Cell, Tree, IsReached, Room, IsUnder, IsLeaf}
use Rattle.tree_law.specs.Trees.{IsTree, layer_in, span, first_bytes}
use Rattle.radix_nodes.specs.Keys.{key_bytes}

-- where a reference stands
pub data Place : Type 0 where
  Root : Place
  Entry : ℕ → ℕ → Place  -- of a cell, by the byte

abbrev pub reference_at : Tree → Place → Reference
reference_at t Root = t.root
reference_at t (Entry x b) = t.child x b

-- the place is of the tree
abbrev pub IsPlace : Tree → Place → Type 0
IsPlace t Root = Unit {0}
IsPlace t (Entry x b) = IsReached t (Cell x)

-- what may stand there, by its key or prefix
abbrev pub FitsAt : Tree → Place → Reference → Type 0
FitsAt t Root r = Unit {0}
FitsAt t (Entry x b) r = IsUnder t x b r

-- the tree with another root and other children
abbrev pub rooted : Tree → Reference → (ℕ → ℕ → Reference) → Tree
rooted t root child = record t { root = root; child = child }

-- all but the reference at this place is the same
pub record IsSwitched (t : Tree) (root : Reference) (child : ℕ → ℕ → Reference) (place : Place) (new : Reference)
    : Type 0 where
  pub some_root : root ≢ Nothing
  pub here : reference_at (rooted t root child) place ≡ new
  pub root_stays : place ≢ Root → root ≡ t.root
  pub others : (x b : ℕ) → place ≢ Entry x b → child x b ≡ t.child x b

-- The kinds of switch store. Of a set of a new key: the new leaf has no place yet.

-- the leaf comes into a cell that has room
pub record Adds (room : Room) (t : Tree) (x b leaf : ℕ) : Type 0 where
  pub reached : IsReached t (Cell x)
  pub none : t.child x b ≡ Nothing
  pub sound : IsLeaf room t leaf
  pub under : IsUnder t x b (Leaf leaf)

-- a new cell comes in the place of what stands there, with that and the leaf as its children
pub record Pairs (room : Room) (t : Tree) (place : Place) (pair old_byte leaf_byte leaf : ℕ) : Type 0 where
  pub of_tree : IsPlace t place
  pub some_old : reference_at t place ≢ Nothing
  pub sound : IsLeaf room t leaf
  pub number : room.is_cell pair ≡ true
  pub depth : t.depth pair < key_bytes
  pub zeros : first_bytes (t.depth pair) (t.prefix pair) * span (t.depth pair) ≡ t.prefix pair
  pub apart : old_byte ≢ leaf_byte
  pub has_old : t.child pair old_byte ≡ reference_at t place
  pub has_leaf : t.child pair leaf_byte ≡ Leaf leaf
  pub only : (b : ℕ) → b ≢ old_byte → b ≢ leaf_byte → t.child pair b ≡ Nothing
  pub old_under : IsUnder t pair old_byte (reference_at t place)
  pub leaf_under : IsUnder t pair leaf_byte (Leaf leaf)
  pub fits : FitsAt t place (Cell pair)

-- a cell has all the children of another one, and the leaf
pub record IsGrownOf (room : Room) (t : Tree) (x grown b leaf : ℕ) : Type 0 where
  pub number : room.is_cell grown ≡ true
  pub depth : t.depth grown ≡ t.depth x
  pub prefix : t.prefix grown ≡ t.prefix x
  pub has_leaf : t.child grown b ≡ Leaf leaf
  pub others : (c : ℕ) → c ≢ b → t.child grown c ≡ t.child x c

-- such a cell of a larger form comes in the place of the other one
pub record Grows (room : Room) (t : Tree) (place : Place) (x grown b leaf : ℕ) : Type 0 where
  pub of_tree : IsPlace t place
  pub old : reference_at t place ≡ Cell x
  pub sound : IsLeaf room t leaf
  pub cell : IsGrownOf room t x grown b leaf
  pub none : t.child x b ≡ Nothing
  pub under : IsUnder t x b (Leaf leaf)

-- Of an unset: the leaf goes from a cell that has two more children, or the other child comes in the place of a cell of
-- two.
pub record Removes (t : Tree) (x b leaf : ℕ) : Type 0 where
  pub reached : IsReached t (Cell x)
  pub leaf_is : t.child x b ≡ Leaf leaf
  pub one : ℕ
  pub two : ℕ
  pub apart : one ≢ two
  pub not_one : one ≢ b
  pub not_two : two ≢ b
  pub has_one : t.child x one ≢ Nothing
  pub has_two : t.child x two ≢ Nothing

pub record Collapses (t : Tree) (place : Place) (x b leaf other_byte : ℕ) : Type 0 where
  pub of_tree : IsPlace t place
  pub old : reference_at t place ≡ Cell x
  pub leaf_is : t.child x b ≡ Leaf leaf
  pub apart : other_byte ≢ b
  pub some_other : t.child x other_byte ≢ Nothing
  pub only : (c : ℕ) → c ≢ b → c ≢ other_byte → t.child x c ≡ Nothing

-- Each gives a tree in order again, which leads the leaf's key to its node, or nowhere, and every other key where it
-- led.
pub record Makes (room : Room) (before after : Tree) (key : ℕ) (node : Option ℕ) : Type 0 where
  pub tree : IsTree room after
  pub layer : AreSame (layer_in after) (changed_at (layer_in before) key node)

abbrev pub AddMakes : Type 0
AddMakes = (room : Room) (t : Tree) (root : Reference) (child : ℕ → ℕ → Reference) (x b leaf : ℕ) → IsTree room t →
    Adds room t x b leaf → IsSwitched t root child (Entry x b) (Leaf leaf) →
    Makes room t (rooted t root child) (t.key leaf) (Some (t.word leaf - 1))

abbrev pub PairMakes : Type 0
PairMakes = (room : Room) (t : Tree) (root : Reference) (child : ℕ → ℕ → Reference) (place : Place)
    (pair old_byte leaf_byte leaf : ℕ) → IsTree room t → Pairs room t place pair old_byte leaf_byte leaf →
    IsSwitched t root child place (Cell pair) →
    Makes room t (rooted t root child) (t.key leaf) (Some (t.word leaf - 1))

abbrev pub GrowMakes : Type 0
GrowMakes = (room : Room) (t : Tree) (root : Reference) (child : ℕ → ℕ → Reference) (place : Place)
    (x grown b leaf : ℕ) → IsTree room t → Grows room t place x grown b leaf →
    IsSwitched t root child place (Cell grown) →
    Makes room t (rooted t root child) (t.key leaf) (Some (t.word leaf - 1))

abbrev pub RemoveMakes : Type 0
RemoveMakes = (room : Room) (t : Tree) (root : Reference) (child : ℕ → ℕ → Reference) (x b leaf : ℕ) →
    IsTree room t → Removes t x b leaf → IsSwitched t root child (Entry x b) Nothing →
    Makes room t (rooted t root child) (t.key leaf) None

abbrev pub CollapseMakes : Type 0
CollapseMakes = (room : Room) (t : Tree) (root : Reference) (child : ℕ → ℕ → Reference) (place : Place)
    (x b leaf other_byte : ℕ) → IsTree room t → Collapses t place x b leaf other_byte →
    IsSwitched t root child place (t.child x other_byte) → Makes room t (rooted t root child) (t.key leaf) None

-- a set of a key that is there: the node word of its leaf
pub record IsRenamed (t : Tree) (word : ℕ → ℕ) (leaf to : ℕ) : Type 0 where
  pub here : word leaf ≡ to
  pub others : (i : ℕ) → i ≢ leaf → word i ≡ t.word i

abbrev pub RenameMakes : Type 0
RenameMakes = (room : Room) (t : Tree) (word : ℕ → ℕ) (leaf to : ℕ) → IsTree room t → IsReached t (Leaf leaf) →
    to ≢ 0 → to ≤ room.nodes → IsRenamed t word leaf to →
    Makes room t (record t { word = word }) (t.key leaf) (Some (to - 1))

-- What isn't reached may hold anything.

-- a leaf or a cell is the same in both
abbrev pub IsSameAt : Tree → Tree → Reference → Type 0
IsSameAt t t' Nothing = Unit {0}
IsSameAt t t' (Leaf i) = (t'.key i ≡ t.key i) × (t'.word i ≡ t.word i)
IsSameAt t t' (Cell x) = (t'.depth x ≡ t.depth x) × (t'.prefix x ≡ t.prefix x) × ((b : ℕ) → t'.child x b ≡ t.child x b)

pub record AreSameWhereReached (t t' : Tree) : Type 0 where
  pub root : t'.root ≡ t.root
  pub here : (q : Reference) → IsReached t q → IsSameAt t t' q

pub record StaysTree (room : Room) (t t' : Tree) : Type 0 where
  pub tree : IsTree room t'
  pub layer : AreSame (layer_in t') (layer_in t)
  pub reached : (q : Reference) → IsReached t' q → IsReached t q

abbrev pub OthersMayDiffer : Type 0
OthersMayDiffer = (room : Room) (t t' : Tree) → IsTree room t → AreSameWhereReached t t' → StaysTree room t t'
