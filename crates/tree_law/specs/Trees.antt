-- A search layer as a tree of leaves and cells: plain data, whatever words it is kept in. Keys are numbers, of as many
-- bytes as a key has; the first byte is the highest.
use Rattle.std.specs.Prelude.{◌≡◌, ◌≢◌, ℕ, zero, suc, ◌+◌, ◌-◌, ◌*◌, ◌/◌, ◌%◌, ◌^◌, ◌<◌, ◌≤◌, ◌==◌, ◌↔◌}
use Rattle.std.specs.Prelude.{if◌then◌else◌, Bool, true, Option, Some, None}
use Rattle.radix_nodes.specs.Keys.{key_bytes}
use Rattle.layer_map.specs.Layers.{Layer, HasFew, LeadsBelow}

-- What a reference leads to: nothing, a leaf by its number, or a cell by the reference's own number.
pub data Reference : Type 0 where
  Nothing : Reference
  Leaf : ℕ → Reference
  Cell : ℕ → Reference

-- The first n bytes of a key, as a number, and the byte behind them.
unfoldable pub span : ℕ → ℕ
span n = 256 ^ (key_bytes - n)

unfoldable pub first_bytes : ℕ → ℕ → ℕ
first_bytes n key = key / span n

unfoldable pub byte_at : ℕ → ℕ → ℕ
byte_at n key = key / span (n + 1) % 256

pub record Tree : Type 0 where
  pub root : Reference
  -- of a cell: how many bytes all keys below it share, these bytes with zeros behind them, and its children by the next
  -- byte
  pub depth : ℕ → ℕ
  pub prefix : ℕ → ℕ
  pub child : ℕ → ℕ → Reference
  -- of a leaf: its key, and its node word, which is the node and one
  pub key : ℕ → ℕ
  pub word : ℕ → ℕ

-- how many leaves and cells a way from the root has at most: a cell for each byte, and the leaf
abbrev pub way_length : ℕ
way_length = key_bytes + 1

-- From a leaf or a cell one comes to another, by children.
pub data Reaches (t : Tree) : Reference → Reference → Type 0 where
  here : {r : Reference} → Reaches t r r
  below : {x b : ℕ} {q : Reference} → t.child x b ≢ Nothing → Reaches t (t.child x b) q → Reaches t (Cell x) q

-- a leaf or a cell of the tree
abbrev pub IsReached : Tree → Reference → Type 0
IsReached t q = Reaches t t.root q

-- How many leaves there are, the greatest node word, and the references that cells may have.
pub record Room : Type 0 where
  pub leaves : ℕ
  pub nodes : ℕ
  pub is_cell : ℕ → Bool

-- The key of a leaf, and the prefix of a cell; a leaf is deeper than any cell.
abbrev pub low : Tree → Reference → ℕ
low t Nothing = 0
low t (Leaf i) = t.key i
low t (Cell x) = t.prefix x

abbrev pub depth_of : Tree → Reference → ℕ
depth_of t Nothing = key_bytes
depth_of t (Leaf i) = key_bytes
depth_of t (Cell x) = t.depth x

-- The key or prefix of a child begins with the bytes of the cell's prefix, and has the branch byte next; a cell that is
-- a child is deeper.
pub record IsUnder (t : Tree) (x b : ℕ) (r : Reference) : Type 0 where
  pub byte : b < 256
  pub bytes : first_bytes (t.depth x + 1) (low t r) ≡ 256 * first_bytes (t.depth x) (t.prefix x) + b
  pub deeper : t.depth x < depth_of t r

-- two children at least
pub record HasTwo (t : Tree) (x : ℕ) : Type 0 where
  pub one : ℕ
  pub two : ℕ
  pub apart : one ≢ two
  pub has_one : t.child x one ≢ Nothing
  pub has_two : t.child x two ≢ Nothing

pub record IsLeaf (room : Room) (t : Tree) (i : ℕ) : Type 0 where
  pub number : i < room.leaves
  pub key : t.key i < 256 ^ key_bytes
  pub some_node : t.word i ≢ 0
  pub node : t.word i ≤ room.nodes

pub record IsCell (room : Room) (t : Tree) (x : ℕ) : Type 0 where
  pub number : room.is_cell x ≡ true
  pub depth : t.depth x < key_bytes
  pub zeros : first_bytes (t.depth x) (t.prefix x) * span (t.depth x) ≡ t.prefix x
  pub two : HasTwo t x
  pub under : (b : ℕ) → t.child x b ≢ Nothing → IsUnder t x b (t.child x b)

-- Each leaf and each cell is in order by itself and with its children.
abbrev pub IsSound : Room → Tree → Reference → Type 0
IsSound room t Nothing = ⊥
IsSound room t (Leaf i) = IsLeaf room t i
IsSound room t (Cell x) = IsCell room t x

abbrev pub IsSoundFrom : Room → Tree → Reference → Type 0
IsSoundFrom room t r = (q : Reference) → Reaches t r q → IsSound room t q

-- A tree in order.
abbrev pub IsTree : Room → Tree → Type 0
IsTree room t = IsSoundFrom room t t.root

-- The leaf to which the bytes of a key lead, if it has the key.
abbrev pub leaf_with : Tree → ℕ → ℕ → Option ℕ
leaf_with t leaf key = if t.key leaf == key then Some leaf else None

abbrev pub find : Tree → ℕ → Reference → ℕ → Option ℕ
find t zero r key = None
find t (suc fuel) Nothing key = None
find t (suc fuel) (Leaf i) key = leaf_with t i key
find t (suc fuel) (Cell x) key = find t fuel (t.child x (byte_at (t.depth x) key)) key

abbrev pub node_at : Tree → Option ℕ → Option ℕ
node_at t None = None
node_at t (Some leaf) = Some (t.word leaf - 1)

-- the map that the tree is
abbrev pub layer_in : Tree → Layer
layer_in t key = node_at t (find t way_length t.root key)

-- a leaf of the tree has the key and the node
pub record IsLedBy (t : Tree) (key node : ℕ) : Type 0 where
  pub leaf : ℕ
  pub reached : IsReached t (Leaf leaf)
  pub key_is : t.key leaf ≡ key
  pub word : t.word leaf ≡ node + 1

-- The map of a tree in order is its leaves.
abbrev pub LeavesLead : Type 0
LeavesLead = (room : Room) (t : Tree) → IsTree room t → (key node : ℕ) →
    (layer_in t key ≡ Some node) ↔ IsLedBy t key node

abbrev pub LayerIsFinite : Type 0
LayerIsFinite = (room : Room) (t : Tree) → IsTree room t → HasFew room.leaves (layer_in t)

abbrev pub LayerLeadsToNodes : Type 0
LayerLeadsToNodes = (room : Room) (t : Tree) → IsTree room t → LeadsBelow room.nodes (layer_in t)

-- one leaf alone has a key
abbrev pub LeavesAreApart : Type 0
LeavesAreApart = (room : Room) (t : Tree) → IsTree room t → (i j : ℕ) → IsReached t (Leaf i) → IsReached t (Leaf j) →
    t.key i ≡ t.key j → i ≡ j
