-- The way of a key, and what a switch store at its end is.
use Rattle.std.specs.Prelude.{◌≡◌, ◌≢◌, ℕ, ◌*◌, ◌<◌, true}
use Rattle.tree_law.specs.Trees.{Nothing, Leaf, Cell, Tree, Reaches, IsReached, Room, IsLeaf, IsTree, low, depth_of}
use Rattle.tree_law.specs.Trees.{span, first_bytes, byte_at}
use Rattle.tree_law.specs.Switches.{Place, Root, Entry, reference_at, Adds, Pairs}

-- the way of a key comes to this place: each cell on it has the key's first bytes as its prefix
pub data Comes (t : Tree) (key : ℕ) : Place → Type 0 where
  begins : Comes t key Root
  goes_on : {place : Place} {x : ℕ} → Comes t key place → reference_at t place ≡ Cell x →
      first_bytes (t.depth x) key ≡ first_bytes (t.depth x) (t.prefix x) →
      Comes t key (Entry x (byte_at (t.depth x) key))

-- the bytes of two keys, or of a key and a prefix, differ at this depth for the first time
pub record PartsAt (depth one other : ℕ) : Type 0 where
  pub same : first_bytes depth one ≡ first_bytes depth other
  pub apart : byte_at depth one ≢ byte_at depth other

-- A way ends where there is nothing; at a leaf; or at a cell whose prefix the key doesn't have.

-- a new leaf of the key, where there is nothing
abbrev pub WayAdds : Type 0
WayAdds = (room : Room) (t : Tree) (key leaf x b : ℕ) → IsTree room t → Comes t key (Entry x b) →
    t.child x b ≡ Nothing → IsLeaf room t leaf → t.key leaf ≡ key → Adds room t x b leaf

-- a cell that has been filled for a pair, at the depth at which the key parts from what is there
pub record IsFilledPair (room : Room) (t : Tree) (place : Place) (key depth pair leaf : ℕ) : Type 0 where
  pub number : room.is_cell pair ≡ true
  pub depth_is : t.depth pair ≡ depth
  pub prefix_is : t.prefix pair ≡ first_bytes depth key * span depth
  pub old : t.child pair (byte_at depth (low t (reference_at t place))) ≡ reference_at t place
  pub new : t.child pair (byte_at depth key) ≡ Leaf leaf
  pub only : (b : ℕ) → b ≢ byte_at depth (low t (reference_at t place)) → b ≢ byte_at depth key →
      t.child pair b ≡ Nothing

abbrev pub WayPairs : Type 0
WayPairs = (room : Room) (t : Tree) (place : Place) (key depth pair leaf : ℕ) → IsTree room t → Comes t key place →
    reference_at t place ≢ Nothing → PartsAt depth key (low t (reference_at t place)) →
    depth < depth_of t (reference_at t place) → IsLeaf room t leaf → t.key leaf ≡ key →
    IsFilledPair room t place key depth pair leaf →
    Pairs room t place pair (byte_at depth (low t (reference_at t place))) (byte_at depth key) leaf

-- a leaf of the key is reached by the key's way alone
abbrev pub WayLeads : Type 0
WayLeads = (room : Room) (t : Tree) (place : Place) (key i : ℕ) → IsTree room t → Comes t key place →
    IsReached t (Leaf i) → t.key i ≡ key → Reaches t (reference_at t place) (Leaf i)
