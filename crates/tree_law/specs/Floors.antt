-- The floor of a key in a tree.
use Rattle.std.specs.Prelude.{ℕ, zero, suc, ◌+◌, ◌-◌, nat_lt, nat_le, if◌then◌else◌, Option, Some, None}
use Rattle.layer_map.specs.Layers.{IsFloorOf}
use Rattle.tree_law.specs.Trees.{Reference, Nothing, Leaf, Cell, Tree, Room, IsTree, span, byte_at, layer_in}
use Rattle.tree_law.specs.Trees.{way_length}

-- the child under the greatest byte below this one
abbrev pub child_or : Reference → Reference → Reference
child_or Nothing other = other
child_or (Leaf i) other = Leaf i
child_or (Cell x) other = Cell x

abbrev pub child_below : Tree → ℕ → ℕ → Reference
child_below t x zero = Nothing
child_below t x (suc b) = child_or (t.child x b) (child_below t x b)

-- the leaf under the greatest bytes
abbrev pub last_leaf : Tree → ℕ → Reference → Option ℕ
last_leaf t zero r = None
last_leaf t (suc fuel) Nothing = None
last_leaf t (suc fuel) (Leaf i) = Some i
last_leaf t (suc fuel) (Cell x) = last_leaf t fuel (child_below t x 256)

-- The leaf with the greatest key at most this one, of those below a reference and below another, whose keys are all
-- less than the key and than those of the first.
abbrev pub floor_in : Tree → ℕ → Reference → ℕ → Reference → Option ℕ
floor_in t zero r key other = None
floor_in t (suc fuel) Nothing key other = last_leaf t way_length other
floor_in t (suc fuel) (Leaf i) key other = if nat_le (t.key i) key then Some i else last_leaf t way_length other
floor_in t (suc fuel) (Cell x) key other =
    if nat_lt key (t.prefix x) then last_leaf t way_length other
    else if nat_le (t.prefix x + span (t.depth x)) key then last_leaf t way_length (Cell x)
    else floor_in t fuel (t.child x (byte_at (t.depth x) key)) key
    (child_or (child_below t x (byte_at (t.depth x) key)) other)

abbrev pub landed : Tree → Option ℕ → ℕ
landed t None = 0
landed t (Some leaf) = t.word leaf - 1

abbrev pub floor_of : Tree → ℕ → ℕ
floor_of t key = landed t (floor_in t way_length t.root key Nothing)

-- It is exact.
abbrev pub FloorIsExact : Type 0
FloorIsExact = (room : Room) (t : Tree) → IsTree room t → (key : ℕ) → IsFloorOf (layer_in t) key (floor_of t key)
