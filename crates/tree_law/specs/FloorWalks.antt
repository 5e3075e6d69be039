-- A floor as a walk that keeps two references, told of one leaf or cell at a time: exact where nobody writes, and short
-- and within the nodes whatever it is told.
use Rattle.std.specs.Prelude.{ℕ, zero, suc, ◌+◌, ◌-◌, ◌*◌, ◌<◌, ◌==◌, ◌||◌, nat_lt, nat_le, Bool, true, false}
use Rattle.std.specs.Prelude.{if◌then◌else◌, Option, Some, None, IsSomeAnd}
use Rattle.layer_map.specs.Layers.{IsFloorOf}
use Rattle.tree_law.specs.Trees.{Reference, Nothing, Leaf, Cell, Tree, Room, IsTree, span, byte_at, layer_in}
use Rattle.tree_law.specs.Floors.{child_or, child_below}
use Rattle.tree_law.specs.Trees.{way_length}
use Rattle.radix_nodes.specs.Keys.{key_bytes}

-- Where it is, and where it goes if all keys here are greater than its own; how deep each of the two has to be; and
-- whether all keys here are at most its own, so that it wants the last of them.
pub record FloorWalk : Type 0 where
  pub at : Reference
  pub other : Reference
  pub least : ℕ
  pub other_least : ℕ
  pub last : Bool

-- what it is told: of a leaf its key and its node word; of a cell its depth and prefix, the child under a byte, and the
-- child under the greatest byte below that one
pub record View : Type 0 where
  pub key : ℕ
  pub word : ℕ
  pub depth : ℕ
  pub prefix : ℕ
  pub child : Reference
  pub below : Reference

-- it goes on, or answers a node
pub data Walked : Type 0 where
  On : FloorWalk → Walked
  At : ℕ → Walked

abbrev pub starts : Reference → FloorWalk
starts root = record { at = root; other = Nothing; least = 0; other_least = 0; last = false }

-- a node word that is in range leads to its node
abbrev pub node_told : ℕ → ℕ → ℕ
node_told nodes word = if word == 0 || nat_lt nodes word then 0 else word - 1

abbrev pub to_last : Reference → ℕ → FloorWalk
to_last r least = record { at = r; other = Nothing; least = least; other_least = 0; last = true }

-- to the other reference, if there is one
abbrev pub goes_back : FloorWalk → Reference → Walked
goes_back f Nothing = At 0
goes_back f (Leaf i) = On (to_last (Leaf i) f.other_least)
goes_back f (Cell x) = On (to_last (Cell x) f.other_least)

abbrev pub back : FloorWalk → Walked
back f = if f.last then At 0 else goes_back f f.other

-- how deep the better of the two has to be
abbrev pub least_of : Reference → ℕ → ℕ → ℕ
least_of Nothing depth other = other
least_of (Leaf i) depth other = depth + 1
least_of (Cell x) depth other = depth + 1

abbrev pub goes_down : FloorWalk → View → FloorWalk
goes_down f v = record {
  at = v.child;
  other = child_or v.below f.other;
  least = v.depth + 1;
  other_least = least_of v.below v.depth f.other_least;
  last = false;
}

abbrev pub in_cell : ℕ → FloorWalk → View → Walked
in_cell key f v =
    if f.last then On (to_last v.below (v.depth + 1))
    else if nat_lt key v.prefix then back f
    else if nat_le (v.prefix + span v.depth) key then On (to_last v.below (v.depth + 1))
    else On (goes_down f v)

abbrev pub walked : ℕ → ℕ → FloorWalk → View → Reference → Walked
walked nodes key f v Nothing = back f
walked nodes key f v (Leaf i) = if f.last || nat_le v.key key then At (node_told nodes v.word) else back f
walked nodes key f v (Cell x) =
    if nat_lt v.depth f.least || nat_le key_bytes v.depth then At 0 else in_cell key f v

abbrev pub walks : ℕ → ℕ → FloorWalk → View → Walked
walks nodes key f v = walked nodes key f v f.at

-- how many leaves and cells it is told of from here on, at most
abbrev pub walk_left : FloorWalk → ℕ
walk_left f = (if f.last then 0 else way_length + 1) + (way_length - f.least)

-- whatever it is told, it has less before it, or answers a node
abbrev pub WalkedBelow : ℕ → ℕ → Walked → Type 0
WalkedBelow nodes left (On f) = walk_left f < left
WalkedBelow nodes left (At node) = node < nodes

abbrev pub WalksEnd : Type 0
WalksEnd = (nodes key : ℕ) (f : FloorWalk) (v : View) → 0 < nodes →
    WalkedBelow nodes (walk_left f) (walks nodes key f v)

-- Of a tree that stays as it is, the view of where it is: in a cell the byte is that of the key, or none is wanted.

abbrev pub byte_wanted : Tree → ℕ → FloorWalk → ℕ → ℕ
byte_wanted t key f x =
    if f.last || nat_le (t.prefix x + span (t.depth x)) key then 256 else byte_at (t.depth x) key

abbrev pub view_at : Tree → ℕ → FloorWalk → Reference → View
view_at t key f Nothing = record { key = 0; word = 0; depth = 0; prefix = 0; child = Nothing; below = Nothing }
view_at t key f (Leaf i) =
    record { key = t.key i; word = t.word i; depth = 0; prefix = 0; child = Nothing; below = Nothing }
view_at t key f (Cell x) = record {
  key = 0;
  word = 0;
  depth = t.depth x;
  prefix = t.prefix x;
  child = t.child x (byte_wanted t key f x);
  below = child_below t x (byte_wanted t key f x);
}

abbrev pub walked_on : Walked → (FloorWalk → Option ℕ) → Option ℕ
walked_on (On f) answer = answer f
walked_on (At node) answer = Some node

-- its answer, told of so many leaves and cells
abbrev pub walk_answer : ℕ → Room → Tree → ℕ → FloorWalk → Option ℕ
walk_answer zero room t key f = None
walk_answer (suc more) room t key f =
    walked_on (walks room.nodes key f (view_at t key f f.at)) (walk_answer more room t key)

abbrev pub WalkIsExact : Type 0
WalkIsExact = (room : Room) (t : Tree) → IsTree room t → (key : ℕ) →
    IsSomeAnd (walk_answer (2 * (way_length + 1)) room t key (starts t.root)) (λ node. IsFloorOf (layer_in t) key node)
