-- A tree has at most as many leaves, and at most as many cells, as keys: so one of each kind is free.
use Rattle.std.specs.Prelude.{◌≡◌, ◌≢◌, ℕ, ◌<◌, ◌≤◌}
use Rattle.layer_map.specs.Layers.{HasFew}
use Rattle.tree_law.specs.Trees.{Nothing, Leaf, Cell, Tree, IsReached, Room, IsTree, layer_in}

abbrev pub LeavesAreFew : Type 0
LeavesAreFew = (room : Room) (t : Tree) (most : ℕ) → IsTree room t → HasFew most (layer_in t) →
    (count : ℕ) (leaf : ℕ → ℕ) → ((i : ℕ) → i < count → IsReached t (Leaf (leaf i))) →
    ((i j : ℕ) → i < count → j < count → leaf i ≡ leaf j → i ≡ j) → count ≤ most

abbrev pub CellsAreFew : Type 0
CellsAreFew = (room : Room) (t : Tree) (most : ℕ) → IsTree room t → HasFew most (layer_in t) →
    (count : ℕ) (cell : ℕ → ℕ) → ((i : ℕ) → i < count → IsReached t (Cell (cell i))) →
    ((i j : ℕ) → i < count → j < count → cell i ≡ cell j → i ≡ j) → count ≤ most

-- No leaf and no cell is reached by two ways: children that are one are of one cell, by one byte, and the root is none.
abbrev pub ReachedOnce : Type 0
ReachedOnce = (room : Room) (t : Tree) → IsTree room t → (x y a b : ℕ) → IsReached t (Cell x) → IsReached t (Cell y) →
    t.child x a ≢ Nothing → t.child x a ≡ t.child y b → (x ≡ y) × (a ≡ b)

abbrev pub RootIsNoChild : Type 0
RootIsNoChild = (room : Room) (t : Tree) → IsTree room t → (x b : ℕ) → IsReached t (Cell x) → t.child x b ≢ t.root
