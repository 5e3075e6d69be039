-- The leaves below a reference, as a walk by recursion meets them; and what a check of a tree by recursion rests on.
use Rattle.std.specs.Prelude.{◌≢◌, ℕ, zero, suc, ◌≤◌, ◌↔◌, List, [], ◌∷◌, ◌++◌, length}
use Rattle.layer_map.specs.Layers.{HasFew}
use Rattle.tree_law.specs.Trees.{Reference, Nothing, Leaf, Cell, Tree, Room, IsCell, IsSoundFrom, IsTree, layer_in}
use Rattle.tree_law.specs.Trees.{way_length}

-- all that is gathered for the first so many bytes
abbrev pub gather : (ℕ → List ℕ) → ℕ → List ℕ
gather below zero = []
gather below (suc byte) = gather below byte ++ below byte

-- how many bytes there are
unfoldable pub bytes : ℕ
bytes = 256

abbrev pub leaves : Tree → ℕ → Reference → List ℕ
leaves t zero r = []
leaves t (suc fuel) Nothing = []
leaves t (suc fuel) (Leaf i) = i ∷ []
leaves t (suc fuel) (Cell x) = gather (λ byte. leaves t fuel (t.child x byte)) bytes

-- few keys are few leaves
abbrev pub FewIsCount : Type 0
FewIsCount = (room : Room) (t : Tree) (most : ℕ) → IsTree room t →
    HasFew most (layer_in t) ↔ (length (leaves t way_length t.root) ≤ most)

-- What is below a cell is in order exactly where the cell is, and what is below each of its children.
abbrev pub CellsByChildren : Type 0
CellsByChildren = (room : Room) (t : Tree) (x : ℕ) →
    IsSoundFrom room t (Cell x) ↔
    (IsCell room t x × ((b : ℕ) → t.child x b ≢ Nothing → IsSoundFrom room t (t.child x b)))
