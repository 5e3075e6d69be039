-- What one store of a reference makes of what is reached.
use Rattle.std.specs.Prelude.{◌≡◌, ℕ, ◌⊎◌}
use Rattle.tree_law.specs.Trees.{Reference, Nothing, Leaf, Cell, Tree, IsReached, Room, IsTree}
use Rattle.tree_law.specs.Switches.{Place, Entry, rooted, IsSwitched, Adds, Pairs, Grows, Removes, Collapses}

-- some leaves and cells
pub data Parts : Type 0 where
  NoPart : Parts
  Only : Reference → Parts
  Both : Reference → Reference → Parts

abbrev pub IsAmong : Parts → Reference → Type 0
IsAmong NoPart q = ⊥
IsAmong (Only r) q = q ≡ r
IsAmong (Both r s) q = (q ≡ r) ⊎ (q ≡ s)

-- These more are reached afterwards, those no longer; all else is reached if it was.
pub record ReachesAfter (t after : Tree) (more less : Parts) : Type 0 where
  pub comes : (q : Reference) → IsAmong more q → IsReached after q
  pub goes : (q : Reference) → IsAmong less q → IsReached after q → ⊥
  pub stays : (q : Reference) → IsReached t q → (IsAmong less q → ⊥) → IsReached after q
  pub only : (q : Reference) → IsReached after q → IsReached t q ⊎ IsAmong more q

abbrev pub AddReaches : Type 0
AddReaches = (room : Room) (t : Tree) (root : Reference) (child : ℕ → ℕ → Reference) (x b leaf : ℕ) → IsTree room t →
    Adds room t x b leaf → IsSwitched t root child (Entry x b) (Leaf leaf) →
    ReachesAfter t (rooted t root child) (Only (Leaf leaf)) NoPart

abbrev pub PairReaches : Type 0
PairReaches = (room : Room) (t : Tree) (root : Reference) (child : ℕ → ℕ → Reference) (place : Place)
    (pair old_byte leaf_byte leaf : ℕ) → IsTree room t → Pairs room t place pair old_byte leaf_byte leaf →
    (IsReached t (Cell pair) → ⊥) → IsSwitched t root child place (Cell pair) →
    ReachesAfter t (rooted t root child) (Both (Leaf leaf) (Cell pair)) NoPart

abbrev pub GrowReaches : Type 0
GrowReaches = (room : Room) (t : Tree) (root : Reference) (child : ℕ → ℕ → Reference) (place : Place)
    (x grown b leaf : ℕ) → IsTree room t → Grows room t place x grown b leaf → (IsReached t (Cell grown) → ⊥) →
    IsSwitched t root child place (Cell grown) →
    ReachesAfter t (rooted t root child) (Both (Leaf leaf) (Cell grown)) (Only (Cell x))

abbrev pub RemoveReaches : Type 0
RemoveReaches = (room : Room) (t : Tree) (root : Reference) (child : ℕ → ℕ → Reference) (x b leaf : ℕ) →
    IsTree room t → Removes t x b leaf → IsSwitched t root child (Entry x b) Nothing →
    ReachesAfter t (rooted t root child) NoPart (Only (Leaf leaf))

abbrev pub CollapseReaches : Type 0
CollapseReaches = (room : Room) (t : Tree) (root : Reference) (child : ℕ → ℕ → Reference) (place : Place)
    (x b leaf other_byte : ℕ) → IsTree room t → Collapses t place x b leaf other_byte →
    IsSwitched t root child place (t.child x other_byte) →
    ReachesAfter t (rooted t root child) NoPart (Both (Leaf leaf) (Cell x))
