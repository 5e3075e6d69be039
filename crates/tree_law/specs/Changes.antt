-- A set and an unset, from what the key's way has come to, to the store that makes them, on words.
use Rattle.std.specs.Prelude.{◌≡◌, ◌≢◌, ℕ, ◌+◌, ◌<◌, Some, None}
use Rattle.tree_law.specs.Trees.{Nothing, Leaf, Cell, IsLeaf, low, depth_of}
use Rattle.radix_nodes.specs.Cells.{IsForm}
use Rattle.tree_law.specs.Switches.{Place, Entry, reference_at, IsGrownOf, Removes, Collapses}
use Rattle.tree_law.specs.Paths.{Comes, PartsAt, IsFilledPair}
use Rattle.tree_law.specs.Words.{LayerWords, kind_of, cell_in, reference_of, tree_of, room_of, IsLawful, ChangesKey}
use Rattle.tree_law.specs.Words.{IsSwitchStore}

-- the leaf that a set has filled
pub record IsFilledLeaf (count nodes : ℕ) (w : LayerWords) (key node leaf : ℕ) : Type 0 where
  pub sound : IsLeaf (room_of count nodes) (tree_of w) leaf
  pub key_is : (tree_of w).key leaf ≡ key
  pub word : (tree_of w).word leaf ≡ node + 1

-- the cell that takes the place of a full one
pub record IsFilledLarger (count nodes : ℕ) (w : LayerWords) (x grown b leaf : ℕ) : Type 0 where
  pub cell : IsGrownOf (room_of count nodes) (tree_of w) x grown b leaf
  pub form : IsForm (kind_of grown) (cell_in w grown)

abbrev pub SetAdds : Type 0
SetAdds = (count nodes : ℕ) (w w' : LayerWords) (key node leaf x b reference : ℕ) → IsLawful count nodes w →
    Comes (tree_of w) key (Entry x b) → (tree_of w).child x b ≡ Nothing → IsFilledLeaf count nodes w key node leaf →
    reference_of reference ≡ Leaf leaf → IsSwitchStore w w' (Entry x b) reference →
    ChangesKey count nodes w w' key (Some node)

abbrev pub SetPairs : Type 0
SetPairs = (count nodes : ℕ) (w w' : LayerWords) (place : Place) (key node depth pair leaf : ℕ) →
    IsLawful count nodes w → Comes (tree_of w) key place → reference_at (tree_of w) place ≢ Nothing →
    PartsAt depth key (low (tree_of w) (reference_at (tree_of w) place)) →
    depth < depth_of (tree_of w) (reference_at (tree_of w) place) → IsFilledLeaf count nodes w key node leaf →
    IsFilledPair (room_of count nodes) (tree_of w) place key depth pair leaf → IsForm (kind_of pair) (cell_in w pair) →
    reference_of pair ≡ Cell pair → IsSwitchStore w w' place pair → ChangesKey count nodes w w' key (Some node)

abbrev pub SetGrows : Type 0
SetGrows = (count nodes : ℕ) (w w' : LayerWords) (place : Place) (key node x grown b leaf : ℕ) →
    IsLawful count nodes w → Comes (tree_of w) key place → reference_at (tree_of w) place ≡ Cell x →
    Comes (tree_of w) key (Entry x b) → (tree_of w).child x b ≡ Nothing → IsFilledLeaf count nodes w key node leaf →
    IsFilledLarger count nodes w x grown b leaf → reference_of grown ≡ Cell grown → IsSwitchStore w w' place grown →
    ChangesKey count nodes w w' key (Some node)

abbrev pub UnsetRemoves : Type 0
UnsetRemoves = (count nodes : ℕ) (w w' : LayerWords) (key x b leaf : ℕ) → IsLawful count nodes w →
    Removes (tree_of w) x b leaf → (tree_of w).key leaf ≡ key → IsSwitchStore w w' (Entry x b) 0 →
    ChangesKey count nodes w w' key None

abbrev pub UnsetCollapses : Type 0
UnsetCollapses = (count nodes : ℕ) (w w' : LayerWords) (place : Place) (key x b leaf other_byte reference : ℕ) →
    IsLawful count nodes w → Collapses (tree_of w) place x b leaf other_byte → (tree_of w).key leaf ≡ key →
    reference_of reference ≡ (tree_of w).child x other_byte → IsSwitchStore w w' place reference →
    ChangesKey count nodes w w' key None
