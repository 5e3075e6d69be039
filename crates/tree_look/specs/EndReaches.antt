-- From where a look has ended to what the tree reaches once the store is made that makes the change.
use Rattle.std.specs.Prelude.{◌≡◌, ◌≢◌, ℕ, ◌+◌, ◌^◌, ◌<◌}
use Rattle.tree_law.specs.Trees.{Leaf, Cell, IsReached, byte_at}
use Rattle.tree_law.specs.Switches.{Root, Entry}
use Rattle.tree_law.specs.Words.{LayerWords, reference_of, tree_of, IsLawful, Stored, IsSwitchStore}
use Rattle.tree_law.specs.Changes.{IsFilledLeaf, IsFilledLarger}
use Rattle.tree_law.specs.Reached.{NoPart, Only, Both}
use Rattle.tree_law.specs.Marking.{ReachesThen}
use Rattle.tree_look.specs.declared.look.Spot.{Spot}
use Rattle.tree_look.specs.declared.look.Looked.TheVariants as looked
use Rattle.tree_look.specs.LookLaws.{spot_word, IsLooked}
use Rattle.tree_look.specs.Ends.{IsFilledPairOf, HasTwoMore, HasOneMore}

-- A leaf comes into a cell that has room.
abbrev pub LeafAddReaches : Type 0
LeafAddReaches = (count nodes : ℕ) (w w' : LayerWords) (key node cell depth leaf reference : ℕ) (spot : Spot) →
    IsLawful count nodes w → IsLooked w key (looked.Nothing spot cell depth) →
    IsFilledLeaf count nodes w key node leaf → reference_of reference ≡ Leaf leaf →
    IsSwitchStore w w' (Entry cell (byte_at depth key)) reference → ReachesThen w w' (Only (Leaf leaf)) NoPart

-- A larger cell comes in the place of one, and a pair in the place of what is there; they weren't reached.
abbrev pub CellGrowReaches : Type 0
CellGrowReaches = (count nodes : ℕ) (w w' : LayerWords) (key node cell depth grown leaf : ℕ) (spot : Spot) →
    IsLawful count nodes w → IsLooked w key (looked.Nothing spot cell depth) →
    IsFilledLeaf count nodes w key node leaf → IsFilledLarger count nodes w cell grown (byte_at depth key) leaf →
    (IsReached (tree_of w) (Cell grown) → ⊥) → reference_of grown ≡ Cell grown → grown < 2 ^ 32 →
    Stored w w' (spot_word spot) (spot.high + grown) →
    ReachesThen w w' (Both (Leaf leaf) (Cell grown)) (Only (Cell cell))

abbrev pub PairMakeReaches : Type 0
PairMakeReaches = (count nodes : ℕ) (w w' : LayerWords) (key node reference depth byte pair leaf : ℕ) (spot : Spot) →
    IsLawful count nodes w → IsLooked w key (looked.Parts spot reference depth byte) →
    IsFilledLeaf count nodes w key node leaf → IsFilledPairOf count nodes w reference key depth pair leaf →
    (IsReached (tree_of w) (Cell pair) → ⊥) → reference_of pair ≡ Cell pair → pair < 2 ^ 32 →
    Stored w w' (spot_word spot) (spot.high + pair) → ReachesThen w w' (Both (Leaf leaf) (Cell pair)) NoPart

-- A leaf goes from its cell, and the other child comes in the place of a cell of two.
abbrev pub LeafRemoveReaches : Type 0
LeafRemoveReaches = (count nodes : ℕ) (w w' : LayerWords) (key leaf b : ℕ) (outer inner : Spot) →
    IsLawful count nodes w → (found : IsLooked w key (looked.Key outer inner leaf)) → found.1.0 ≢ Root →
    b ≡ byte_at ((tree_of w).depth inner.cell) key → HasTwoMore w inner.cell b →
    IsSwitchStore w w' (Entry inner.cell b) 0 → ReachesThen w w' NoPart (Only (Leaf leaf))

abbrev pub CellCollapseReaches : Type 0
CellCollapseReaches = (count nodes : ℕ) (w w' : LayerWords) (key leaf b other_byte reference : ℕ)
    (outer inner : Spot) → IsLawful count nodes w → (found : IsLooked w key (looked.Key outer inner leaf)) →
    found.1.0 ≢ Root → b ≡ byte_at ((tree_of w).depth inner.cell) key →
    HasOneMore w inner.cell b other_byte reference → reference_of inner.cell ≡ Cell inner.cell → reference ≢ 0 →
    reference < 2 ^ 32 → Stored w w' (spot_word outer) (outer.high + reference) →
    ReachesThen w w' NoPart (Both (Leaf leaf) (Cell inner.cell))
