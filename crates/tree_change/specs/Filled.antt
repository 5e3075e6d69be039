-- What a filled leaf, a filled pair and a larger cell say of the tree.
use Rattle.std.specs.Prelude.{◌≡◌, ℕ, ◌+◌, ◌^◌, ◌<◌, List, slice_index}
use Rattle.pm_words.specs.Locations.{kind_words}
use Rattle.radix_nodes.specs.declared.cell.Cell as cells
use Rattle.radix_nodes.specs.Keys.{KeyWords, IsPrefixOf, EndsAt}
use Rattle.radix_nodes.specs.Cells.{IsCell, words_of}
use Rattle.radix_nodes.specs.Changes.{IsPair}
use Rattle.radix_nodes.specs.Making.{IsLarger}
use Rattle.radix_nodes.specs.Fills.{leaf_value}
use Rattle.tree_law.specs.Trees.{byte_at, low}
use Rattle.tree_law.specs.Words.{LayerWords, kind_of, number_of, reference_of, cell_in, tree_of}
use Rattle.tree_law.specs.Changes.{IsFilledLeaf, IsFilledLarger}
use Rattle.layer_map.specs.Keys.{key_number, IsKey}
use Rattle.tree_look.specs.Ends.{IsFilledPairOf}

-- A leaf in which the words of a key and its node stand is filled for it.
abbrev pub LeafIsFilled : Type 0
LeafIsFilled = (count nodes : ℕ) (w : LayerWords) (key : List ℕ) (node leaf : ℕ) → IsKey key → leaf < count →
    node < nodes → ((o : ℕ) → o < 8 → w.leaf leaf o ≡ leaf_value (slice_index key) node o) →
    IsFilledLeaf count nodes w (key_number key) node leaf

-- A cell of form 4 in which the words of a pair stand is filled for what a reference leads to and the leaf.
abbrev pub PairIsFilled : Type 0
PairIsFilled = (count nodes : ℕ) (w : LayerWords) (key : List ℕ) (prefix : KeyWords)
    (reference depth x leaf : ℕ) (pair : cells.Cell) → IsKey key → kind_of x ≡ 2 →
    number_of x < count → leaf < 2 ^ 16 → ((k : ℕ) → prefix k < 2 ^ 64) →
    IsPrefixOf depth (slice_index key) prefix → EndsAt depth prefix →
    IsPair depth prefix
    (record { byte = byte_at depth (low (tree_of w) (reference_of reference)); reference = reference })
    (record { byte = byte_at depth (key_number key); reference = 2 ^ 16 + leaf }) pair →
    ((o : ℕ) → o < 8 → cell_in w x o ≡ words_of pair o) →
    IsFilledPairOf count nodes w reference (key_number key) depth x leaf

-- these words stand in it, as far as a cell of its kind goes
abbrev pub StandsIn : LayerWords → ℕ → cells.Cell → Type 0
StandsIn w x cell = (kind_of x ≡ cell.kind) × ((o : ℕ) → o < kind_words cell.kind → cell_in w x o ≡ words_of cell o)

-- A cell in which the larger one of another cell with the leaf stands is filled for the two.
abbrev pub LargerIsFilled : Type 0
LargerIsFilled = (count nodes : ℕ) (w : LayerWords) (cell made : cells.Cell) (x larger b leaf : ℕ) → IsCell cell →
    StandsIn w x cell → IsLarger cell b (2 ^ 16 + leaf) made → StandsIn w larger made → number_of larger < count →
    leaf < 2 ^ 16 → IsFilledLarger count nodes w x larger b leaf
