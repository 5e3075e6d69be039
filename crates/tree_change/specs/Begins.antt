-- From what the machines have found to where the end of a change may begin.
use Rattle.std.specs.Prelude.{◌≡◌, ◌≢◌, ℕ, ◌+◌, ◌-◌, ◌/◌, ◌%◌, ◌^◌, ◌<◌, ◌≤◌, ◌==◌, if◌then◌else◌, Some, None}
use Rattle.cat_key.specs.declared.TheConstants.{WORDS}
use Rattle.radix_nodes.specs.Bytes.{byte_set}
use Rattle.radix_nodes.specs.Cells.{children}
use Rattle.radix_nodes.specs.Changes.{with_word, IsCellStore, HasTwoMore, IsOneMore}
use Rattle.layer_map.specs.Layers.{Layer, changed_at}
use Rattle.tree_law.specs.Trees.{Cell, byte_at}
use Rattle.tree_law.specs.Switches.{Root}
use Rattle.tree_law.specs.Words.{LayerWords, kind_of, reference_of, cell_in, tree_of, Keeps}
use Rattle.tree_law.specs.Changes.{IsFilledLeaf, IsFilledLarger}
use Rattle.tree_look.specs.declared.look.Spot.{Spot}
use Rattle.tree_look.specs.declared.look.Looked.TheVariants as looked
use Rattle.tree_look.specs.LookLaws.{IsLooked}
use Rattle.tree_look.specs.Ends.{IsFilledPairOf}
use Rattle.tree_change.specs.declared.finish.Target.{Target}
use Rattle.tree_change.specs.declared.finish.Target.TheVariants as target
use Rattle.tree_change.specs.Endings.{Switches}

-- where a spot's word is
abbrev pub spot_target : Spot → Target
spot_target spot = if spot.cell == 0 then target.Root else target.Cell spot.cell spot.offset

-- A set of a key that is there.
abbrev pub SetBegins : Type 0
SetBegins = (count nodes : ℕ) (before : Layer) (w : LayerWords) (key leaf word : ℕ) (outer inner : Spot) →
    Keeps count nodes before w → IsLooked w key (looked.Key outer inner leaf) → word ≢ 0 → word ≤ nodes →
    Switches count nodes (changed_at before key (Some (word - 1))) w (target.Leaf leaf WORDS) word

-- A set of a new key by a pair, and by a larger cell, once the leaf and the cell are filled.
abbrev pub PairBegins : Type 0
PairBegins = (count nodes : ℕ) (before : Layer) (w : LayerWords) (key node reference depth byte pair leaf : ℕ)
    (spot : Spot) → Keeps count nodes before w → IsLooked w key (looked.Parts spot reference depth byte) →
    IsFilledLeaf count nodes w key node leaf → IsFilledPairOf count nodes w reference key depth pair leaf →
    reference_of pair ≡ Cell pair → pair < 2 ^ 32 →
    Switches count nodes (changed_at before key (Some node)) w (spot_target spot) (spot.high + pair)

abbrev pub GrowBegins : Type 0
GrowBegins = (count nodes : ℕ) (before : Layer) (w : LayerWords) (key node cell depth grown leaf : ℕ) (spot : Spot) →
    Keeps count nodes before w → IsLooked w key (looked.Nothing spot cell depth) →
    IsFilledLeaf count nodes w key node leaf → IsFilledLarger count nodes w cell grown (byte_at depth key) leaf →
    reference_of grown ≡ Cell grown → grown < 2 ^ 32 →
    Switches count nodes (changed_at before key (Some node)) w (spot_target spot) (spot.high + grown)

-- An unset that takes the leaf out of its cell: from a count of two, and a store by which nothing is under the byte.
abbrev pub RemoveBegins : Type 0
RemoveBegins = (count nodes : ℕ) (before : Layer) (w : LayerWords) (key leaf b offset word : ℕ) (outer inner : Spot) →
    Keeps count nodes before w → (found : IsLooked w key (looked.Key outer inner leaf)) → found.1.0 ≢ Root →
    b ≡ byte_at ((tree_of w).depth inner.cell) key →
    HasTwoMore (children (kind_of inner.cell) (cell_in w inner.cell)) b →
    IsCellStore (kind_of inner.cell) (cell_in w inner.cell) (with_word (cell_in w inner.cell) offset word) b 0 →
    Switches count nodes (changed_at before key None) w (target.Cell inner.cell offset) word

-- That store: a 0 into the leaf's spot; or, in a cell with an index, a 0 into the byte's place there.
abbrev pub ClearBegins : Type 0
ClearBegins = (count nodes : ℕ) (before : Layer) (w : LayerWords) (key leaf b : ℕ) (outer inner : Spot) →
    Keeps count nodes before w → (found : IsLooked w key (looked.Key outer inner leaf)) → found.1.0 ≢ Root →
    b ≡ byte_at ((tree_of w).depth inner.cell) key → kind_of inner.cell ≢ 4 →
    HasTwoMore (children (kind_of inner.cell) (cell_in w inner.cell)) b →
    Switches count nodes (changed_at before key None) w (spot_target inner) 0

abbrev pub UnindexBegins : Type 0
UnindexBegins = (count nodes : ℕ) (before : Layer) (w : LayerWords) (key leaf b index : ℕ) (outer inner : Spot) →
    Keeps count nodes before w → (found : IsLooked w key (looked.Key outer inner leaf)) → found.1.0 ≢ Root →
    b ≡ byte_at ((tree_of w).depth inner.cell) key → kind_of inner.cell ≡ 4 → index ≡ cell_in w inner.cell (8 + b / 8) →
    HasTwoMore (children (kind_of inner.cell) (cell_in w inner.cell)) b →
    Switches count nodes (changed_at before key None) w (target.Cell inner.cell (8 + b / 8)) (byte_set index (b % 8) 0)

-- An unset that collapses: from a count of one.
abbrev pub CollapseBegins : Type 0
CollapseBegins = (count nodes : ℕ) (before : Layer) (w : LayerWords) (key leaf b reference : ℕ) (outer inner : Spot) →
    Keeps count nodes before w → (found : IsLooked w key (looked.Key outer inner leaf)) → found.1.0 ≢ Root →
    b ≡ byte_at ((tree_of w).depth inner.cell) key → reference_of inner.cell ≡ Cell inner.cell →
    IsOneMore (children (kind_of inner.cell) (cell_in w inner.cell)) b reference →
    Switches count nodes (changed_at before key None) w (spot_target outer) (outer.high + reference)
