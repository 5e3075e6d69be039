-- What a count of other children says of the tree.
use Rattle.std.specs.Prelude.{◌≢◌, ℕ, ◌^◌, ◌<◌}
use Rattle.radix_nodes.specs.Changes.{HasTwoMore, IsOneMore}
use Rattle.radix_nodes.specs.Cells.{children}
use Rattle.tree_law.specs.Trees.{Cell, IsReached}
use Rattle.tree_law.specs.Words.{LayerWords, kind_of, cell_in, tree_of, IsLawful}
use Rattle.tree_look.specs.Ends as ends

-- With two other children a leaf can go from its cell;
abbrev pub TwoAreMore : Type 0
TwoAreMore = (w : LayerWords) (cell b : ℕ) → HasTwoMore (children (kind_of cell) (cell_in w cell)) b →
    ends.HasTwoMore w cell b

-- with one, that can come in the place of the cell.
abbrev pub OneIsMore : Type 0
OneIsMore = (count nodes : ℕ) (w : LayerWords) (cell b reference : ℕ) → IsLawful count nodes w →
    IsReached (tree_of w) (Cell cell) →
    (one : IsOneMore (children (kind_of cell) (cell_in w cell)) b reference) →
    ends.HasOneMore w cell b one.other reference × (reference ≢ 0) × (reference < 2 ^ 32)
