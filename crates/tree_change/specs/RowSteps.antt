-- The end of a change, and a filling, on a row of words: what each action keeps, and whatever becomes durable by
-- itself; and what a crash leaves.
use Rattle.std.specs.Prelude.{◌≡◌, ℕ, ◌⊎◌, List, length}
use Rattle.pm_words.specs.declared.layout.Layout.{Layout}
use Rattle.pm_words.specs.Locations.{Cached, Durable, row_words}
use Rattle.pm_words.specs.Rows.{IsRow, acted, got, evicted, durable_row}
use Rattle.radix_nodes.specs.declared.fill_leaf.FillLeaf.{FillLeaf}
use Rattle.radix_nodes.specs.declared.fill_cell.FillCell.{FillCell}
use Rattle.radix_nodes.specs.Cells.{words_of}
use Rattle.radix_nodes.specs.Fills.{lines_of, IsFillLeaf, fill_leaf_asks, fill_leaf_turned}
use Rattle.radix_nodes.specs.Fills.{IsFillCell, fill_cell_asks, fill_cell_turned}
use Rattle.layer_map.specs.Layers.{Layer}
use Rattle.tree_law.specs.Words.{LayerWords, Keeps, Part, LeafPart}
use Rattle.tree_floor.specs.tree_row.specs.Rows.{layer_words, image_layer}
use Rattle.tree_change.specs.declared.finish.Finish.{Finish}
use Rattle.tree_change.specs.Finishes.{IsFinish, finish_asks, finish_turned}
use Rattle.tree_change.specs.Endings.{Ending, SureEnding, ending_at, ending_after}
use Rattle.tree_change.specs.Fillings.{FillStage, SureFilling, stage_at, leaf_words, leaf_after, cell_part, cell_after}

-- what a crash leaves of the row has this layer
abbrev pub LeavesLayer : ℕ → ℕ → Layer → Layout → List ℕ → Type 0
LeavesLayer count nodes layer l words = Keeps count nodes layer (image_layer l (durable_row l words))

-- The end of a change. What is known of the words of the layer in a row:
abbrev pub EndingIn : ℕ → ℕ → Layer → Layer → Layout → Ending → List ℕ → Type 0
EndingIn count nodes before made l e words =
    SureEnding count nodes before made e (layer_words l words Cached) (layer_words l words Durable)

-- each action keeps it, and so does whatever becomes durable by itself; a crash leaves the layer before or that made.
abbrev pub FinishActs : Type 0
FinishActs = (count nodes : ℕ) (before made : Layer) (f : Finish) (words : List ℕ) → IsFinish f →
    IsRow f.layout words → EndingIn count nodes before made f.layout (ending_at f f.at) words →
    EndingIn count nodes before made f.layout
    (ending_after (finish_turned f (got f.layout words (finish_asks f)))) (acted f.layout words (finish_asks f))

abbrev pub FinishEvicts : Type 0
FinishEvicts = (count nodes : ℕ) (before made : Layer) (l : Layout) (e : Ending) (words : List ℕ) (word : ℕ) →
    length words ≡ row_words l → EndingIn count nodes before made l e words →
    EndingIn count nodes before made l e (evicted l words word)

abbrev pub FinishCrashes : Type 0
FinishCrashes = (count nodes : ℕ) (before made : Layer) (l : Layout) (e : Ending) (words : List ℕ) →
    EndingIn count nodes before made l e words →
    LeavesLayer count nodes before l words ⊎ LeavesLayer count nodes made l words

-- A filling, in the same way; a crash leaves the layer before.
abbrev pub FillingIn : ℕ → ℕ → Layer → LayerWords → Layout → Part → ℕ → (ℕ → ℕ) → FillStage → List ℕ → Type 0
FillingIn count nodes before begun l part lines wanted f words =
    SureFilling count nodes before begun part lines wanted f (layer_words l words Cached) (layer_words l words Durable)

abbrev pub LeafActs : Type 0
LeafActs = (count nodes : ℕ) (before : Layer) (begun : LayerWords) (m : FillLeaf) (words : List ℕ) → IsFillLeaf m →
    IsRow m.layout words →
    FillingIn count nodes before begun m.layout (LeafPart m.number) 1 (leaf_words m) (stage_at 1 m.at) words →
    FillingIn count nodes before begun m.layout (LeafPart m.number) 1 (leaf_words m)
    (leaf_after (fill_leaf_turned m (got m.layout words (fill_leaf_asks m))))
    (acted m.layout words (fill_leaf_asks m))

abbrev pub CellActs : Type 0
CellActs = (count nodes : ℕ) (before : Layer) (begun : LayerWords) (m : FillCell) (words : List ℕ) → IsFillCell m →
    IsRow m.layout words →
    FillingIn count nodes before begun m.layout (cell_part m) (lines_of m.cell.kind) (words_of m.cell)
    (stage_at (lines_of m.cell.kind) m.at) words →
    FillingIn count nodes before begun m.layout (cell_part m) (lines_of m.cell.kind) (words_of m.cell)
    (cell_after m (fill_cell_turned m (got m.layout words (fill_cell_asks m))))
    (acted m.layout words (fill_cell_asks m))

abbrev pub FillEvicts : Type 0
FillEvicts = (count nodes : ℕ) (before : Layer) (begun : LayerWords) (l : Layout) (part : Part) (lines : ℕ)
    (wanted : ℕ → ℕ) (f : FillStage) (words : List ℕ) (word : ℕ) → length words ≡ row_words l →
    FillingIn count nodes before begun l part lines wanted f words →
    FillingIn count nodes before begun l part lines wanted f (evicted l words word)

abbrev pub FillCrashes : Type 0
FillCrashes = (count nodes : ℕ) (before : Layer) (begun : LayerWords) (l : Layout) (part : Part) (lines : ℕ)
    (wanted : ℕ → ℕ) (f : FillStage) (words : List ℕ) →
    FillingIn count nodes before begun l part lines wanted f words → LeavesLayer count nodes before l words
