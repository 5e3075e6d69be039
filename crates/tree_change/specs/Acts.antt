-- What the actions of a change make of the words of the layer in a row.
use Rattle.std.specs.Prelude.{◌≡◌, ℕ, List, length}
use Rattle.pm_words.specs.declared.layout.Layout.{Layout}
use Rattle.pm_words.specs.declared.action.Action.{Action}
use Rattle.pm_words.specs.Locations.{Cached, Durable, row_words}
use Rattle.pm_words.specs.Rows.{acted, got}
use Rattle.radix_nodes.specs.declared.fill_leaf.FillLeaf.{FillLeaf}
use Rattle.radix_nodes.specs.declared.fill_cell.FillCell.{FillCell}
use Rattle.radix_nodes.specs.Cells.{words_of}
use Rattle.radix_nodes.specs.Fills.{IsFillLeaf, fill_leaf_asks, IsFillCell, fill_cell_asks}
use Rattle.tree_law.specs.Words.{LeafPart}
use Rattle.tree_floor.specs.tree_row.specs.Rows.{HasLayerWord, layer_words, TwinsStay}
use Rattle.tree_change.specs.declared.take.Take.{Take}
use Rattle.tree_change.specs.Takes.{IsTake, take_asks}
use Rattle.tree_change.specs.declared.finish.Finish.{Finish}
use Rattle.tree_change.specs.Finishes.{IsFinish, finish_asks}
use Rattle.tree_change.specs.Endings.{Effect, Loads, Stores, Drains, Beside, Happens, HasEffect}
use Rattle.tree_change.specs.Endings as endings
use Rattle.tree_change.specs.Fillings.{effect_at, leaf_words, cell_part}

-- the effect is on a word of the layer that the row has; and of a load it has the number that the action gives
abbrev pub IsWithin : Layout → Effect → Type 0
IsWithin l (Loads p x) = HasLayerWord l p
IsWithin l (Stores p y) = HasLayerWord l p
IsWithin l (Drains p y) = HasLayerWord l p
IsWithin l Beside = Unit {0}

abbrev pub IsTold : Effect → ℕ → Type 0
IsTold (Loads p x) number = x ≡ number
IsTold (Stores p y) number = Unit {0}
IsTold (Drains p y) number = Unit {0}
IsTold Beside number = Unit {0}

-- The action does this to the words of the layer in both twins.
abbrev pub HappensIn : Layout → List ℕ → Action → Effect → Type 0
HappensIn l words a effect =
    Happens effect (layer_words l words Cached) (layer_words l words Durable) (layer_words l (acted l words a) Cached)
    (layer_words l (acted l words a) Durable)

-- An action that has an effect does that.
abbrev pub ActionHappens : Type 0
ActionHappens = (l : Layout) (words : List ℕ) (a : Action) (effect : Effect) → length words ≡ row_words l →
    HasEffect l a effect → IsWithin l effect → IsTold effect (got l words a) → HappensIn l words a effect

-- So does each action of a finish and of a filling; and none of a take changes a word of the layer.
abbrev pub FinishHappens : Type 0
FinishHappens = (f : Finish) (words : List ℕ) → IsFinish f → length words ≡ row_words f.layout →
    HappensIn f.layout words (finish_asks f) (endings.effect_at f f.at (got f.layout words (finish_asks f)))

abbrev pub LeafHappens : Type 0
LeafHappens = (m : FillLeaf) (words : List ℕ) → IsFillLeaf m → length words ≡ row_words m.layout →
    HappensIn m.layout words (fill_leaf_asks m)
    (effect_at (LeafPart m.number) (leaf_words m) m.at (got m.layout words (fill_leaf_asks m)))

abbrev pub CellHappens : Type 0
CellHappens = (m : FillCell) (words : List ℕ) → IsFillCell m → length words ≡ row_words m.layout →
    HappensIn m.layout words (fill_cell_asks m)
    (effect_at (cell_part m) (words_of m.cell) m.at (got m.layout words (fill_cell_asks m)))

abbrev pub TakeLeaves : Type 0
TakeLeaves = (take : Take) (words : List ℕ) → IsTake take → length words ≡ row_words take.layout →
    TwinsStay take.layout words (acted take.layout words (take_asks take))
