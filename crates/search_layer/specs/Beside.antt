-- What parties beside the updater do, and that what a change knows stays.
use Rattle.std.specs.Prelude.{◌≡◌, ℕ, ◌<◌, false, List, length}
use Rattle.pm_words.specs.declared.layout.Layout.{Layout}
use Rattle.pm_words.specs.declared.action.Action.{Action}
use Rattle.pm_words.specs.declared.action.Action.TheVariants.{Load, Store, Exchange, Add, Drain}
use Rattle.pm_words.specs.Locations.{Word, Location, Cached, HasWord, HasLocation, row_words, image_words}
use Rattle.pm_words.specs.Locations.{word_number, address_of, at}
use Rattle.pm_words.specs.Rows.{acted, evicted}
use Rattle.layer_map.specs.Layers.{Layer}
use Rattle.tree_update.specs.Stages.{Aim}
use Rattle.search_layer.specs.Rows.{HasSameLayer}
use Rattle.search_layer.specs.Kept.{IsAtRest}
use Rattle.layer_map.specs.Places.{is_layer_word, is_of_layer}
use Rattle.search_layer.specs.ChangeStages.{Changing}
use Rattle.search_layer.specs.Laws.{SureIn}

-- It loads any word; it changes one that isn't of the layer, or drains one.
pub data ActsBeside (l : Layout) : Action → Type 0 where
  loads : {address : ℕ} → ActsBeside l (Load address)
  stores : (p : Location) {y : ℕ} → HasLocation l p → is_of_layer p ≡ false →
      ActsBeside l (Store (address_of l p) y)
  exchanges : (p : Location) {old new : ℕ} → HasLocation l p → is_of_layer p ≡ false →
      ActsBeside l (Exchange (address_of l p) old new)
  adds : (p : Location) → HasLocation l p → is_of_layer p ≡ false → ActsBeside l (Add (address_of l p))
  drains : (w : Word) {y : ℕ} → HasWord l w → is_layer_word w ≡ false → ActsBeside l (Drain (address_of l (Cached w)) y)

abbrev pub BesideLeavesLayer : Type 0
BesideLeavesLayer = (l : Layout) (words : List ℕ) (a : Action) → length words ≡ row_words l → ActsBeside l a →
    HasSameLayer l words (acted l words a)

-- A drain of a word as it is cached, whichever word it is, is what an eviction of it does.
abbrev pub DrainIsEviction : Type 0
DrainIsEviction = (l : Layout) (words : List ℕ) (w : Word) →
    acted l words (Drain (address_of l (Cached w)) (at l words (Cached w))) ≡ evicted l words (word_number l w)

-- So what a change knows of a row stays, whatever the others do, and whatever becomes durable by itself.
abbrev pub SureStays : Type 0
SureStays = (l : Layout) (before : Layer) (aim : Aim) (stage : Changing) (words after : List ℕ) →
    HasSameLayer l words after → SureIn l before aim stage words → SureIn l before aim stage after

abbrev pub OthersKeep : Type 0
OthersKeep = (l : Layout) (before : Layer) (aim : Aim) (stage : Changing) (words : List ℕ) (a : Action) →
    length words ≡ row_words l → ActsBeside l a → SureIn l before aim stage words →
    SureIn l before aim stage (acted l words a)

abbrev pub EvictionsKeep : Type 0
EvictionsKeep = (l : Layout) (before : Layer) (aim : Aim) (stage : Changing) (words : List ℕ) (word : ℕ) →
    length words ≡ row_words l → word < image_words l → SureIn l before aim stage words →
    SureIn l before aim stage (evicted l words word)

-- And where no change is made, a layer at rest stays so: in order and durable, with marks that tell what is reached.
abbrev pub RestStays : Type 0
RestStays = (l : Layout) (words after : List ℕ) → HasSameLayer l words after → IsAtRest l words → IsAtRest l after

abbrev pub RestOutlasts : Type 0
RestOutlasts = (l : Layout) (words : List ℕ) (a : Action) → length words ≡ row_words l → ActsBeside l a →
    IsAtRest l words → IsAtRest l (acted l words a)

abbrev pub RestEvicts : Type 0
RestEvicts = (l : Layout) (words : List ℕ) (word : ℕ) → length words ≡ row_words l → word < image_words l →
    IsAtRest l words → IsAtRest l (evicted l words word)
