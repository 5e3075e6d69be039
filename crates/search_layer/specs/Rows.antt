-- The words of the layer in a row, and its marks: what crates above say of them.
use Rattle.std.specs.Prelude.{◌≡◌, ℕ, ◌<◌, nat_lt, if◌then◌else◌, true, false, List, length, slice_set}
use Rattle.pm_words.specs.declared.layout.Layout.{Layout}
use Rattle.pm_words.specs.Locations.{Word, Root, Location, Cached, Durable, HasLocation, row_words, image_words}
use Rattle.pm_words.specs.Locations.{address_of, at, word_at}
use Rattle.pm_words.specs.Rows.{evicted}
use Rattle.tree_law.specs.Words as tree
use Rattle.tree_law.specs.Stages as stages
use Rattle.tree_row.specs.Rows as rows
use Rattle.tree_row.specs.RowMarks.{row_marks}
use Rattle.layer_map.specs.Places.{is_of_layer, IsLayerPlace}

-- the words in which a layer is kept, of one row, and the marks of what is in use
abbrev pub LayerWords : Type 0
LayerWords = tree.LayerWords

abbrev pub Marks : Type 0
Marks = stages.Marks

-- those of the cached or of the durable row, of an image, and the marks of a row
abbrev pub layer_words : Layout → List ℕ → (Word → Location) → LayerWords
layer_words l words twin = rows.layer_words l words twin

abbrev pub image_layer_words : Layout → List ℕ → LayerWords
image_layer_words l image = rows.image_layer l image

abbrev pub layer_marks : Layout → List ℕ → Marks
layer_marks l words = row_marks l words

-- each word is durable
abbrev pub AreEven : LayerWords → LayerWords → Type 0
AreEven w s = tree.AreEven w s

-- each word is that of the one or of the other
abbrev pub IsLayerMix : LayerWords → LayerWords → LayerWords → Type 0
IsLayerMix w s mix = tree.IsMix w s mix

-- the cached words of the root's line
abbrev pub root_words : Layout → List ℕ → ℕ → ℕ
root_words l words o = if nat_lt o 8 then at l words (Cached (Root o)) else 0

-- no word of the layer is another, cached or durable, no mark is, and no cached word of the root's line
pub record HasSameLayer (l : Layout) (words after : List ℕ) : Type 0 where
  pub cached : layer_words l after Cached ≡ layer_words l words Cached
  pub durable : layer_words l after Durable ≡ layer_words l words Durable
  pub marks : layer_marks l after ≡ layer_marks l words
  pub root : root_words l after ≡ root_words l words

-- no word but the layer's is another
abbrev pub KeepsOthers : Layout → List ℕ → List ℕ → Type 0
KeepsOthers l words after =
    (p : Location) → HasLocation l p → is_of_layer p ≡ false → at l after p ≡ at l words p

-- Rows that have each word of the layer alike, cached and durable, and each mark, have the same layer.
abbrev pub LayerAlike : Type 0
LayerAlike = (l : Layout) (words after : List ℕ) →
    ((p : Location) → HasLocation l p → is_of_layer p ≡ true → at l after p ≡ at l words p) →
    HasSameLayer l words after

-- A store of a word that isn't of the layer leaves those of the layer, and the marks.
abbrev pub LayerWordsStay : Type 0
LayerWordsStay = (l : Layout) (words : List ℕ) (p : Location) (word : ℕ) → HasLocation l p → is_of_layer p ≡ false →
    HasSameLayer l words (slice_set words (address_of l p) word)

-- Rows that have each word of the layer alike have the same, and so has an image.
abbrev pub RowsAlike : Type 0
RowsAlike = (l : Layout) (words after : List ℕ) (twin other : Word → Location) →
    ((w : Word) → IsLayerPlace l w → at l after (other w) ≡ at l words (twin w)) →
    layer_words l after other ≡ layer_words l words twin

abbrev pub ImagesAlike : Type 0
ImagesAlike = (l : Layout) (words image : List ℕ) (twin : Word → Location) →
    ((w : Word) → IsLayerPlace l w → word_at l image w ≡ at l words (twin w)) →
    image_layer_words l image ≡ layer_words l words twin

-- Words that are all durable are the durable ones, and so is each mix of the two.
abbrev pub EvenAreSame : Type 0
EvenAreSame = (w s : LayerWords) → AreEven w s → s ≡ w

abbrev pub MixesAreEven : Type 0
MixesAreEven = (w s mix : LayerWords) → AreEven w s → IsLayerMix w s mix → AreEven w mix

-- Whichever word becomes durable by itself, no cached word of the layer changes, nor a mark, and the durable ones are a
-- mix then.
pub record EvictsLayer (l : Layout) (words after : List ℕ) : Type 0 where
  pub cached : layer_words l after Cached ≡ layer_words l words Cached
  pub durable : IsLayerMix (layer_words l words Cached) (layer_words l words Durable) (layer_words l after Durable)
  pub marks : layer_marks l after ≡ layer_marks l words

abbrev pub EvictionMixes : Type 0
EvictionMixes = (l : Layout) (words : List ℕ) (word : ℕ) → length words ≡ row_words l → word < image_words l →
    EvictsLayer l words (evicted l words word)
