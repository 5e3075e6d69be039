-- The words of the layer in a row, as either twin has them, and what actions make of them.
use Rattle.std.specs.Prelude.{◌≡◌, ℕ, ◌^◌, ◌<◌, ◌≤◌, ◌&&◌, nat_lt, nat_le, if◌then◌else◌, Bool, true, List, Some}
use Rattle.std.specs.Prelude.{length, slice_index, slice_set}
use Rattle.pm_words.specs.declared.layout.Layout.{Layout}
use Rattle.pm_words.specs.declared.action.Action.TheVariants.{Load, Store, Drain}
use Rattle.pm_words.specs.Locations.{Word, Header, Root, Node, Line, Leaf, Cell, HasWord}
use Rattle.pm_words.specs.Locations.{Location, Clock, Updater, Volatile, Mark, Cached, Durable, HasLocation}
use Rattle.pm_words.specs.Locations.{leaf_count, kind_words, row_words, address_of, at, word_at}
use Rattle.pm_words.specs.Images.{IsImage, fresh_words}
use Rattle.pm_words.specs.Layouts.{IsLayout}
use Rattle.pm_words.specs.Rows.{acted, evicted, durable_row, row_of}
use Rattle.pm_words.specs.Offsets.{reference_offset}
use Rattle.tree_law.specs.layer_map.specs.Layers.{HasFew}
use Rattle.tree_law.specs.Fresh as tree
use Rattle.tree_law.specs.Words.{LayerWord, RootWord, LeafWord, CellWord, LayerWords, word_in, layer_of, Keeps}
use Rattle.tree_law.specs.Words.{Stored, IsMix}

-- the name of a word of the layer in an image, and the address of its cached twin
abbrev pub image_word : LayerWord → Word
image_word RootWord = Root reference_offset
image_word (LeafWord i o) = Leaf i o
image_word (CellWord kind n o) = Cell kind n o

abbrev pub layer_address : Layout → LayerWord → ℕ
layer_address l p = address_of l (Cached (image_word p))

-- the words of the layer that a row of this layout has
abbrev pub HasLayerWord : Layout → LayerWord → Type 0
HasLayerWord l p = HasWord l (image_word p)

abbrev pub has_layer_word : Layout → LayerWord → Bool
has_layer_word l RootWord = true
has_layer_word l (LeafWord i o) = nat_lt i (leaf_count l) && nat_lt o 8
has_layer_word l (CellWord kind n o) =
    nat_le 2 kind && nat_le kind 5 && nat_lt n (leaf_count l) && nat_lt o (kind_words kind)

-- a word of the layer as a twin of the row has it, or 0 where the row has no such word; and all of them
abbrev pub layer_word : Layout → List ℕ → (Word → Location) → LayerWord → ℕ
layer_word l words twin p = if has_layer_word l p then at l words (twin (image_word p)) else 0

abbrev pub layer_words : Layout → List ℕ → (Word → Location) → LayerWords
layer_words l words twin = record {
  root = layer_word l words twin RootWord;
  leaf = λ i o. layer_word l words twin (LeafWord i o);
  cell = λ kind n o. layer_word l words twin (CellWord kind n o);
}

abbrev pub ReadsWords : Type 0
ReadsWords = (l : Layout) (words : List ℕ) (twin : Word → Location) (p : LayerWord) → HasLayerWord l p →
    word_in (layer_words l words twin) p ≡ at l words (twin (image_word p))

-- and each has 64 bits where those of the row have
abbrev pub ReadsFit : Type 0
ReadsFit = (l : Layout) (words : List ℕ) (twin : Word → Location) (p : LayerWord) →
    ((k : ℕ) → slice_index words k < 2 ^ 64) → word_in (layer_words l words twin) p < 2 ^ 64

-- rows in which these words are the same have the same layer
abbrev pub RowsAlike : Type 0
RowsAlike = (l : Layout) (words words' : List ℕ) (twin : Word → Location) →
    ((p : LayerWord) → HasLayerWord l p → at l words' (twin (image_word p)) ≡ at l words (twin (image_word p))) →
    layer_words l words' twin ≡ layer_words l words twin

-- The words of the layer in an image; of the one that a crash leaves they are those of the durable twin.
abbrev pub image_layer_word : Layout → List ℕ → LayerWord → ℕ
image_layer_word l image p = if has_layer_word l p then word_at l image (image_word p) else 0

abbrev pub image_layer : Layout → List ℕ → LayerWords
image_layer l image = record {
  root = image_layer_word l image RootWord;
  leaf = λ i o. image_layer_word l image (LeafWord i o);
  cell = λ kind n o. image_layer_word l image (CellWord kind n o);
}

abbrev pub CrashReads : Type 0
CrashReads = (l : Layout) (words : List ℕ) → image_layer l (durable_row l words) ≡ layer_words l words Durable

-- A fresh image has that of an empty catalogue.
abbrev pub FreshReads : Type 0
FreshReads = (l : Layout) → IsLayout l → image_layer l (fresh_words l) ≡ tree.fresh_words

-- So it is in order, and leads the zero key alone, to node 0.
pub record IsFreshLayer (l : Layout) (w : LayerWords) : Type 0 where
  pub keeps : Keeps (leaf_count l) l.nodes tree.fresh_layer w
  pub few : HasFew l.nodes (layer_of w)
  pub first : (key node : ℕ) → layer_of w key ≡ Some node → (key ≡ 0) × (node ≡ 0)

abbrev pub FreshKeeps : Type 0
FreshKeeps = (l : Layout) → IsLayout l → IsFreshLayer l (image_layer l (fresh_words l))

-- A row that is made of an image has its layer in both twins.
abbrev pub ImageReads : Type 0
ImageReads = (l : Layout) (image : List ℕ) → IsImage l image →
    (layer_words l (row_of l image) Cached ≡ image_layer l image) ×
    (layer_words l (row_of l image) Durable ≡ image_layer l image)

-- both twins have the words of the layer as they were
abbrev pub TwinsStay : Layout → List ℕ → List ℕ → Type 0
TwinsStay l words words' =
    (layer_words l words' Cached ≡ layer_words l words Cached) ×
    (layer_words l words' Durable ≡ layer_words l words Durable)

abbrev pub LoadLeaves : Type 0
LoadLeaves = (l : Layout) (words : List ℕ) (address : ℕ) → length words ≡ row_words l →
    TwinsStay l words (acted l words (Load address))

-- A store of a word of the layer changes it in the cached twin alone, and a drain of it in the durable one.
abbrev pub StoreMakes : Type 0
StoreMakes = (l : Layout) (words : List ℕ) (p : LayerWord) (word : ℕ) → length words ≡ row_words l →
    HasLayerWord l p →
    Stored (layer_words l words Cached) (layer_words l (acted l words (Store (layer_address l p) word)) Cached) p word ×
    (layer_words l (acted l words (Store (layer_address l p) word)) Durable ≡ layer_words l words Durable)

abbrev pub DrainMakes : Type 0
DrainMakes = (l : Layout) (words : List ℕ) (p : LayerWord) (word : ℕ) → length words ≡ row_words l →
    HasLayerWord l p →
    (layer_words l (acted l words (Drain (layer_address l p) word)) Cached ≡ layer_words l words Cached) ×
    Stored (layer_words l words Durable) (layer_words l (acted l words (Drain (layer_address l p) word)) Durable) p word

-- The words of the root's line behind the first are none of the layer, nor are those of headers, nodes and log lines.
abbrev pub IsOutsideWord : Word → Type 0
IsOutsideWord (Header o) = Unit {0}
IsOutsideWord (Root o) = 1 ≤ o
IsOutsideWord (Node n o) = Unit {0}
IsOutsideWord (Line c j o) = Unit {0}
IsOutsideWord (Leaf k o) = ⊥
IsOutsideWord (Cell kind k o) = ⊥

-- neither are volatile words, marks among them
abbrev pub IsOutsideLayer : Location → Type 0
IsOutsideLayer Clock = Unit {0}
IsOutsideLayer Updater = Unit {0}
IsOutsideLayer (Volatile n o) = Unit {0}
IsOutsideLayer (Mark kind k) = Unit {0}
IsOutsideLayer (Cached w) = IsOutsideWord w
IsOutsideLayer (Durable w) = IsOutsideWord w

abbrev pub OutsideLeaves : Type 0
OutsideLeaves = (l : Layout) (words : List ℕ) (q : Location) (word : ℕ) → HasLocation l q → IsOutsideLayer q →
    TwinsStay l words (slice_set words (address_of l q) word)

-- Whichever word becomes durable by itself, the durable twin of the layer is a mix of both twins then.
abbrev pub EvictionMixes : Type 0
EvictionMixes = (l : Layout) (words : List ℕ) (word : ℕ) → length words ≡ row_words l →
    (layer_words l (evicted l words word) Cached ≡ layer_words l words Cached) ×
    IsMix (layer_words l words Cached) (layer_words l words Durable) (layer_words l (evicted l words word) Durable)
