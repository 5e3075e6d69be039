-- The columns of an image and of each twin of a row, and what the actions of a recovery do to those.
use Rattle.std.specs.Prelude.{◌≡◌, ℕ, ◌+◌, ◌-◌, ◌<◌, ◌&&◌, nat_lt, Bool, if◌then◌else◌, List, length}
use Rattle.std.specs.Prelude.{slice_index}
use Rattle.pm_words.specs.Codes.{empty_state}
use Rattle.pm_words.specs.declared.layout.Layout.{Layout}
use Rattle.pm_words.specs.declared.action.Action.{Action}
use Rattle.pm_words.specs.declared.action.Action.TheVariants.{Store, Drain}
use Rattle.pm_words.specs.Images.{IsImage}
use Rattle.pm_words.specs.Locations.{Word, Location, Header, Root, Node, Cached, Durable, HasLocation, IsVolatile}
use Rattle.pm_words.specs.Locations.{node_words, row_words, image_words, cached_address, address_of, at}
use Rattle.pm_words.specs.Locations.{word_at}
use Rattle.pm_words.specs.Rows.{acted, evicted, durable_row, row_of}
use Rattle.pm_words.specs.Offsets.{version_offset, bitmap_offset, state_offset, generation_offset}
use Rattle.updater_row_law.specs.search_layer.specs.Rows.{LayerWords, layer_words, image_layer_words}
use Rattle.updater_row_law.specs.Columns.{line_count, line_word}
use Rattle.image_recovery_law.specs.Columns.{Columns, IsMix}
use Rattle.image_recovery_law.specs.Stages.{with_generation, with_bits, with_empty}

-- a word, where it is one of the image
unfoldable pub word_if : Bool → ℕ → ℕ
word_if inside word = if inside then word else 0

-- the words of the header and of the root line that have no use, by number
abbrev pub spare_count : ℕ
spare_count = 9

abbrev pub spare_word : ℕ → Word
spare_word k = if nat_lt k 2 then Header (6 + k) else Root (k - 1)

-- The columns of the words that are read so by name, with these of the layer.
abbrev pub columns_by : Layout → (Word → ℕ) → LayerWords → Columns
columns_by l word layer = record {
  generation = word (Header generation_offset);
  spare = λ k. word_if (nat_lt k spare_count) (word (spare_word k));
  version = λ n. word_if (nat_lt n l.nodes) (word (Node n version_offset));
  spot = λ n o. word_if (nat_lt n l.nodes && (nat_lt 0 o && nat_lt o (node_words l))) (word (Node n o));
  line = λ j o. word_if (nat_lt j (line_count l) && nat_lt o 8) (word (line_word o j));
  layer = layer;
}

-- those of an image, and those of one twin of a row
abbrev pub image_columns : Layout → List ℕ → Columns
image_columns l image = columns_by l (word_at l image) (image_layer_words l image)

abbrev pub columns_in : Layout → List ℕ → (Word → Location) → Columns
columns_in l words twin = columns_by l (λ w. at l words (twin w)) (layer_words l words twin)

-- A row that begins with an image has its columns in both twins,
abbrev pub StartHasColumns : Type 0
StartHasColumns = (l : Layout) (image : List ℕ) → IsImage l image →
    (columns_in l (row_of l image) Cached ≡ image_columns l image) ×
    (columns_in l (row_of l image) Durable ≡ image_columns l image)

-- and the image that a crash leaves has those of the durable twin.
abbrev pub CrashHasColumns : Type 0
CrashHasColumns = (l : Layout) (words : List ℕ) →
    image_columns l (durable_row l words) ≡ columns_in l words Durable

-- The stores that are not into the layer each change one word of the cached columns, and none of the durable ones.
pub record StoresOn (l : Layout) (words : List ℕ) (a : Action) (now : Columns) : Type 0 where
  pub cached : columns_in l (acted l words a) Cached ≡ now
  pub durable : columns_in l (acted l words a) Durable ≡ columns_in l words Durable

abbrev pub GenerationStores : Type 0
GenerationStores = (l : Layout) (words : List ℕ) (generation : ℕ) → length words ≡ row_words l →
    StoresOn l words (Store (address_of l (Cached (Header generation_offset))) generation)
    (with_generation (columns_in l words Cached) generation)

abbrev pub BitsStore : Type 0
BitsStore = (l : Layout) (words : List ℕ) (n bits : ℕ) → length words ≡ row_words l → n < l.nodes →
    StoresOn l words (Store (address_of l (Cached (Node n bitmap_offset))) bits)
    (with_bits (columns_in l words Cached) n bits)

abbrev pub EmptyStores : Type 0
EmptyStores = (l : Layout) (words : List ℕ) (j : ℕ) → length words ≡ row_words l → j < line_count l →
    StoresOn l words (Store (address_of l (Cached (line_word state_offset j))) empty_state)
    (with_empty (columns_in l words Cached) j)

-- A word that becomes durable leaves the cached columns, and makes a mix of the durable ones.
pub record EvictsColumns (l : Layout) (words after : List ℕ) : Type 0 where
  pub cached : columns_in l after Cached ≡ columns_in l words Cached
  pub durable : IsMix (columns_in l words Cached) (columns_in l words Durable) (columns_in l after Durable)

abbrev pub EvictionMixesColumns : Type 0
EvictionMixesColumns = (l : Layout) (words : List ℕ) (word : ℕ) → length words ≡ row_words l → word < image_words l →
    EvictsColumns l words (evicted l words word)

-- A drain of the number that the cached word has is the eviction of that word.
abbrev pub DrainEvicts : Type 0
DrainEvicts = (l : Layout) (words : List ℕ) (word value : ℕ) → slice_index words (cached_address l word) ≡ value →
    acted l words (Drain (cached_address l word) value) ≡ evicted l words word

-- Stores into volatile words leave both columns.
pub record KeepsColumns (l : Layout) (words after : List ℕ) : Type 0 where
  pub cached : columns_in l after Cached ≡ columns_in l words Cached
  pub durable : columns_in l after Durable ≡ columns_in l words Durable

abbrev pub VolatileLeaves : Type 0
VolatileLeaves = (l : Layout) (words : List ℕ) (p : Location) (value : ℕ) → HasLocation l p → IsVolatile p →
    KeepsColumns l words (acted l words (Store (address_of l p) value))
