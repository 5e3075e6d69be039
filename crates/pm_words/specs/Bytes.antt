-- The bytes of an image, as a file holds them: its words one after another, eight bytes each, the lowest byte first.
use Rattle.std.specs.Prelude.{◌≡◌, ◌≢◌, ℕ, ◌*◌, ◌/◌, ◌≤◌, ◌⊎◌, List, length, map, flat_map, take, slice_index, codes}
use Rattle.std.specs.Int.{w64, to_le_bytes, from_le_bytes}
use Rattle.std.specs.Simd.{first_chunks}
use Rattle.pm_words.specs.declared.layout.Layout.{Layout}
use Rattle.pm_words.specs.declared.layout.Field.{Field}
use Rattle.pm_words.specs.declared.layout.Field.TheVariants.{Nodes, Slots, Callers}
use Rattle.pm_words.specs.declared.bytes.ImageFault.{ImageFault}
use Rattle.pm_words.specs.declared.bytes.ImageFault.TheVariants.{Length, Magic, Format, Layout as LayoutFault, NoMemory}
use Rattle.pm_words.specs.Layouts.{IsNodeCount, IsSlotCount, IsCallerCount, IsLayout}
use Rattle.pm_words.specs.Locations.{image_words}
use Rattle.pm_words.specs.Images.{Row}

-- the bytes of words
abbrev pub bytes_of : List ℕ → List ℕ
bytes_of words = flat_map (to_le_bytes w64) words

-- the words that bytes spell; up to seven bytes that are left over spell none
abbrev pub words_in : List ℕ → List ℕ
words_in bytes = map (from_le_bytes w64) (first_chunks 8 (length bytes / 8) bytes)

-- the layout that the words 2 to 4 tell
abbrev pub layout_in : List ℕ → Layout
layout_in bytes = record {
  nodes = slice_index (words_in bytes) 2;
  slots = slice_index (words_in bytes) 3;
  callers = slice_index (words_in bytes) 4;
}

-- the image that bytes spell, where they are one
abbrev pub image_in : List ℕ → Row
image_in bytes = record { layout = layout_in bytes; words = words_in bytes }

-- What bytes of an image have, each on top of the one before: a whole header line, the text that begins each image, the
-- format, a layout, and the length that it says.
abbrev pub HasHeader : List ℕ → Type 0
HasHeader bytes = 64 ≤ length bytes

abbrev pub HasMagic : List ℕ → Type 0
HasMagic bytes = HasHeader bytes × (take 8 bytes ≡ codes "PACCAT01")

abbrev pub HasFormat : List ℕ → Type 0
HasFormat bytes = HasMagic bytes × (slice_index (words_in bytes) 1 ≡ 1)

abbrev pub HasLayout : List ℕ → Type 0
HasLayout bytes = HasFormat bytes × IsLayout (layout_in bytes)

abbrev pub HasLength : List ℕ → Type 0
HasLength bytes = HasLayout bytes × (length bytes ≡ 8 * image_words (layout_in bytes))

-- the first number of a layout that is out of its range
abbrev pub IsFirstOut : Layout → Field → Type 0
IsFirstOut l Nodes = ¬ IsNodeCount l.nodes
IsFirstOut l Slots = IsNodeCount l.nodes × (¬ IsSlotCount l.slots)
IsFirstOut l Callers = IsNodeCount l.nodes × IsSlotCount l.slots × (¬ IsCallerCount l.callers)

-- the first of these that bytes lack, by the fault that tells it; a length is told where it lacks a header, and where
-- it isn't the layout's
abbrev pub IsFault : List ℕ → ImageFault → Type 0
IsFault bytes (Length found) =
    (found ≡ length bytes) × ((¬ HasHeader bytes) ⊎
    (HasLayout bytes × (length bytes ≢ 8 * image_words (layout_in bytes))))
IsFault bytes Magic = HasHeader bytes × (take 8 bytes ≢ codes "PACCAT01")
IsFault bytes (Format found) = HasMagic bytes × (found ≡ slice_index (words_in bytes) 1) × (found ≢ 1)
IsFault bytes (LayoutFault field) = HasFormat bytes × IsFirstOut (layout_in bytes) field
IsFault bytes NoMemory = ⊥

-- bytes of an image: nothing is wrong with them
abbrev pub HasNoFault : List ℕ → Type 0
HasNoFault bytes = (fault : ImageFault) → ¬ IsFault bytes fault
