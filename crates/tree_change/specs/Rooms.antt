-- Looking where a new child comes into a cell, word by word; and the stores by which a leaf comes there.
use Rattle.std.specs.Prelude.{◌≡◌, ◌≢◌, ℕ, zero, suc, ◌+◌, ◌-◌, ◌*◌, ◌/◌, ◌%◌, ◌^◌, ◌<◌, ◌≤◌, ◌==◌, ◌⊎◌, nat_lt}
use Rattle.std.specs.Prelude.{if◌then◌else◌, Bool, true, false, Some, IsSomeAnd}
use Rattle.pm_words.specs.declared.machine.Turn.{Turn}
use Rattle.pm_words.specs.declared.machine.Turn.TheVariants.{Go, Done}
use Rattle.pm_words.specs.Locations.{kind_words}
use Rattle.radix_nodes.specs.Bytes.{byte_in, byte_set}
use Rattle.radix_nodes.specs.Cells.{CellWords, entry_of, children, IsForm}
use Rattle.radix_nodes.specs.Changes.{with_word, IsCellStore}
use Rattle.radix_nodes.specs.Places.{IsFreePlace}
use Rattle.layer_map.specs.Layers.{Layer, AreSame, changed_at}
use Rattle.tree_law.specs.Trees.{Leaf, byte_at}
use Rattle.tree_law.specs.Words.{LayerWords, kind_of, number_of, reference_of, cell_in, layer_of, CellWord, IsLawful}
use Rattle.tree_law.specs.Words.{Stored, Keeps}
use Rattle.tree_law.specs.Changes.{IsFilledLeaf}
use Rattle.tree_floor.specs.Scans.{first_entry, entry_count}
use Rattle.tree_look.specs.declared.look.Spot.{Spot}
use Rattle.tree_look.specs.declared.look.Looked.TheVariants as looked
use Rattle.tree_look.specs.LookLaws.{IsLooked}
use Rattle.tree_change.specs.declared.room.Places.{Places}
use Rattle.tree_change.specs.declared.room.Places.TheVariants as places
use Rattle.tree_change.specs.declared.room.Room.{Room}
use Rattle.tree_change.specs.declared.room.Room.TheVariants.{Entry, Place, Full}
use Rattle.tree_change.specs.declared.finish.Target.TheVariants as target
use Rattle.tree_change.specs.Endings.{Switches}
use Rattle.tree_floor.specs.Telling.{answer_in}

-- one of the first so many bytes of the word is this one
abbrev pub has_byte : ℕ → ℕ → ℕ → Bool
has_byte word byte zero = false
has_byte word byte (suc at) = if byte_in word at == byte then true else has_byte word byte at

-- the look into a cell of this kind, and the offset of the word for which it asks
abbrev pub places_start : ℕ → Places
places_start kind = if kind == 4 then places.Index 0 0 else places.Entry 0

abbrev pub places_offset : ℕ → ℕ → Places → ℕ
places_offset kind byte (places.Entry entry) = first_entry kind + entry
places_offset kind byte (places.Index place word) = 8 + word
places_offset kind byte (places.Own place) = 8 + byte / 8

abbrev pub entry_turned : ℕ → ℕ → ℕ → Turn Places Room
entry_turned kind entry got =
    if got == 0 then Done (Entry (first_entry kind + entry))
    else if nat_lt (entry + 1) (entry_count kind) then Go (places.Entry (entry + 1))
    else Done Full

abbrev pub index_turned : ℕ → ℕ → ℕ → Turn Places Room
index_turned place word got =
    if has_byte got (place + 1) 8
    then (if nat_lt (place + 1) 48 then Go (places.Index (place + 1) 0) else Done Full)
    else if nat_lt (word + 1) 32 then Go (places.Index place (word + 1))
    else Go (places.Own place)

-- once it is told that word
abbrev pub places_turned : ℕ → Places → ℕ → Turn Places Room
places_turned kind (places.Entry entry) got = entry_turned kind entry got
places_turned kind (places.Index place word) got = index_turned place word got
places_turned kind (places.Own place) got = Done (Place place got)

-- what its fields keep
abbrev pub IsPlaces : ℕ → Places → Type 0
IsPlaces kind (places.Entry entry) = ((kind ≡ 2) ⊎ (kind ≡ 3)) × (entry < entry_count kind)
IsPlaces kind (places.Index place word) = (kind ≡ 4) × (place < 48) × (word < 32)
IsPlaces kind (places.Own place) = (kind ≡ 4) × (place < 48)

-- how many words it reads from here on, at most; and from its start on
abbrev pub places_left : ℕ → Places → ℕ
places_left kind (places.Entry entry) = entry_count kind - entry
places_left kind (places.Index place word) = 32 * (48 - place) + 1 - word
places_left kind (places.Own place) = 1

abbrev pub places_most : ℕ
places_most = 32 * 48 + 1

-- what it finds is a word of the cell, or a place with the word that it was told last
abbrev pub IsRoomIn : ℕ → ℕ → Room → Type 0
IsRoomIn kind got (Entry offset) = offset < kind_words kind
IsRoomIn kind got (Place place index) = (kind ≡ 4) × (place < 48) × (index ≡ got)
IsRoomIn kind got Full = Unit {0}

-- It stays one, and reads less and less, whatever it is told.
abbrev pub PlacesAfter : ℕ → ℕ → ℕ → Turn Places Room → Type 0
PlacesAfter kind got left (Go next) = IsPlaces kind next × (places_left kind next < left)
PlacesAfter kind got left (Done room) = IsRoomIn kind got room

abbrev pub RoomsEnd : Type 0
RoomsEnd = (kind : ℕ) (scan : Places) (got : ℕ) → IsPlaces kind scan →
    PlacesAfter kind got (places_left kind scan) (places_turned kind scan got)

-- What it finds: an entry into which any reference may come; or a place that no byte has, and the byte's index word.
abbrev pub IsRoom : ℕ → CellWords → ℕ → Room → Type 0
IsRoom kind c byte (Entry offset) = (reference : ℕ) → reference ≢ 0 → reference < 2 ^ 32 →
    IsCellStore kind c (with_word c offset (entry_of byte reference)) byte reference
IsRoom kind c byte (Place place index) = (kind ≡ 4) × IsFreePlace c place × (index ≡ c (8 + byte / 8))
IsRoom kind c byte Full = Unit {0}

-- what it finds in so many turns, told the words of a cell as it asks for them
abbrev pub places_turn : ℕ → ℕ → CellWords → Places → Turn Places Room
places_turn kind byte c scan = places_turned kind scan (c (places_offset kind byte scan))

abbrev pub RoomsAreExact : Type 0
RoomsAreExact = (kind byte : ℕ) (c : CellWords) (times : ℕ) → places_most < times → 2 ≤ kind → kind ≤ 4 →
    byte < 256 → IsForm kind c → children kind c byte ≡ 0 →
    IsSomeAnd (answer_in times (places_turn kind byte c) (places_start kind)) (IsRoom kind c byte)

-- The one store of forms 4, 16 and 256.
abbrev pub AddBegins : Type 0
AddBegins = (count nodes : ℕ) (before : Layer) (w : LayerWords) (key node cell depth leaf offset word reference : ℕ)
    (spot : Spot) → AreSame (layer_of w) before → IsLawful count nodes w →
    IsLooked w key (looked.Nothing spot cell depth) → IsFilledLeaf count nodes w key node leaf →
    reference_of reference ≡ Leaf leaf →
    IsCellStore (kind_of cell) (cell_in w cell) (with_word (cell_in w cell) offset word) (byte_at depth key)
    reference →
    Switches count nodes (changed_at before key (Some node)) w (target.Cell cell offset) word

-- The two stores of form 48.
abbrev pub QuietBegins : Type 0
QuietBegins = (count nodes : ℕ) (before : Layer) (w : LayerWords)
    (key node cell depth leaf place index reference : ℕ) (spot : Spot) → Keeps count nodes before w →
    IsLooked w key (looked.Nothing spot cell depth) → IsFilledLeaf count nodes w key node leaf →
    reference_of reference ≡ Leaf leaf → reference ≢ 0 →
    IsRoom (kind_of cell) (cell_in w cell) (byte_at depth key) (Place place index) → byte_at depth key < 256 →
    (w' : LayerWords) → Stored w w' (CellWord (kind_of cell) (number_of cell) (40 + place)) reference →
    Keeps count nodes before w' × Switches count nodes (changed_at before key (Some node)) w'
    (target.Cell cell (8 + byte_at depth key / 8)) (byte_set index (byte_at depth key % 8) (place + 1))
