-- Looking for room in a cell, word by word.
use Rattle.std.specs.Prelude.{◌≡◌, ℕ, ◌^◌, ◌<◌, ◌≤◌, IsSomeAnd}
use Rattle.pm_words.specs.declared.layout.Layout.{Layout}
use Rattle.pm_words.specs.declared.action.Action.{Action}
use Rattle.pm_words.specs.declared.action.Action.TheVariants.{Load}
use Rattle.pm_words.specs.declared.machine.Turn.{Turn}
use Rattle.pm_words.specs.declared.machine.Turn.TheVariants.{Go, Done}
use Rattle.pm_words.specs.Layouts.{IsLayout}
use Rattle.radix_nodes.specs.Cells.{children, IsForm}
use Rattle.tree_law.specs.Words.{LayerWord, LayerWords, word_in, kind_of, cell_in}
use Rattle.tree_floor.specs.tree_row.specs.Rows.{layer_address}
use Rattle.tree_floor.specs.Floors.{cell_word, IsCellOf}
use Rattle.tree_change.specs.declared.room.Places.{Places}
use Rattle.tree_change.specs.declared.room.Room.{Room}
use Rattle.tree_change.specs.declared.find_room.FindRoom.{FindRoom}
use Rattle.tree_change.specs.Rooms.{places_start, places_offset, places_turned, places_left, places_most, IsPlaces}
use Rattle.tree_change.specs.Rooms.{IsRoomIn, IsRoom}
use Rattle.tree_floor.specs.Telling.{answer_in}

abbrev pub find_room_starts : Layout → ℕ → ℕ → FindRoom
find_room_starts l cell byte = record { layout = l; cell = cell; byte = byte; places = places_start (kind_of cell) }

-- the word that it reads
abbrev pub find_room_word : FindRoom → LayerWord
find_room_word find = cell_word find.cell (places_offset (kind_of find.cell) find.byte find.places)

abbrev pub find_room_asks : FindRoom → Action
find_room_asks find = Load (layer_address find.layout (find_room_word find))

abbrev pub find_room_goes : FindRoom → Turn Places Room → Turn FindRoom Room
find_room_goes find (Go places) = Go (record find { places = places })
find_room_goes find (Done room) = Done room

abbrev pub find_room_turned : FindRoom → ℕ → Turn FindRoom Room
find_room_turned find got = find_room_goes find (places_turned (kind_of find.cell) find.places got)

-- What its fields keep.
pub record IsFindRoom (find : FindRoom) : Type 0 where
  pub layout : IsLayout find.layout
  pub cell : IsCellOf find.layout find.cell
  pub byte : find.byte < 256
  pub here : IsPlaces (kind_of find.cell) find.places

abbrev pub find_room_takes : FindRoom → ℕ → Type 0
find_room_takes find got = IsFindRoom find × (got < 2 ^ 64)

abbrev pub find_room_left : FindRoom → ℕ
find_room_left find = places_left (kind_of find.cell) find.places

-- It stays one of its cell and byte, and reads less and less, whatever it is told.
abbrev pub FindRoomAfter : FindRoom → ℕ → Turn FindRoom Room → Type 0
FindRoomAfter find got (Go next) =
    IsFindRoom next × (next.layout ≡ find.layout) × (next.cell ≡ find.cell) × (next.byte ≡ find.byte) ×
    (find_room_left next < find_room_left find)
FindRoomAfter find got (Done room) = IsRoomIn (kind_of find.cell) got room

abbrev pub FindRoomStays : Type 0
FindRoomStays = (find : FindRoom) (got : ℕ) → find_room_takes find got →
    FindRoomAfter find got (find_room_turned find got)

-- its turn, told these words as it asks for them
abbrev pub find_room_turn : LayerWords → FindRoom → Turn FindRoom Room
find_room_turn w find = find_room_turned find (word_in w (find_room_word find))

-- So long as the words stay as they are, it finds room in a cell of its form, or tells that there is none.
abbrev pub FindRoomIsExact : Type 0
FindRoomIsExact = (l : Layout) (cell byte : ℕ) (w : LayerWords) (times : ℕ) → places_most < times → IsCellOf l cell →
    kind_of cell ≤ 4 → byte < 256 → IsForm (kind_of cell) (cell_in w cell) →
    children (kind_of cell) (cell_in w cell) byte ≡ 0 →
    IsSomeAnd (answer_in times (find_room_turn w) (find_room_starts l cell byte))
    (IsRoom (kind_of cell) (cell_in w cell) byte)
