-- Looking in a cell for other children than the one under a byte, word by word.
use Rattle.std.specs.Prelude.{◌≡◌, ◌≢◌, ℕ, ◌+◌, ◌-◌, ◌/◌, ◌%◌, ◌<◌, ◌≤◌, ◌==◌, ◌||◌, nat_lt}
use Rattle.std.specs.Prelude.{if◌then◌else◌, IsSomeAnd}
use Rattle.pm_words.specs.declared.machine.Turn.{Turn}
use Rattle.pm_words.specs.declared.machine.Turn.TheVariants.{Go, Done}
use Rattle.radix_nodes.specs.Bytes.{byte_in}
use Rattle.radix_nodes.specs.Cells.{CellWords, entry_byte, entry_reference, children, IsForm}
use Rattle.radix_nodes.specs.Changes.{HasTwoMore, IsOneMore}
use Rattle.tree_floor.specs.Scans.{first_entry, entry_count}
use Rattle.tree_change.specs.declared.others.Others.{Others}
use Rattle.tree_change.specs.declared.others.Others.TheVariants as others
use Rattle.tree_change.specs.declared.others.Counted.{Counted}
use Rattle.tree_change.specs.declared.others.Counted.TheVariants.{Two, One, Absent}
use Rattle.tree_floor.specs.Telling.{answer_in}

-- the slots of a cell: its entries, or its branch bytes
abbrev pub slot_count : ℕ → ℕ
slot_count kind = if kind == 2 || kind == 3 then entry_count kind else 256

abbrev pub slot_offset : ℕ → ℕ → ℕ
slot_offset kind slot = if kind == 4 then 8 + slot / 8 else first_entry kind + slot

-- what a slot has of another child, or 0
abbrev pub entry_value : ℕ → ℕ → ℕ
entry_value byte got = if got == 0 || entry_byte got == byte then 0 else entry_reference got

abbrev pub slot_value : ℕ → ℕ → ℕ → ℕ → ℕ
slot_value kind byte slot got =
    if kind == 2 || kind == 3 then entry_value byte got
    else if slot == byte then 0
    else if kind == 4 then byte_in got (slot % 8)
    else got

abbrev pub slots_end : ℕ → ℕ → Turn Others Counted
slots_end kind one =
    if one == 0 then Done Absent
    else if kind == 4 then (if nat_lt 48 one then Done Absent else Go (others.Reference one))
    else Done (One one)

abbrev pub slot_next : ℕ → ℕ → ℕ → Turn Others Counted
slot_next kind slot one =
    if nat_lt (slot + 1) (slot_count kind) then Go (others.Slot (slot + 1) one) else slots_end kind one

abbrev pub slot_turned : ℕ → ℕ → ℕ → ℕ → Turn Others Counted
slot_turned kind slot one value =
    if value == 0 then slot_next kind slot one else if one == 0 then slot_next kind slot value else Done Two

-- the scan of a cell for them, and the offset of the word for which it asks
abbrev pub others_starts : Others
others_starts = others.Slot 0 0

abbrev pub others_offset : ℕ → Others → ℕ
others_offset kind (others.Slot slot one) = slot_offset kind slot
others_offset kind (others.Reference place) = 39 + place

-- once it is told that word
abbrev pub others_turned : ℕ → ℕ → Others → ℕ → Turn Others Counted
others_turned kind byte (others.Slot slot one) got = slot_turned kind slot one (slot_value kind byte slot got)
others_turned kind byte (others.Reference place) got = Done (One got)

-- what its fields keep
abbrev pub IsOthers : ℕ → Others → Type 0
IsOthers kind (others.Slot slot one) = slot < slot_count kind
IsOthers kind (others.Reference place) = (kind ≡ 4) × (1 ≤ place) × (place ≤ 48)

-- how many words it reads from here on, at most
abbrev pub others_left : ℕ → Others → ℕ
others_left kind (others.Slot slot one) = slot_count kind - slot + 1
others_left kind (others.Reference place) = 1

-- It stays one, and reads less and less, whatever it is told.
abbrev pub OthersAfter : ℕ → ℕ → Turn Others Counted → Type 0
OthersAfter kind left (Go next) = IsOthers kind next × (others_left kind next < left)
OthersAfter kind left (Done counted) = Unit {0}

abbrev pub OthersEnd : Type 0
OthersEnd = (kind byte : ℕ) (scan : Others) (got : ℕ) → IsOthers kind scan →
    OthersAfter kind (others_left kind scan) (others_turned kind byte scan got)

-- What was counted is so: two others at least, one with its reference, or none.
abbrev pub IsCounted : ℕ → CellWords → ℕ → Counted → Type 0
IsCounted kind c byte Two = HasTwoMore (children kind c) byte
IsCounted kind c byte (One reference) = IsOneMore (children kind c) byte reference
IsCounted kind c byte Absent = (b : ℕ) → b ≢ byte → children kind c b ≡ 0

-- its turn, told the words of a cell as it asks for them
abbrev pub others_turn : ℕ → ℕ → CellWords → Others → Turn Others Counted
others_turn kind byte c scan = others_turned kind byte scan (c (others_offset kind scan))

-- from its start on, at most
abbrev pub others_most : ℕ
others_most = 257

-- In a cell of its form it counts exactly.
abbrev pub CountsAreExact : Type 0
CountsAreExact = (kind byte : ℕ) (c : CellWords) (times : ℕ) → others_most < times → 2 ≤ kind → kind ≤ 5 → byte < 256 →
    IsForm kind c → IsSomeAnd (answer_in times (others_turn kind byte c) others_starts) (IsCounted kind c byte)
