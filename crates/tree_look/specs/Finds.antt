-- Looking in a cell for the child under a byte, word by word: where its reference stands, and what stands above it
-- there.
use Rattle.std.specs.Prelude.{◌≡◌, ℕ, ◌+◌, ◌-◌, ◌*◌, ◌/◌, ◌%◌, ◌^◌, ◌<◌, ◌≤◌, ◌==◌, ◌&&◌, ◌||◌, ◌⊎◌, not, nat_lt}
use Rattle.std.specs.Prelude.{if◌then◌else◌}
use Rattle.radix_nodes.specs.Bytes.{byte_in}
use Rattle.tree_floor.specs.Scans.{first_entry, entry_count}
use Rattle.tree_look.specs.declared.find.Find.{Find}
use Rattle.tree_look.specs.declared.find.Find.TheVariants as find
use Rattle.tree_look.specs.declared.find.Findings.{Findings}
use Rattle.tree_look.specs.declared.find.Findings.TheVariants.{More, Found, Absent}

abbrev pub find_starts : ℕ → Find
find_starts kind =
    if kind == 2 || kind == 3 then find.Entry 0 else if kind == 4 then find.Index else find.Direct

abbrev pub find_offset : ℕ → ℕ → Find → ℕ
find_offset kind byte (find.Entry entry) = first_entry kind + entry
find_offset kind byte find.Index = 8 + byte / 8
find_offset kind byte (find.Reference place) = 39 + place
find_offset kind byte find.Direct = 8 + byte

-- the place and one that the index has for the byte
abbrev pub has_place : ℕ → Findings
has_place place = if place == 0 || nat_lt 48 place then Absent else More (find.Reference place)

abbrev pub entry_told : ℕ → ℕ → ℕ → ℕ → Findings
entry_told kind byte entry got =
    if not (got == 0) && got / 2 ^ 32 == byte then Found (first_entry kind + entry) (byte * 2 ^ 32) (got % 2 ^ 32)
    else if nat_lt (entry + 1) (entry_count kind) then More (find.Entry (entry + 1))
    else Absent

-- once it is told the word for which it asks
abbrev pub find_told : ℕ → ℕ → Find → ℕ → Findings
find_told kind byte (find.Entry entry) got = entry_told kind byte entry got
find_told kind byte find.Index got = has_place (byte_in got (byte % 8))
find_told kind byte (find.Reference place) got = Found (39 + place) 0 got
find_told kind byte find.Direct got = if got == 0 then Absent else Found (8 + byte) 0 got

-- what its fields keep
abbrev pub IsFind : ℕ → Find → Type 0
IsFind kind (find.Entry entry) = ((kind ≡ 2) ⊎ (kind ≡ 3)) × (entry < entry_count kind)
IsFind kind find.Index = kind ≡ 4
IsFind kind (find.Reference place) = (kind ≡ 4) × (1 ≤ place) × (place ≤ 48)
IsFind kind find.Direct = kind ≡ 5

-- how many words it reads from here on, at most
abbrev pub find_left : ℕ → Find → ℕ
find_left kind (find.Entry entry) = entry_count kind - entry
find_left kind find.Index = 2
find_left kind (find.Reference place) = 1
find_left kind find.Direct = 1
