-- Reading of a cell what a key needs of it, word by word: the child under a byte, and the one under the greatest byte
-- below that. A byte of 256 is past all.
use Rattle.std.specs.Prelude.{◌≡◌, ℕ, zero, suc, ◌+◌, ◌-◌, ◌/◌, ◌%◌, ◌^◌, ◌<◌, ◌≤◌, ◌==◌, ◌&&◌, ◌||◌, ◌⊎◌, not, nat_lt}
use Rattle.std.specs.Prelude.{if◌then◌else◌}
use Rattle.radix_nodes.specs.Bytes.{byte_in}
use Rattle.tree_floor.specs.declared.scan.Scan.{Scan}
use Rattle.tree_floor.specs.declared.scan.Scan.TheVariants as scan
use Rattle.tree_floor.specs.declared.scan.Scanned.{Scanned}
use Rattle.tree_floor.specs.declared.scan.Scanned.TheVariants.{More, Found}

abbrev pub first_entry : ℕ → ℕ
first_entry kind = if kind == 2 then 4 else 8

abbrev pub entry_count : ℕ → ℕ
entry_count kind = if kind == 2 then 4 else 16

-- the reference of no leaf and no cell
abbrev pub wrong : ℕ
wrong = 1

-- the scan of a cell of this kind for this byte, and the offset of the word for which it asks
abbrev pub scan_starts : ℕ → ℕ → Scan
scan_starts kind byte =
    if kind == 2 || kind == 3 then scan.Entry 0 0 0
    else if kind == 4 then scan.Index (if nat_lt byte 256 then byte / 8 else 31) 0
    else if nat_lt byte 256 then scan.Direct
    else scan.Down 256 0

abbrev pub scan_offset : ℕ → ℕ → Scan → ℕ
scan_offset kind byte (scan.Entry entry child below) = first_entry kind + entry
scan_offset kind byte (scan.Index word place) = 8 + word
scan_offset kind byte (scan.Child place below) = 39 + place
scan_offset kind byte (scan.Below child place) = 39 + place
scan_offset kind byte scan.Direct = 8 + byte
scan_offset kind byte (scan.Down next child) = 7 + next

-- of the first so many bytes of a word the last one that isn't 0, or 0
abbrev pub top_byte : ℕ → ℕ → ℕ
top_byte word zero = 0
top_byte word (suc at) = if byte_in word at == 0 then top_byte word at else byte_in word at

abbrev pub child_entry : ℕ → ℕ → ℕ → ℕ
child_entry byte child got = if not (got == 0) && got / 2 ^ 32 == byte then got % 2 ^ 32 else child

abbrev pub better_entry : ℕ → ℕ → ℕ → ℕ
better_entry byte below got =
    if not (got == 0) && nat_lt (got / 2 ^ 32) byte && (below == 0 || nat_lt (below / 2 ^ 32) (got / 2 ^ 32)) then got
    else below

abbrev pub has_places : ℕ → ℕ → Scanned
has_places place below =
    if nat_lt 48 place || nat_lt 48 below then Found wrong wrong
    else if not (place == 0) then More (scan.Child place below)
    else if not (below == 0) then More (scan.Below 0 below)
    else Found 0 0

abbrev pub index_place : ℕ → ℕ → ℕ → ℕ → ℕ
index_place byte word place got = if byte / 8 == word then byte_in got (byte % 8) else place

abbrev pub index_below : ℕ → ℕ → ℕ → ℕ
index_below byte word got = top_byte got (if byte / 8 == word then byte % 8 else 8)

abbrev pub entry_told : ℕ → ℕ → ℕ → ℕ → ℕ → ℕ → Scanned
entry_told kind byte entry child below got =
    if nat_lt (entry + 1) (entry_count kind)
    then More (scan.Entry (entry + 1) (child_entry byte child got) (better_entry byte below got))
    else Found (child_entry byte child got) (better_entry byte below got % 2 ^ 32)

abbrev pub index_told : ℕ → ℕ → ℕ → ℕ → Scanned
index_told byte word place got =
    if index_below byte word got == 0 && nat_lt 0 word
    then More (scan.Index (word - 1) (index_place byte word place got))
    else has_places (index_place byte word place got) (index_below byte word got)

abbrev pub down_told : ℕ → ℕ → ℕ → Scanned
down_told next child got =
    if not (got == 0) then Found child got
    else if next == 1 then Found child 0
    else More (scan.Down (next - 1) child)

-- once it is told the word for which it asks
abbrev pub scan_told : ℕ → ℕ → Scan → ℕ → Scanned
scan_told kind byte (scan.Entry entry child below) got = entry_told kind byte entry child below got
scan_told kind byte (scan.Index word place) got = index_told byte word place got
scan_told kind byte (scan.Child place below) got = if below == 0 then Found got 0 else More (scan.Below got below)
scan_told kind byte (scan.Below child place) got = Found child got
scan_told kind byte scan.Direct got = if byte == 0 then Found got 0 else More (scan.Down byte got)
scan_told kind byte (scan.Down next child) got = down_told next child got

-- what its fields keep
abbrev pub IsScan : ℕ → ℕ → Scan → Type 0
IsScan kind byte (scan.Entry entry child below) = ((kind ≡ 2) ⊎ (kind ≡ 3)) × (entry < entry_count kind)
IsScan kind byte (scan.Index word place) = (kind ≡ 4) × (word < 32)
IsScan kind byte (scan.Child place below) = (kind ≡ 4) × (1 ≤ place) × (place ≤ 48) × (below ≤ 48)
IsScan kind byte (scan.Below child place) = (kind ≡ 4) × (1 ≤ place) × (place ≤ 48)
IsScan kind byte scan.Direct = (kind ≡ 5) × (byte < 256)
IsScan kind byte (scan.Down next child) = (kind ≡ 5) × (1 ≤ next) × (next ≤ 256)

-- how many words it reads from here on, at most
abbrev pub scan_left : ℕ → Scan → ℕ
scan_left kind (scan.Entry entry child below) = entry_count kind - entry
scan_left kind (scan.Index word place) = word + 3
scan_left kind (scan.Child place below) = 2
scan_left kind (scan.Below child place) = 1
scan_left kind scan.Direct = 258
scan_left kind (scan.Down next child) = next
