-- What a scan finds.
use Rattle.std.specs.Prelude.{◌≡◌, ℕ, zero, suc, ◌<◌, ◌≤◌, ◌==◌, if◌then◌else◌, Option, Some, None, IsSomeAnd}
use Rattle.radix_nodes.specs.Cells.{CellWords, children, IsForm}
use Rattle.tree_floor.specs.declared.scan.Scan.{Scan}
use Rattle.tree_floor.specs.declared.scan.Scanned.{Scanned}
use Rattle.tree_floor.specs.declared.scan.Scanned.TheVariants.{More, Found}
use Rattle.tree_floor.specs.Scans.{scan_starts, scan_offset, scan_told, IsScan, scan_left}

-- It stays one, and reads less and less, whatever it is told.
abbrev pub ScanAfter : ℕ → ℕ → ℕ → Scanned → Type 0
ScanAfter kind byte left (More scan) = IsScan kind byte scan × (scan_left kind scan < left)
ScanAfter kind byte left (Found child below) = Unit {0}

abbrev pub ScansEnd : Type 0
ScansEnd = (kind byte : ℕ) (scan : Scan) (got : ℕ) → byte ≤ 256 → IsScan kind byte scan →
    ScanAfter kind byte (scan_left kind scan) (scan_told kind byte scan got)

abbrev pub ScansStart : Type 0
ScansStart = (kind byte : ℕ) → 2 ≤ kind → kind ≤ 5 → byte ≤ 256 →
    IsScan kind byte (scan_starts kind byte) × (scan_left kind (scan_starts kind byte) ≤ 258)

-- the reference under the greatest byte below this one, or 0
abbrev pub word_below : ℕ → CellWords → ℕ → ℕ
word_below kind c zero = 0
word_below kind c (suc b) = if children kind c b == 0 then word_below kind c b else children kind c b

-- what it has found, told the words of a cell as it asks for them, so many times
abbrev pub found_or : Scanned → (Scan → Option (ℕ × ℕ)) → Option (ℕ × ℕ)
found_or (More scan) find = find scan
found_or (Found child below) find = Some (child, below)

abbrev pub scan_finds : ℕ → ℕ → ℕ → CellWords → Scan → Option (ℕ × ℕ)
scan_finds zero kind byte c scan = None
scan_finds (suc times) kind byte c scan =
    found_or (scan_told kind byte scan (c (scan_offset kind byte scan))) (scan_finds times kind byte c)

-- In a cell that is in order: the child, and the one below.
abbrev pub ScansAreExact : Type 0
ScansAreExact = (kind byte : ℕ) (c : CellWords) → 2 ≤ kind → kind ≤ 5 → byte ≤ 256 → IsForm kind c →
    IsSomeAnd (scan_finds 259 kind byte c (scan_starts kind byte))
    (λ found. (found.0 ≡ children kind c byte) × (found.1 ≡ word_below kind c byte))
