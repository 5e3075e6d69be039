-- What a check of a cell's form looks at: one entry, or one index byte, beside those before it.
use Rattle.std.specs.Prelude.{◌≡◌, ◌≢◌, ℕ, ◌+◌, ◌<◌, ◌≤◌}
use Rattle.radix_nodes.specs.Cells.{CellWords, entry_byte, entry_reference, index_of}

-- an entry before this one has its byte
abbrev pub HasTwinEntry : CellWords → ℕ → ℕ → Type 0
HasTwinEntry c first entry = (other : ℕ) × (other < entry) × (c (first + other) ≢ 0) ×
    (entry_byte (c (first + other)) ≡ entry_byte (c (first + entry)))

-- the entry is 0, or has a byte that none before it has, and a reference
pub record IsEntryIn (c : CellWords) (first entry : ℕ) : Type 0 where
  pub byte : c (first + entry) ≢ 0 → entry_byte (c (first + entry)) < 256
  pub reference : c (first + entry) ≢ 0 → entry_reference (c (first + entry)) ≢ 0
  pub apart : c (first + entry) ≢ 0 → ¬ HasTwinEntry c first entry

-- a branch byte before this one has its place
abbrev pub HasTwinPlace : CellWords → ℕ → Type 0
HasTwinPlace c byte = (other : ℕ) × (other < byte) × (index_of c other ≡ index_of c byte)

-- the branch byte has no place, or one that none before it has, with a reference
pub record IsPlaceIn (c : CellWords) (byte : ℕ) : Type 0 where
  pub within : index_of c byte ≤ 48
  pub reference : index_of c byte ≢ 0 → c (39 + index_of c byte) ≢ 0
  pub apart : index_of c byte ≢ 0 → ¬ HasTwinPlace c byte
