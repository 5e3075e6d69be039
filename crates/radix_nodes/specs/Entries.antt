-- The entry of a byte, in forms 4 and 16.
use Rattle.std.specs.Prelude.{◌≡◌, ◌≢◌, ℕ, ◌+◌, ◌<◌, ◌≤◌}
use Rattle.radix_nodes.specs.Cells.{CellWords, entry_byte, entry_reference, seek}

abbrev pub FitsEntry : ℕ → ℕ → Type 0
FitsEntry word byte = (word ≢ 0) × (entry_byte word ≡ byte)

-- the entry at this offset has the byte, and is the one that a look-up finds
pub record IsEntryOf (c : CellWords) (first count byte offset : ℕ) : Type 0 where
  pub low : first ≤ offset
  pub high : offset < first + count
  pub fits : FitsEntry (c offset) byte
  pub found : seek c first count byte ≡ entry_reference (c offset)

-- no entry has it
pub record HasNoEntry (c : CellWords) (first count byte : ℕ) : Type 0 where
  pub none : (i : ℕ) → i < count → FitsEntry (c (first + i)) byte → ⊥
  pub found : seek c first count byte ≡ 0

-- an entry without a child
pub record IsFreeEntry (c : CellWords) (first count offset : ℕ) : Type 0 where
  pub low : first ≤ offset
  pub high : offset < first + count
  pub free : c offset ≡ 0
