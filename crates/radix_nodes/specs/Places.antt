-- Stores into the index and the places of form 48, and cells that are being made.
use Rattle.std.specs.Prelude.{◌≡◌, ◌≢◌, ℕ, ◌+◌, ◌*◌, ◌/◌, ◌%◌, ◌^◌, ◌<◌, ◌≤◌, ◌==◌, if◌then◌else◌, Some, None}
use Rattle.pm_words.specs.Offsets.{prefix_offset}
use Rattle.radix_nodes.specs.declared.cell.Cell.{Cell}
use Rattle.radix_nodes.specs.declared.cell.CellStore.{CellStore}
use Rattle.radix_nodes.specs.declared.changes.Added.{Added}
use Rattle.radix_nodes.specs.Bytes.{byte_set}
use Rattle.radix_nodes.specs.Cells.{CellWords, index_of, words_of}
use Rattle.radix_nodes.specs.Entries.{IsFreeEntry}
use Rattle.radix_nodes.specs.Changes.{stored}

-- a place that no byte has
pub record IsFreePlace (c : CellWords) (place : ℕ) : Type 0 where
  pub within : place < 48
  pub free : (b : ℕ) → b < 256 → index_of c b ≢ place + 1

-- the store of a byte's index
abbrev pub index_store_of : Cell → ℕ → ℕ → CellStore
index_store_of cell byte index = record {
  offset = 8 + byte / 8;
  value = byte_set (words_of cell (8 + byte / 8)) (byte % 8) index;
}

abbrev pub place_store_of : ℕ → ℕ → CellStore
place_store_of place reference = record { offset = 40 + place; value = reference }

-- the stores of an add, in forms 4 and 16, and in form 48
pub record AddsEntry (c : CellWords) (first count byte reference : ℕ) (added : Added) : Type 0 where
  pub offset : ℕ
  pub free : IsFreeEntry c first count offset
  pub is : added ≡ record { first = None; switch = record { offset = offset; value = byte * 2 ^ 32 + reference } }

pub record AddsInPlace (cell : Cell) (byte reference : ℕ) (added : Added) : Type 0 where
  pub place : ℕ
  pub free : IsFreePlace (words_of cell) place
  pub is : added ≡ record {
    first = Some (place_store_of place reference);
    switch = index_store_of cell byte (place + 1);
  }

-- a reference comes into a place, and a byte gets the place
abbrev pub placed : Cell → ℕ → ℕ → ℕ → Cell
placed cell place byte reference =
    stored (stored cell (place_store_of place reference))
    (index_store_of (stored cell (place_store_of place reference)) byte (place + 1))

-- of an entry
abbrev pub taken_in : Cell → ℕ → ℕ → Cell
taken_in cell place entry =
    if entry == 0 then cell else placed cell place (entry / 2 ^ 32 % 256) (entry % 2 ^ 32)

-- a depth, a prefix, and no more
pub record IsHeaded (depth : ℕ) (prefix words : ℕ → ℕ) : Type 0 where
  pub depth_is : words 0 ≡ depth
  pub prefix_is : (k : ℕ) → k < 3 → words (prefix_offset + k) ≡ prefix k
  pub behind : (o : ℕ) → 4 ≤ o → words o ≡ 0
