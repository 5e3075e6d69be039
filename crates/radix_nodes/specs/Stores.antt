-- One store into a cell, in each form: a child comes, becomes another or goes. The words are those of a row, by offset.
use Rattle.std.specs.Prelude.{◌≡◌, ◌≢◌, ℕ, ◌+◌, ◌/◌, ◌%◌, ◌^◌, ◌<◌, ◌≤◌, ◌⊎◌, length}
use Rattle.radix_nodes.specs.declared.cell.Cell.{Cell}
use Rattle.radix_nodes.specs.declared.cell.CellStore.{CellStore}
use Rattle.radix_nodes.specs.Bytes.{byte_set}
use Rattle.radix_nodes.specs.Cells.{CellWords, entry_byte, entry_of, children, index_of, IsForm, words_of}
use Rattle.radix_nodes.specs.Changes.{with_word, IsCellStore, IsQuietStore, stored}

-- Forms 4 and 16. A child comes to a free entry, becomes another, or goes.
pub record IsEntryForm (kind first count : ℕ) : Type 0 where
  pub is : ((kind ≡ 2) × (first ≡ 4) × (count ≡ 4)) ⊎ ((kind ≡ 3) × (first ≡ 8) × (count ≡ 16))

abbrev pub EntryAdds : Type 0
EntryAdds = (kind first count : ℕ) (c : CellWords) (i byte reference : ℕ) → IsEntryForm kind first count →
    IsForm kind c → i < count → c (first + i) ≡ 0 → byte < 256 → reference ≢ 0 → reference < 2 ^ 32 →
    children kind c byte ≡ 0 →
    IsCellStore kind c (with_word c (first + i) (entry_of byte reference)) byte reference

abbrev pub EntryMoves : Type 0
EntryMoves = (kind first count : ℕ) (c : CellWords) (i reference : ℕ) → IsEntryForm kind first count → IsForm kind c →
    i < count → c (first + i) ≢ 0 → reference ≢ 0 → reference < 2 ^ 32 →
    IsCellStore kind c (with_word c (first + i) (entry_of (entry_byte (c (first + i))) reference))
    (entry_byte (c (first + i))) reference

abbrev pub EntryGoes : Type 0
EntryGoes = (kind first count : ℕ) (c : CellWords) (i : ℕ) → IsEntryForm kind first count → IsForm kind c → i < count →
    c (first + i) ≢ 0 → IsCellStore kind c (with_word c (first + i) 0) (entry_byte (c (first + i))) 0

-- Form 48. A reference comes to a place that no byte has: no child changes by it. Then the byte gets the place.
abbrev pub PlaceFills : Type 0
PlaceFills = (c : CellWords) (place reference : ℕ) → IsForm 4 c → place < 48 →
    ((b : ℕ) → b < 256 → index_of c b ≢ place + 1) → IsQuietStore 4 c (with_word c (40 + place) reference)

abbrev pub IndexAdds : Type 0
IndexAdds = (c : CellWords) (byte place : ℕ) → IsForm 4 c → byte < 256 → place < 48 →
    ((b : ℕ) → b < 256 → index_of c b ≢ place + 1) → c (40 + place) ≢ 0 → children 4 c byte ≡ 0 →
    IsCellStore 4 c (with_word c (8 + byte / 8) (byte_set (c (8 + byte / 8)) (byte % 8) (place + 1))) byte
    (c (40 + place))

abbrev pub IndexMoves : Type 0
IndexMoves = (c : CellWords) (byte reference : ℕ) → IsForm 4 c → byte < 256 → index_of c byte ≢ 0 → reference ≢ 0 →
    IsCellStore 4 c (with_word c (39 + index_of c byte) reference) byte reference

abbrev pub IndexGoes : Type 0
IndexGoes = (c : CellWords) (byte : ℕ) → IsForm 4 c → byte < 256 → index_of c byte ≢ 0 →
    IsCellStore 4 c (with_word c (8 + byte / 8) (byte_set (c (8 + byte / 8)) (byte % 8) 0)) byte 0

-- Form 256.
abbrev pub DirectStores : Type 0
DirectStores = (c : CellWords) (byte reference : ℕ) → IsForm 5 c → byte < 256 →
    IsCellStore 5 c (with_word c (8 + byte) reference) byte reference

-- Of a store each word of a mix is that before it or that after it, as a crash may leave it. Then the mix is the cell
-- before the store, or the one after it.
abbrev pub IsMix : CellWords → CellWords → CellWords → Type 0
IsMix c c' mix = (o : ℕ) → (mix o ≡ c o) ⊎ (mix o ≡ c' o)

abbrev pub CrashShowsEither : Type 0
CrashShowsEither = (cell : Cell) (store : CellStore) (mix : CellWords) → store.offset < length cell.words →
    IsMix (words_of cell) (words_of (stored cell store)) mix →
    (mix ≡ words_of cell) ⊎ (mix ≡ words_of (stored cell store))

-- No byte from 256 on has a child.
abbrev pub ChildrenAreBytes : Type 0
ChildrenAreBytes = (kind : ℕ) (c : CellWords) (b : ℕ) → IsForm kind c → 256 ≤ b → children kind c b ≡ 0
