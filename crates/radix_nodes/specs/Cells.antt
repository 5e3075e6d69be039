-- The children of a cell, as the words of each form have them.
use Rattle.std.specs.Prelude.{◌≡◌, ◌≢◌, ℕ, zero, suc, ◌+◌, ◌*◌, ◌/◌, ◌%◌, ◌^◌, ◌<◌, ◌≤◌, ◌==◌, ◌&&◌, not, nat_lt}
use Rattle.std.specs.Prelude.{if◌then◌else◌, Option, Some, None, slice_index}
use Rattle.pm_words.specs.Locations.{kind_words}
use Rattle.pm_words.specs.Offsets.{depth_offset, prefix_offset}
use Rattle.radix_nodes.specs.declared.cell.Cell.{Cell}
use Rattle.radix_nodes.specs.Bytes.{byte_in}
use Rattle.radix_nodes.specs.Keys.{KeyWords, key_bytes, EndsAt}

-- the words of one cell, by offset
abbrev pub CellWords : Type 0
CellWords = ℕ → ℕ

-- Forms 4 and 16: entries, each 0 or a byte and a reference.

abbrev pub entry_byte : ℕ → ℕ
entry_byte word = word / 2 ^ 32

abbrev pub entry_reference : ℕ → ℕ
entry_reference word = word % 2 ^ 32

abbrev pub entry_of : ℕ → ℕ → ℕ
entry_of byte reference = byte * 2 ^ 32 + reference

-- of so many entries from this offset on, the reference of the one with the byte
abbrev pub seek : CellWords → ℕ → ℕ → ℕ → ℕ
seek c first zero byte = 0
seek c first (suc count) byte =
    if not (c (first + count) == 0) && entry_byte (c (first + count)) == byte then entry_reference (c (first + count))
    else seek c first count byte

-- Form 48: an index with a byte for each branch byte, which is the place of its reference and one, or 0.

abbrev pub index_of : CellWords → ℕ → ℕ
index_of c byte = byte_in (c (8 + byte / 8)) (byte % 8)

abbrev pub indexed : CellWords → ℕ → ℕ
indexed c byte =
    if nat_lt byte 256 then (if index_of c byte == 0 then 0 else c (39 + index_of c byte)) else 0

-- Form 256: a reference for each branch byte.

abbrev pub direct : CellWords → ℕ → ℕ
direct c byte = if nat_lt byte 256 then c (8 + byte) else 0

-- The children of a cell: the reference under each branch byte, or 0 where there is none.
abbrev pub Children : Type 0
Children = ℕ → ℕ

-- by the kind of the cell
abbrev pub children : ℕ → CellWords → Children
children kind c byte =
    if kind == 2 then seek c 4 4 byte
    else if kind == 3 then seek c 8 16 byte
    else if kind == 4 then indexed c byte
    else direct c byte

-- The words of each form are in order.

-- each entry has a byte and a reference, and no two have one byte
pub record AreEntries (c : CellWords) (first count : ℕ) : Type 0 where
  pub byte : (i : ℕ) → i < count → c (first + i) ≢ 0 → entry_byte (c (first + i)) < 256
  pub reference : (i : ℕ) → i < count → c (first + i) ≢ 0 → entry_reference (c (first + i)) ≢ 0
  pub apart : (i j : ℕ) → i < count → j < count → c (first + i) ≢ 0 → c (first + j) ≢ 0 →
      entry_byte (c (first + i)) ≡ entry_byte (c (first + j)) → i ≡ j

-- places are from 1 to 48, have references, and no two bytes have one
pub record IsIndexed (c : CellWords) : Type 0 where
  pub places : (b : ℕ) → b < 256 → index_of c b ≤ 48
  pub references : (b : ℕ) → b < 256 → index_of c b ≢ 0 → c (39 + index_of c b) ≢ 0
  pub apart : (a b : ℕ) → a < 256 → b < 256 → index_of c a ≢ 0 → index_of c a ≡ index_of c b → a ≡ b

-- words 4 to 7 of the larger forms
abbrev pub HasSpare : CellWords → Type 0
HasSpare c = (o : ℕ) → 4 ≤ o → o < 8 → c o ≡ 0

pub record IsForm (kind : ℕ) (c : CellWords) : Type 0 where
  pub spare : kind ≢ 2 → HasSpare c
  pub four : kind ≡ 2 → AreEntries c 4 4
  pub sixteen : kind ≡ 3 → AreEntries c 8 16
  pub forty_eight : kind ≡ 4 → IsIndexed c

-- A reference to a leaf or a cell: its kind, 1 to 5, times 2^16, and its number.
abbrev pub IsReference : ℕ → Type 0
IsReference reference = (2 ^ 16 ≤ reference) × (reference < 6 * 2 ^ 16)

abbrev pub AreReferences : Children → Type 0
AreReferences m = (b : ℕ) → m b ≢ 0 → IsReference (m b)

-- two children at least
pub record HasTwo (m : Children) : Type 0 where
  pub one : ℕ
  pub two : ℕ
  pub apart : one ≢ two
  pub has_one : m one ≢ 0
  pub has_two : m two ≢ 0

-- the words of a prefix, behind the depth
abbrev pub prefix_words : CellWords → KeyWords
prefix_words c k = c (prefix_offset + k)

-- The words of a cell are lawful, but for what the references lead to.
pub record IsLawful (kind : ℕ) (c : CellWords) : Type 0 where
  pub form : IsForm kind c
  pub depth : c depth_offset < key_bytes
  pub prefix : EndsAt (c depth_offset) (prefix_words c)
  pub references : AreReferences (children kind c)
  pub two : HasTwo (children kind c)

-- the words of a cell as it was read, and its children
abbrev pub words_of : Cell → CellWords
words_of cell = slice_index cell.words

abbrev pub children_of : Cell → Children
children_of cell = children cell.kind (words_of cell)

-- A cell as it was read: of a kind from 2 to 5, with zeros behind its words, which are lawful.
pub record IsCell (cell : Cell) : Type 0 where
  pub kind : (2 ≤ cell.kind) × (cell.kind ≤ 5)
  pub behind : (o : ℕ) → kind_words cell.kind ≤ o → words_of cell o ≡ 0
  pub lawful : IsLawful cell.kind (words_of cell)

-- a reference as an answer: 0 is none
abbrev pub if_some : ℕ → Option ℕ
if_some reference = if reference == 0 then None else Some reference

-- The child under the greatest byte below this one.
pub record IsBelow (m : Children) (byte reference : ℕ) : Type 0 where
  pub at : ℕ
  pub below : at < byte
  pub is : m at ≡ reference
  pub some_child : reference ≢ 0
  pub none_between : (b : ℕ) → at < b → b < byte → m b ≡ 0

abbrev pub HasNoneBelow : Children → ℕ → Type 0
HasNoneBelow m byte = (b : ℕ) → b < byte → m b ≡ 0
