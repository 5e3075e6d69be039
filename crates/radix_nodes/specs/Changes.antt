-- What stores make of a cell's children.
use Rattle.std.specs.Prelude.{◌≡◌, ◌≢◌, ℕ, ◌+◌, ◌<◌, ◌==◌, if◌then◌else◌, Option, Some, None, slice_set}
use Rattle.pm_words.specs.Offsets.{depth_offset}
use Rattle.pm_words.specs.Locations.{kind_words}
use Rattle.radix_nodes.specs.declared.cell.Cell.{Cell}
use Rattle.radix_nodes.specs.declared.cell.CellStore.{CellStore}
use Rattle.radix_nodes.specs.declared.cell.Branch.{Branch}
use Rattle.radix_nodes.specs.declared.changes.Added.{Added}
use Rattle.radix_nodes.specs.declared.changes.Removed.{Removed}
use Rattle.radix_nodes.specs.declared.changes.Removed.TheVariants.{Store, Only}
use Rattle.radix_nodes.specs.Keys.{KeyWords, EndsAt}
use Rattle.radix_nodes.specs.Cells.{CellWords, Children, children, index_of, IsForm, IsReference, IsCell}
use Rattle.radix_nodes.specs.Cells.{words_of, children_of, prefix_words}

-- the words with one of them another
abbrev pub with_word : CellWords → ℕ → ℕ → CellWords
with_word c offset word o = if o == offset then word else c o

-- One store into a cell by which the child under one byte becomes another, or none. This is all that a tree relies on.
pub record IsCellStore (kind : ℕ) (c c' : CellWords) (byte reference : ℕ) : Type 0 where
  pub form : IsForm kind c'
  pub head : (o : ℕ) → o < 4 → c' o ≡ c o
  pub here : children kind c' byte ≡ reference
  pub others : (b : ℕ) → b ≢ byte → children kind c' b ≡ children kind c b

-- and one by which none becomes another
pub record IsQuietStore (kind : ℕ) (c c' : CellWords) : Type 0 where
  pub form : IsForm kind c'
  pub head : (o : ℕ) → o < 4 → c' o ≡ c o
  pub same : (b : ℕ) → children kind c' b ≡ children kind c b

-- The cell once that word is stored.
abbrev pub stored : Cell → CellStore → Cell
stored cell store = record { kind = cell.kind; words = slice_set cell.words store.offset store.value }

-- The store is into the cell's own words, and leaves a cell in order with the same depth and prefix, in which the child
-- under this byte is this reference, or none where it is 0, and each other one is what it was.
pub record SetsChild (cell : Cell) (store : CellStore) (byte reference : ℕ) : Type 0 where
  pub within : store.offset < kind_words cell.kind
  pub sound : IsCell (stored cell store)
  pub head : (o : ℕ) → o < 4 → words_of (stored cell store) o ≡ words_of cell o
  pub here : children_of (stored cell store) byte ≡ reference
  pub others : (b : ℕ) → b ≢ byte → children_of (stored cell store) b ≡ children_of cell b

-- It leaves a cell in order with the same depth, prefix and children.
pub record SetsNone (cell : Cell) (store : CellStore) : Type 0 where
  pub within : store.offset < kind_words cell.kind
  pub sound : IsCell (stored cell store)
  pub head : (o : ℕ) → o < 4 → words_of (stored cell store) o ≡ words_of cell o
  pub same : (b : ℕ) → children_of (stored cell store) b ≡ children_of cell b

-- The stores of an add. In form 48 the first one changes no child, and the second one is made into the cell that it
-- leaves; in the other forms there is one alone.
abbrev pub AddsBy : Cell → ℕ → ℕ → CellStore → Option CellStore → Type 0
AddsBy cell byte reference switch None = (cell.kind ≢ 4) × SetsChild cell switch byte reference
AddsBy cell byte reference switch (Some first) =
    (cell.kind ≡ 4) × SetsNone cell first × SetsChild (stored cell first) switch byte reference

abbrev pub Adds : Cell → ℕ → ℕ → Added → Type 0
Adds cell byte reference added = AddsBy cell byte reference added.switch added.first

-- No place is free: each entry has a child, or each place of form 48 is some byte's. Form 256 has a place for each
-- byte.
abbrev pub HasPlaces : CellWords → ℕ → ℕ → Type 0
HasPlaces c first count = (i : ℕ) → i < count → c (first + i) ≢ 0

pub record IsTaken (c : CellWords) (place : ℕ) : Type 0 where
  pub byte : ℕ
  pub within : byte < 256
  pub is : index_of c byte ≡ place + 1

pub record IsFull (kind : ℕ) (c : CellWords) : Type 0 where
  pub four : kind ≡ 2 → HasPlaces c 4 4
  pub sixteen : kind ≡ 3 → HasPlaces c 8 16
  pub forty_eight : kind ≡ 4 → (place : ℕ) → place < 48 → IsTaken c place
  pub below_last : kind < 5

-- Beside the child under this byte there are two more; or there is one more, with this reference.
pub record HasTwoMore (m : Children) (byte : ℕ) : Type 0 where
  pub one : ℕ
  pub two : ℕ
  pub apart : one ≢ two
  pub not_one : one ≢ byte
  pub not_two : two ≢ byte
  pub has_one : m one ≢ 0
  pub has_two : m two ≢ 0

pub record IsOneMore (m : Children) (byte reference : ℕ) : Type 0 where
  pub other : ℕ
  pub apart : other ≢ byte
  pub is : m other ≡ reference
  pub some_child : reference ≢ 0
  pub only : (b : ℕ) → b ≢ byte → b ≢ other → m b ≡ 0

-- With two more the child goes by one store. With one more the cell is needed no longer, since what is under that can
-- stand in the place of the cell.
abbrev pub Removes : Cell → ℕ → Removed → Type 0
Removes cell byte (Store store) = HasTwoMore (children_of cell) byte × SetsChild cell store byte 0
Removes cell byte (Only reference) = IsOneMore (children_of cell) byte reference × IsReference reference

-- The cell of the next form with the same depth, prefix and children.
pub record IsGrown (cell grown : Cell) : Type 0 where
  pub kind : grown.kind ≡ cell.kind + 1
  pub sound : IsCell grown
  pub head : (o : ℕ) → o < 4 → words_of grown o ≡ words_of cell o
  pub same : (b : ℕ) → children_of grown b ≡ children_of cell b

-- A cell of form 4 with this depth, this prefix and these two children. It is in order where the prefix ends at the
-- depth.
pub record IsPair (depth : ℕ) (prefix : KeyWords) (one two : Branch) (pair : Cell) : Type 0 where
  pub kind : pair.kind ≡ 2
  pub depth_is : words_of pair depth_offset ≡ depth
  pub prefix_is : (k : ℕ) → k < 3 → prefix_words (words_of pair) k ≡ prefix k
  pub has_one : children_of pair one.byte ≡ one.reference
  pub has_two : children_of pair two.byte ≡ two.reference
  pub only : (b : ℕ) → b ≢ one.byte → b ≢ two.byte → children_of pair b ≡ 0
  pub sound : EndsAt depth prefix → IsCell pair
