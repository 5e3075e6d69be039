-- New cells, word by word.
use Rattle.std.specs.Prelude.{◌≡◌, ◌≢◌, ℕ, zero, suc, ◌+◌, ◌-◌, ◌*◌, ◌^◌, ◌<◌, ◌≤◌, ◌==◌, if◌then◌else◌}
use Rattle.std.specs.Prelude.{List, replicate, slice_set}
use Rattle.pm_words.specs.Offsets.{prefix_offset}
use Rattle.radix_nodes.specs.declared.cell.Branch.{Branch}
use Rattle.radix_nodes.specs.declared.cell.Cell.{Cell}
use Rattle.radix_nodes.specs.Keys.{KeyWords, first_bytes_of, key_bytes}
use Rattle.radix_nodes.specs.Cells.{CellWords, entry_of, IsReference, IsCell, words_of, children_of}
use Rattle.radix_nodes.specs.Changes.{stored, IsGrown, IsPair}
use Rattle.radix_nodes.specs.Places.{taken_in}

-- so many first words, and zeros behind them
abbrev pub copied : CellWords → ℕ → List ℕ
copied c zero = replicate 264 0
copied c (suc at) = slice_set (copied c at) at (c at)

-- a cell without children, with the depth and the prefix of another
abbrev pub bare_of : Cell → ℕ → Cell
bare_of cell kind = record { kind = kind; words = copied (words_of cell) 4 }

-- the next form of a cell, with so many of its entries, or of its branch bytes
abbrev pub in_16 : Cell → ℕ → Cell
in_16 cell zero = bare_of cell 3
in_16 cell (suc entry) = stored (in_16 cell entry) (record { offset = 8 + entry; value = words_of cell (4 + entry) })

abbrev pub in_48 : Cell → ℕ → Cell
in_48 cell zero = bare_of cell 4
in_48 cell (suc entry) = taken_in (in_48 cell entry) entry (words_of cell (8 + entry))

abbrev pub in_256 : Cell → ℕ → Cell
in_256 cell zero = bare_of cell 5
in_256 cell (suc byte) = stored (in_256 cell byte) (record { offset = 8 + byte; value = children_of cell byte })

-- the next form with all of them
unfoldable pub whole_in_256 : Cell → Cell
whole_in_256 cell = in_256 cell 256

unfoldable pub grown_of : Cell → Cell
grown_of cell = if cell.kind == 2 then in_16 cell 4 else if cell.kind == 3 then in_48 cell 16 else whole_in_256 cell

-- and with one child more, in the first entry or place behind those
unfoldable pub larger_of : Cell → ℕ → ℕ → Cell
larger_of cell byte reference =
    if cell.kind == 2 then stored (grown_of cell) (record { offset = 12; value = entry_of byte reference })
    else if cell.kind == 3 then taken_in (grown_of cell) 16 (entry_of byte reference)
    else stored (grown_of cell) (record { offset = 8 + byte; value = reference })

-- The cell of the next form with the same depth and prefix, with this child under the byte and the same ones else.
pub record IsLarger (cell : Cell) (byte reference : ℕ) (larger : Cell) : Type 0 where
  pub kind : larger.kind ≡ cell.kind + 1
  pub sound : IsCell larger
  pub head : (o : ℕ) → o < 4 → words_of larger o ≡ words_of cell o
  pub here : children_of larger byte ≡ reference
  pub others : (b : ℕ) → b ≢ byte → children_of larger b ≡ children_of cell b

abbrev pub GrownIsGrown : Type 0
GrownIsGrown = (cell : Cell) → cell.kind ≤ 4 → IsCell cell → IsGrown cell (grown_of cell)

abbrev pub LargerIsLarger : Type 0
LargerIsLarger = (cell : Cell) (byte reference : ℕ) → cell.kind ≤ 4 → byte < 256 → IsReference reference → IsCell cell →
    children_of cell byte ≡ 0 → IsLarger cell byte reference (larger_of cell byte reference)

-- the words of a prefix, of a key; and of a depth and so many of a prefix, with zeros behind them
abbrev pub prefix_word : ℕ → KeyWords → ℕ → ℕ
prefix_word depth key at = first_bytes_of (key at) (depth - 8 * at)

abbrev pub headed_words : ℕ → KeyWords → ℕ → List ℕ
headed_words depth prefix zero = slice_set (replicate 264 0) 0 depth
headed_words depth prefix (suc at) = slice_set (headed_words depth prefix at) (prefix_offset + at) (prefix at)

-- a cell of form 4 with two children
unfoldable pub pair_of : ℕ → KeyWords → Branch → Branch → Cell
pair_of depth prefix one two = record {
  kind = 2;
  words = slice_set (slice_set (headed_words depth prefix 3) 4 (entry_of one.byte one.reference)) 5
      (entry_of two.byte two.reference);
}

abbrev pub PairIsPair : Type 0
PairIsPair = (depth : ℕ) (prefix : KeyWords) (one two : Branch) → depth < key_bytes → one.byte < 256 → two.byte < 256 →
    one.byte ≢ two.byte → IsReference one.reference → IsReference two.reference →
    IsPair depth prefix one two (pair_of depth prefix one two)

-- it has three words of the prefix
abbrev pub PairsAlike : Type 0
PairsAlike = (depth : ℕ) (prefix other : KeyWords) (one two : Branch) → ((k : ℕ) → k < 3 → prefix k ≡ other k) →
    pair_of depth prefix one two ≡ pair_of depth other one two

-- Their words have 64 bits where those that they are made of have.
abbrev pub Fits : CellWords → Type 0
Fits c = (o : ℕ) → c o < 2 ^ 64

abbrev pub LargerFits : Type 0
LargerFits = (cell : Cell) (byte reference : ℕ) → byte < 2 ^ 8 → reference < 2 ^ 32 → Fits (words_of cell) →
    Fits (words_of (larger_of cell byte reference))

abbrev pub PairFits : Type 0
PairFits = (depth : ℕ) (prefix : KeyWords) (one two : Branch) → depth < 2 ^ 64 → Fits prefix →
    entry_of one.byte one.reference < 2 ^ 64 → entry_of two.byte two.reference < 2 ^ 64 →
    Fits (words_of (pair_of depth prefix one two))

-- the kinds of both
abbrev pub MadeKinds : Type 0
MadeKinds = ((cell : Cell) (byte reference : ℕ) → (2 ≤ cell.kind) × (cell.kind ≤ 4) →
    (larger_of cell byte reference).kind ≡ cell.kind + 1) ×
    ((depth : ℕ) (prefix : KeyWords) (one two : Branch) → (pair_of depth prefix one two).kind ≡ 2)

-- and the first words of a key fit
abbrev pub PrefixFits : Type 0
PrefixFits = (depth : ℕ) (key : KeyWords) → Fits key → Fits (prefix_word depth key)
