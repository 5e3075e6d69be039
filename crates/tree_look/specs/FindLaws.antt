-- What it finds.
use Rattle.std.specs.Prelude.{◌≡◌, ◌≢◌, ℕ, zero, suc, ◌+◌, ◌^◌, ◌<◌, ◌≤◌}
use Rattle.pm_words.specs.Locations.{kind_words}
use Rattle.radix_nodes.specs.Cells.{CellWords, children, IsForm}
use Rattle.radix_nodes.specs.Changes.{with_word, IsCellStore}
use Rattle.tree_look.specs.declared.find.Find.{Find}
use Rattle.tree_look.specs.declared.find.Findings.{Findings}
use Rattle.tree_look.specs.declared.find.Findings.TheVariants.{More, Found, Absent}
use Rattle.tree_look.specs.Finds.{find_starts, find_offset, find_told, IsFind, find_left}

-- It stays one, and reads less and less, whatever it is told; what it finds is in a word of the cell, with a byte at
-- most above the reference.
abbrev pub FindAfter : ℕ → ℕ → ℕ → Findings → Type 0
FindAfter kind byte left (More find) = IsFind kind find × (find_left kind find < left)
FindAfter kind byte left (Found offset high reference) = byte < 256 → (offset < kind_words kind) × (high < 2 ^ 40)
FindAfter kind byte left Absent = Unit {0}

abbrev pub FindsEnd : Type 0
FindsEnd = (kind byte : ℕ) (find : Find) (got : ℕ) → IsFind kind find →
    FindAfter kind byte (find_left kind find) (find_told kind byte find got)

-- the word there has the child's reference; a store of another one behind what stands above it makes that the child,
-- and where the cell has no index, a store of 0 takes the child out
pub record IsAt (kind : ℕ) (c : CellWords) (byte offset high reference : ℕ) : Type 0 where
  pub child : children kind c byte ≡ reference
  pub some_child : reference ≢ 0
  pub word : c offset ≡ high + reference
  pub store : (other : ℕ) → other ≢ 0 → other < 2 ^ 32 →
      IsCellStore kind c (with_word c offset (high + other)) byte other
  pub clears : kind ≢ 4 → IsCellStore kind c (with_word c offset 0) byte 0

abbrev pub IsFinding : ℕ → CellWords → ℕ → Findings → Type 0
IsFinding kind c byte (More find) = ⊥
IsFinding kind c byte (Found offset high reference) = IsAt kind c byte offset high reference
IsFinding kind c byte Absent = children kind c byte ≡ 0

-- told the words of a cell as it asks for them, so many times
abbrev pub on_or : Findings → (Find → Findings) → Findings
on_or (More find) on = on find
on_or (Found offset high reference) on = Found offset high reference
on_or Absent on = Absent

abbrev pub finding : ℕ → ℕ → ℕ → CellWords → Find → Findings
finding zero kind byte c find = More find
finding (suc times) kind byte c find =
    on_or (find_told kind byte find (c (find_offset kind byte find))) (finding times kind byte c)

-- In a cell that is in order it finds where the child's reference stands, or that there is none.
abbrev pub FindsAreExact : Type 0
FindsAreExact = (kind byte : ℕ) (c : CellWords) → 2 ≤ kind → kind ≤ 5 → byte < 256 → IsForm kind c →
    IsFinding kind c byte (finding 17 kind byte c (find_starts kind))
