-- The marks of a row, and what actions make of them.
use Rattle.std.specs.Prelude.{◌≡◌, ℕ, ◌&&◌, nat_lt, nat_le, if◌then◌else◌, Bool, List, length, slice_set}
use Rattle.pm_words.specs.declared.layout.Layout.{Layout}
use Rattle.pm_words.specs.declared.action.Action.TheVariants.{Load}
use Rattle.pm_words.specs.Locations.{Location, Clock, Updater, Volatile, Mark, Cached, Durable, HasLocation}
use Rattle.pm_words.specs.Locations.{leaf_count, row_words, address_of, at}
use Rattle.pm_words.specs.Rows.{acted, evicted, row_of}
use Rattle.tree_law.specs.Stages.{Marks}

abbrev pub has_mark : Layout → ℕ → ℕ → Bool
has_mark l kind number = nat_le 1 kind && nat_le kind 5 && nat_lt number (leaf_count l)

-- the marks that the row has, and 0 for all others
abbrev pub row_marks : Layout → List ℕ → Marks
row_marks l words kind number = if has_mark l kind number then at l words (Mark kind number) else 0

-- A store of a mark sets that one alone.
pub record SetsMark (m m' : Marks) (kind number mark : ℕ) : Type 0 where
  pub here : m' kind number ≡ mark
  pub others : (k i : ℕ) → (k ≡ kind → i ≡ number → ⊥) → m' k i ≡ m k i

abbrev pub MarkIsSet : Type 0
MarkIsSet = (l : Layout) (words : List ℕ) (kind number mark : ℕ) → length words ≡ row_words l →
    HasLocation l (Mark kind number) →
    SetsMark (row_marks l words) (row_marks l (slice_set words (address_of l (Mark kind number)) mark)) kind number mark

-- A store elsewhere leaves all marks, and so do a load and whatever becomes durable by itself.
abbrev pub IsNoMark : Location → Type 0
IsNoMark Clock = Unit {0}
IsNoMark Updater = Unit {0}
IsNoMark (Volatile n o) = Unit {0}
IsNoMark (Mark kind number) = ⊥
IsNoMark (Cached w) = Unit {0}
IsNoMark (Durable w) = Unit {0}

abbrev pub StoreLeavesMarks : Type 0
StoreLeavesMarks = (l : Layout) (words : List ℕ) (q : Location) (word : ℕ) → HasLocation l q → IsNoMark q →
    row_marks l (slice_set words (address_of l q) word) ≡ row_marks l words

abbrev pub LoadLeavesMarks : Type 0
LoadLeavesMarks = (l : Layout) (words : List ℕ) (address : ℕ) → length words ≡ row_words l →
    row_marks l (acted l words (Load address)) ≡ row_marks l words

abbrev pub EvictionLeavesMarks : Type 0
EvictionLeavesMarks = (l : Layout) (words : List ℕ) (word : ℕ) → row_marks l (evicted l words word) ≡ row_marks l words

-- A row that is made of an image has none.
abbrev pub ImageHasNoMarks : Type 0
ImageHasNoMarks = (l : Layout) (image : List ℕ) (kind number : ℕ) → row_marks l (row_of l image) kind number ≡ 0
