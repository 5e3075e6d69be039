-- The entry that a look-up finds.
use Rattle.std.proofs.Common.{◌≡◌, ◌≢◌, ℕ, ◌+◌, ◌-◌, ◌<◌, ◌≤◌, inl, inr, sym, subst, ap, ◌∙◌, arith}
use Rattle.std.proofs.lemmas.Bool.{cases_eq}
use Rattle.radix_nodes.specs.Cells.{CellWords, Children, entry_byte, entry_reference}
use Rattle.radix_nodes.specs.Entries.{FitsEntry, IsEntryOf, HasNoEntry}
use Rattle.radix_nodes.proofs.EntryForms.{seek_last, seek_none}

-- no entry from so many on has the byte
abbrev pub NoneBehind : CellWords → ℕ → ℕ → ℕ → ℕ → Type 0
NoneBehind c first count passed byte = (i : ℕ) → i < count → count ≤ i + passed → FitsEntry (c (first + i)) byte → ⊥

pub found_entry : (c : CellWords) (first count passed byte offset : ℕ) → passed < count → offset ≡ first + count - 1 - passed → c offset ≢ 0 → entry_byte (c offset) ≡ byte → NoneBehind c first count passed byte → IsEntryOf c first count byte offset
found_entry c first count passed byte offset lt is some_word same none =
    let i = count - 1 - passed in
    let there : offset ≡ first + i = omega arith in
    let fits : FitsEntry (c (first + i)) byte = subst (λ o. FitsEntry (c o) byte) there (some_word, same) in
    record {
      low = omega arith;
      high = omega arith;
      fits = (some_word, same);
      found = seek_last c first count byte i (omega arith) fits (λ j less more. none j less (omega arith)) ∙ ap (λ o. entry_reference (c o)) (sym there);
    }

pub no_entry : (c : CellWords) (first count passed byte : ℕ) → count ≤ passed → NoneBehind c first count passed byte → HasNoEntry c first count byte
no_entry c first count passed byte all none =
    let no : (i : ℕ) → i < count → FitsEntry (c (first + i)) byte → ⊥ = λ i lt. none i lt (omega arith) in
    record { none = no; found = seek_none c first count byte no }

-- The child under the greatest byte below another.

abbrev pub NoneFrom : Children → ℕ → ℕ → Type 0
NoneFrom m byte passed = (b : ℕ) → b < byte → byte ≤ b + passed → m b ≡ 0

pub below_passed : (m : Children) (byte passed reference : ℕ) → passed < byte → reference ≡ m (byte - 1 - passed) → reference ≡ 0 → NoneFrom m byte passed → NoneFrom m byte (passed + 1)
below_passed m byte passed reference lt is no_child none b less behind = elim (cases_eq (b + passed + 1) byte) [
  | inl here ↦ ap m (let there : b ≡ byte - 1 - passed = omega arith in there) ∙ sym is ∙ no_child
  | inr further ↦ none b less (omega (arith, further))
]
