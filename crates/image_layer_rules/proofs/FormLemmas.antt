-- The entries and the index of a cell are in order exactly where each one is beside those before it.
use Rattle.std.proofs.Common.{◌≡◌, ℕ, ◌<◌, inl, inr, sym, arith}
use Rattle.std.proofs.lemmas.Bool.{cases_lt}
use Rattle.radix_nodes.specs.Cells.{CellWords, AreEntries}
use Rattle.image_layer_rules.specs.Forms.{IsEntryIn}

-- numbers of which neither is below the other are one
pub neither_below : (i j : ℕ) → (i < j → ⊥) → (j < i → ⊥) → i ≡ j
neither_below i j one other = elim (cases_lt i j) [
  | inl lt ↦ absurd (one lt)
  | inr le ↦ elim (cases_lt j i) [ inl lt ↦ absurd (other lt) | inr ge ↦ omega arith ]
]

pub entries_from : (c : CellWords) (first count : ℕ) → ((i : ℕ) → i < count → IsEntryIn c first i) → AreEntries c first count
entries_from c first count each = record {
  byte = λ i lt some_word. (each i lt).byte some_word;
  reference = λ i lt some_word. (each i lt).reference some_word;
  apart = λ i j lt lt' some_i some_j same.
      neither_below i j (λ less. (each j lt').apart some_j (i, less, some_i, same)) (λ less. (each i lt).apart some_i (j, less, some_j, sym same));
}
