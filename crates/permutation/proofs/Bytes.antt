-- A byte of a permutation's word in place of another.
use Rattle.std.proofs.Common.{◌≡◌, ◌≢◌, ℕ, zero, suc, ◌<◌, ◌≤◌, ◌/◌, ◌%◌, ⊎_elim, List, [], ◌∷◌, ◌++◌, length, slice_index, slice_set, refl, sym, ap, ◌∙◌, arith}
use Rattle.std.specs.Int.{w64, to_le_bytes}
use Rattle.std.proofs.lemmas.Bool.{cases_eq}
use Rattle.std.proofs.lemmas.List.{get_or-set_same, get_or-set_other}
use Rattle.data_node.specs.Slots.{prints_of}
use Rattle.permutation.specs.Permutations.{first_slots, slot_at}

module _ (words : List ℕ) (place word slot : ℕ) (room : length words ≡ 8) (here : place < 64) (bytes : prints_of word ≡ slice_set (prints_of (slice_index words (place / 8))) (place % 8) slot) where
  abbrev after : List ℕ
  after = slice_set words (place / 8) word

  -- the word is there
  is_word : slice_index after (place / 8) ≡ word
  is_word = get_or-set_same words (place / 8) word 0 (omega arith)

  -- at its place stands the slot,
  pub placed : slot_at (slice_index after) place ≡ slot
  placed =
      ap (λ (w : ℕ). slice_index (to_le_bytes w64 w) (place % 8)) is_word
      ∙ ap (λ (b : List ℕ). slice_index b (place % 8)) bytes
      ∙ get_or-set_same (prints_of (slice_index words (place / 8))) (place % 8) slot 0 (omega arith)

  -- and the others stay
  pub elsewhere : (other : ℕ) → other < place → slot_at (slice_index after) other ≡ slot_at (slice_index words) other
  elsewhere other before = ⊎_elim
      (λ (same : other / 8 ≡ place / 8).
      ap (λ (k : ℕ). slice_index (to_le_bytes w64 (slice_index after k)) (other % 8)) same
      ∙ ap (λ (w : ℕ). slice_index (to_le_bytes w64 w) (other % 8)) is_word
      ∙ ap (λ (b : List ℕ). slice_index b (other % 8)) bytes
      ∙ get_or-set_other (prints_of (slice_index words (place / 8))) (place % 8) (other % 8) slot 0 (λ e. omega arith)
      ∙ ap (λ (k : ℕ). slice_index (to_le_bytes w64 (slice_index words k)) (other % 8)) (sym same))
      (λ (apart : other / 8 ≢ place / 8).
      ap (λ (w : ℕ). slice_index (to_le_bytes w64 w) (other % 8)) (get_or-set_other words (place / 8) (other / 8) word 0 apart))
      (cases_eq (other / 8) (place / 8))

  earlier : (n : ℕ) → n ≤ place → first_slots (slice_index after) n ≡ first_slots (slice_index words) n
  earlier zero few = refl
  earlier (suc n) few = let before = earlier n (omega arith) in let one = elsewhere n (omega arith) in λ i. before i ++ (one i ∷ [])

  -- so it stands behind those before
  pub one_more : first_slots (slice_index after) (suc place) ≡ first_slots (slice_index words) place ++ (slot ∷ [])
  one_more = let before = earlier place (omega arith) in λ i. before i ++ (placed i ∷ [])
