-- The words of a permutation, made of its slots.
use Rattle.std.proofs.Common.{◌≡◌, ℕ, zero, suc, ◌/◌, ◌<◌, ◌≤◌, ◌^◌, inl, inr, List, ◌∷◌, [], ◌++◌, length, take, slice_index, slice_set, length-set, refl, sym, ap, ◌∙◌, subst, arith}
use Rattle.std.proofs.Math.Seq.{take-suc}
use Rattle.std.proofs.lemmas.Bool.{cases_eq}
use Rattle.std.proofs.lemmas.List.{get_or-replicate, get_or-set_same, get_or-set_other, length-replicate, take_all}
use Rattle.data_node.specs.Bits.{printed}
use Rattle.data_node.proofs.BitLemmas.{prints_of-printed, printed_below}
use Rattle.permutation.specs.Permutations.{first_slots, words_to, AreWordsOf, WordsHaveSlots}
use Rattle.permutation.proofs.Bytes.{one_more}

-- what the words have once so many slots are placed
record AreWordsTo (slots words : List ℕ) (n : ℕ) : Type 0 where
  pub room : length words ≡ 8
  pub fit : (k : ℕ) → k < 8 → slice_index words k < 2 ^ 64
  pub first : first_slots (slice_index words) n ≡ take n slots

no_words : (slots : List ℕ) → AreWordsTo slots (words_to slots 0) 0
unfolding words_to
no_words slots = record { room = length-replicate {A = ℕ} 8 0; fit = λ k small. subst (λ w. w < 2 ^ 64) (sym (get_or-replicate 8 k 0 0 small)) (omega arith); first = refl }

-- the next slot
pub next_words : (slots : List ℕ) (n : ℕ) → words_to slots (suc n) ≡ slice_set (words_to slots n) (n / 8) (printed (slice_index (words_to slots n) (n / 8)) n (slice_index slots n))
unfolding words_to
next_words slots n = refl

pub first_words : (slots : List ℕ) → words_to slots 0 ≡ 0 ∷ 0 ∷ 0 ∷ 0 ∷ 0 ∷ 0 ∷ 0 ∷ 0 ∷ []
unfolding words_to
first_words slots = refl

module _ (slots : List ℕ) (few : length slots ≤ 64) (small : (k : ℕ) → k < length slots → slice_index slots k < 256) where
  placed : (n : ℕ) → n ≤ length slots → AreWordsTo slots (words_to slots n) n
  placed zero within = no_words slots
  placed (suc n) within =
      let before = placed n (omega arith) in
      let words = words_to slots n in
      let slot : ℕ = slice_index slots n in
      let byte : slot < 256 = small n (omega arith) in
      let word : ℕ = printed (slice_index words (n / 8)) n slot in
      subst (λ ws. AreWordsTo slots ws (suc n)) (sym (next_words slots n)) (record {
        room = length-set words (n / 8) word ∙ before.room;
        fit = λ k low. elim (cases_eq k (n / 8)) [
          | inl here ↦ subst (λ j. slice_index (slice_set words (n / 8) word) j < 2 ^ 64) (sym here) (subst (λ w. w < 2 ^ 64) (sym (get_or-set_same words (n / 8) word 0 (let room = before.room in omega arith))) (printed_below (slice_index words (n / 8)) n slot byte))
          | inr apart ↦ subst (λ w. w < 2 ^ 64) (sym (get_or-set_other words (n / 8) k word 0 apart)) (before.fit k low)
        ];
        first = one_more words n word slot before.room (omega arith) (prints_of-printed (slice_index words (n / 8)) n slot byte)
            ∙ ap (λ (l : List ℕ). l ++ (slot ∷ [])) before.first
            ∙ sym (take-suc slots n 0 (omega arith));
      })

  all_placed : AreWordsOf slots (words_to slots (length slots))
  all_placed =
      let all = placed (length slots) (omega arith) in
      record { room = all.room; fit = all.fit; first = all.first ∙ take_all (length slots) slots (omega arith) }

pub words_have_slots : WordsHaveSlots
words_have_slots slots few small = all_placed slots few small
