-- The bytes of words, one by one, and the weighted sum of a name's.
use Rattle.std.proofs.Common.{◌≡◌, ℕ, zero, suc, ◌+◌, ◌-◌, ◌*◌, ◌/◌, ◌%◌, ◌<◌, ◌≤◌, ◌==◌, not, List, [], ◌∷◌, length, get_or, take, refl, sym, ap, ◌∙◌, inl, inr, arith}
use Rattle.std.specs.Int.{w64, to_be_bytes}
use Rattle.std.specs.List.{prefix_len}
use Rattle.std.proofs.lemmas.Bool.{cases_lt}
use Rattle.std.proofs.lemmas.List.{get_or_append_left, get_or-append-add, get_or-take}
use Rattle.std.proofs.lemmas.List.Folds.{length-prefix_len}
use Rattle.std.proofs.lemmas.List.Sums.{prefix_len-le-length}
use Rattle.cat_key.specs.Names.{IsPacked, padded, all_bytes, before_zero, bytes_of, weighted_sum}
use Rattle.cat_key.specs.declared.TheConstants.{WORDS}
use Rattle.cat_key.proofs.Packing.{all_bytes-words_of}

pub length-all_bytes : (words : List ℕ) → length (all_bytes words) ≡ 8 * length words
unfolding all_bytes
length-all_bytes [] = refl
length-all_bytes (word ∷ words) = omega (arith, length-all_bytes words)

-- the byte at a place is that of its word
pub all_bytes_at : (words : List ℕ) (at : ℕ) → at < 8 * length words → get_or (all_bytes words) at 0 ≡ get_or (to_be_bytes w64 (get_or words (at / 8) 0)) (at % 8) 0
unfolding all_bytes
all_bytes_at [] at h = absurd (omega arith)
all_bytes_at (word ∷ words) at h =
    elim (cases_lt at 8) [
      | inl first ↦
          let quotient : at / 8 ≡ 0 = omega arith in
          let remainder : at % 8 ≡ at = omega arith in
          rw (quotient, remainder) (get_or_append_left (to_be_bytes w64 word) (all_bytes words) 0 at first)
      | inr later ↦
          let place : at ≡ 8 + (at - 8) = omega arith in
          let quotient : at / 8 ≡ suc ((at - 8) / 8) = omega arith in
          let remainder : at % 8 ≡ (at - 8) % 8 = omega arith in
          rw (quotient, remainder) (ap (λ i. get_or (all_bytes (word ∷ words)) i 0) place
          ∙ get_or-append-add (to_be_bytes w64 word) (all_bytes words) (at - 8) 0
          ∙ all_bytes_at words (at - 8) (omega arith))
    ]

-- a text up to its first zero is as many of its bytes as that has
pub take-before_zero : (text : List ℕ) (len : ℕ) → len ≡ length (before_zero text) → take len text ≡ before_zero text
take-before_zero text len h =
    ap (λ n. take n text) (h ∙ length-prefix_len (λ byte. not (byte == 0)) text)

-- the text in the bytes of words
pub bytes_of-text : (words bytes text : List ℕ) → bytes ≡ all_bytes words → text ≡ before_zero bytes → text ≡ bytes_of words
unfolding bytes_of
bytes_of-text words bytes text unpacked front = front ∙ ap before_zero unpacked

-- the byte of a name at a place is that of its words
pub bytes_of_at : (words : List ℕ) (at : ℕ) → at < length (bytes_of words) → get_or (bytes_of words) at 0 ≡ get_or (all_bytes words) at 0
unfolding bytes_of
bytes_of_at words at h =
    let size = length-prefix_len (λ byte. not (byte == 0)) (all_bytes words) in
    get_or-take (prefix_len (λ byte. not (byte == 0)) (all_bytes words)) (all_bytes words) at 0 (omega (arith, size))

pub fits_bytes_of : (words : List ℕ) (at : ℕ) → at < length (bytes_of words) → at < 8 * length words
unfolding bytes_of
fits_bytes_of words at h =
    omega (arith, length-prefix_len (λ byte. not (byte == 0)) (all_bytes words), prefix_len-le-length (λ byte. not (byte == 0)) (all_bytes words), length-all_bytes words)

-- zeros add nothing to a weighted sum
weighted_sum-padded : (count : ℕ) (text : List ℕ) (at : ℕ) → length text ≤ count → weighted_sum at (padded count text) ≡ weighted_sum at text
weighted_sum-padded zero [] at h = refl
weighted_sum-padded zero (byte ∷ text) at h = absurd (omega arith)
weighted_sum-padded (suc count) [] at h =
    omega (arith, weighted_sum-padded count [] (at + 1) (omega arith))
weighted_sum-padded (suc count) (byte ∷ text) at h =
    ap (λ n. (2 * at + 1) * byte + n) (weighted_sum-padded count text (at + 1) (omega arith))

-- the weighted sum of a name is that of all bytes of its words
pub weighted_sum-all_bytes : (words : List ℕ) → IsPacked words → weighted_sum 0 (all_bytes words) ≡ weighted_sum 0 (bytes_of words)
weighted_sum-all_bytes words h =
    ap (λ row. weighted_sum 0 (all_bytes row)) (sym h.whole)
    ∙ ap (weighted_sum 0) (all_bytes-words_of (bytes_of words) h.named)
    ∙ weighted_sum-padded (8 * WORDS) (bytes_of words) 0 h.named.fits
