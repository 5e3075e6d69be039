-- What the words that the calls on bitmaps and fingerprints give say of the slots.
use Rattle.std.proofs.Common.{◌≡◌, ℕ, zero, suc, ◌+◌, ◌-◌, ◌*◌, ◌%◌, ◌<◌, ◌≤◌, ◌^◌, ◌==◌, ◌&&◌, ltb, true, false, cond, List, [], ◌∷◌, Some, None, get_or, set, bit_and, inl, inr, refl, sym, subst, ◌∙◌, arith}
use Rattle.std.specs.Int.{w64, bit_at, trailing_ones, trailing_zeros, from_le_bytes}
use Rattle.std.specs.List.{AllByRecursion}
use Rattle.std.proofs.Math.ListN.{length-set}
use Rattle.std.proofs.lemmas.Bool.{cases_eq, eqb-true, eqb-false, ltb-true, ltb-false}
use Rattle.std.proofs.lemmas.Nat.{and_le_l, or_lt, le_bytes_8}
use Rattle.std.proofs.lemmas.Nat.Bits.{bit_at-lt, bit_at_set_same, bit_at_set_other, bit_at_clear_same, bit_at_clear_other, bit_at-trailing_zeros, same_from_bits}
use Rattle.std.proofs.Math.Pow.{pow-lt}
use Rattle.data_node.specs.Slots.{IsLive, IsClear, AreAllLive, IsLowestClear, prints_of, print_of}
use Rattle.data_node.specs.Bits.{with_live, without_live, lowest_live, lowest_clear, printed, candidate_bits}
use Rattle.data_node.proofs.Bitmaps.{Marks, marks_none, marks_next, marks_past, lowest_clear as clear_from_ones, all_live}

pub with_live-same : (bitmap slot : ℕ) → slot < 64 → IsLive (with_live bitmap slot) slot
unfolding with_live
with_live-same bitmap slot within = bit_at_set_same w64 bitmap slot within

pub with_live-other : (bitmap slot other : ℕ) → slot < 64 → (other ≡ slot → ⊥) → bit_at (with_live bitmap slot) other ≡ bit_at bitmap other
unfolding with_live
with_live-other bitmap slot other within apart = bit_at_set_other w64 bitmap slot within other apart

pub without_live-same : (bitmap slot : ℕ) → slot < 64 → IsClear (without_live bitmap slot) slot
unfolding without_live
without_live-same bitmap slot within = bit_at_clear_same w64 bitmap slot within

pub without_live-other : (bitmap slot other : ℕ) → slot < 64 → other < 64 → (other ≡ slot → ⊥) → bit_at (without_live bitmap slot) other ≡ bit_at bitmap other
unfolding without_live
without_live-other bitmap slot other within below apart = bit_at_clear_other w64 bitmap slot within other below apart

-- the mask of one bit
one_bit : (slot : ℕ) → slot < 64 → 1 * 2 ^ slot % 2 ^ 64 ≡ 2 ^ slot
one_bit slot within = let small : 2 ^ slot < 2 ^ 64 = pow-lt within in omega arith

-- no bit is set past the slots
pub with_live_below : (slots bitmap slot : ℕ) → slots ≤ 64 → slot < slots → bitmap < 2 ^ slots → with_live bitmap slot < 2 ^ slots
unfolding with_live
with_live_below slots bitmap slot limit within fits =
    let small : 2 ^ slot < 2 ^ slots = pow-lt within in
    or_lt slots bitmap (1 * 2 ^ slot % 2 ^ 64) fits (subst (λ n. n < 2 ^ slots) (sym (one_bit slot (omega arith))) small)

pub without_live_below : (slots bitmap slot : ℕ) → bitmap < 2 ^ slots → without_live bitmap slot < 2 ^ slots
unfolding without_live
without_live_below slots bitmap slot fits = let le : bit_and bitmap (2 ^ 64 - 1 - 1 * 2 ^ slot % 2 ^ 64) ≤ bitmap = and_le_l bitmap _ in omega arith

-- the lowest live slot is live, and none below it is
pub record IsLowestLive (bitmap slot : ℕ) : Type 0 where
  pub within : slot < 64
  pub live : IsLive bitmap slot
  pub lowest : (other : ℕ) → other < slot → IsClear bitmap other

pub lowest_live-some : (bitmap slot : ℕ) → bitmap < 2 ^ 64 → lowest_live bitmap ≡ Some slot → IsLowestLive bitmap slot
unfolding lowest_live
lowest_live-some bitmap slot fits is =
    elim (bitmap == 0) as (λ b. (bitmap == 0) ≡ b → cond b None (Some (trailing_zeros w64 bitmap)) ≡ Some slot → IsLowestLive bitmap slot) [
      | true ↦ λ _ e. absurd (cc)
      | false ↦ λ other e.
          let more : bitmap ≡ 0 → ⊥ = eqb-false bitmap 0 other in
          let found = bit_at-trailing_zeros w64 bitmap (omega arith) fits in
          let same : trailing_zeros w64 bitmap ≡ slot = cc in
          subst (IsLowestLive bitmap) same (record { within = found.0; live = found.1; lowest = found.2 })
    ] refl is

pub lowest_live-none : (bitmap : ℕ) → lowest_live bitmap ≡ None → bitmap ≡ 0
unfolding lowest_live
lowest_live-none bitmap is =
    elim (bitmap == 0) as (λ b. (bitmap == 0) ≡ b → cond b None (Some (trailing_zeros w64 bitmap)) ≡ None → bitmap ≡ 0) [
      | true ↦ λ same e. eqb-true bitmap 0 same
      | false ↦ λ other e. absurd (cc)
    ] refl is

pub lowest_clear-some : (bitmap slots slot : ℕ) → bitmap < 2 ^ 64 → slots ≤ 64 → lowest_clear bitmap slots ≡ Some slot → IsLowestClear bitmap slots slot
unfolding lowest_clear
lowest_clear-some bitmap slots slot fits limit is =
    elim (ltb (trailing_ones w64 bitmap) slots) as (λ b. ltb (trailing_ones w64 bitmap) slots ≡ b → cond b (Some (trailing_ones w64 bitmap)) None ≡ Some slot → IsLowestClear bitmap slots slot) [
      | true ↦ λ below e.
          let same : slot ≡ trailing_ones w64 bitmap = cc in
          let within : trailing_ones w64 bitmap < slots = ltb-true _ _ below in
          clear_from_ones bitmap slots slot fits same (omega arith) limit
      | false ↦ λ _ e. absurd (cc)
    ] refl is

pub lowest_clear-none : (bitmap slots : ℕ) → bitmap < 2 ^ 64 → lowest_clear bitmap slots ≡ None → AreAllLive bitmap slots
unfolding lowest_clear
lowest_clear-none bitmap slots fits is =
    elim (ltb (trailing_ones w64 bitmap) slots) as (λ b. ltb (trailing_ones w64 bitmap) slots ≡ b → cond b (Some (trailing_ones w64 bitmap)) None ≡ None → AreAllLive bitmap slots) [
      | true ↦ λ _ e. absurd (cc)
      | false ↦ λ past e. all_live bitmap slots (trailing_ones w64 bitmap) fits refl (ltb-false _ _ past)
    ] refl is

pub marks_same : (bitmap : ℕ) (prints : List ℕ) (print count a b : ℕ) → Marks bitmap prints print count a → Marks bitmap prints print count b → a ≡ b
marks_same bitmap prints print count a b of_a of_b =
    same_from_bits a b (λ slot.
    let low_a : bit_at a slot < 2 = bit_at-lt a slot in
    let low_b : bit_at b slot < 2 = bit_at-lt b slot in
    elim (cases_eq (bit_at a slot) 1) [
      | inl set ↦ let also : bit_at b slot ≡ 1 = (of_b slot).1 ((of_a slot).0 set) in set ∙ sym also
      | inr clear ↦
          elim (cases_eq (bit_at b slot) 1) [
            | inl set ↦ absurd (clear ((of_a slot).1 ((of_b slot).0 set)))
            | inr also ↦ omega arith
          ]
    ])

pub candidate_bits-marks : (bitmap : ℕ) (prints : List ℕ) (print count : ℕ) → count ≤ 64 → Marks bitmap prints print count (candidate_bits bitmap prints print count)
unfolding candidate_bits with_live
candidate_bits-marks bitmap prints print zero within = marks_none bitmap prints print
candidate_bits-marks bitmap prints print (suc slot) within =
    let next : slot + 1 ≡ suc slot = omega arith in
    let rest = candidate_bits bitmap prints print slot in
    let before = candidate_bits-marks bitmap prints print slot (omega arith) in
    elim (bit_at bitmap slot == 1) as (λ b. (bit_at bitmap slot == 1) ≡ b → Marks bitmap prints print (suc slot) (cond (b && (print_of prints slot == print)) (with_live rest slot) rest)) [
      | true ↦ λ live. elim (print_of prints slot == print) as (λ b. (print_of prints slot == print) ≡ b → Marks bitmap prints print (suc slot) (cond b (with_live rest slot) rest)) [
        | true ↦ λ same. subst (λ n. Marks bitmap prints print n (with_live rest slot)) next (marks_next bitmap prints print rest slot (omega arith) before (eqb-true _ _ live) (eqb-true _ _ same))
        | false ↦ λ other. subst (λ n. Marks bitmap prints print n rest) next (marks_past bitmap prints print rest slot before (λ _ same. eqb-false _ _ other same))
      ] refl
      | false ↦ λ clear. subst (λ n. Marks bitmap prints print n rest) next (marks_past bitmap prints print rest slot before (λ live _. eqb-false _ _ clear live))
    ] refl

pub candidate_bits_below : (bitmap : ℕ) (prints : List ℕ) (print count : ℕ) → count ≤ 64 → candidate_bits bitmap prints print count < 2 ^ 64
unfolding candidate_bits
candidate_bits_below bitmap prints print zero within = omega arith
candidate_bits_below bitmap prints print (suc slot) within =
    let rest = candidate_bits bitmap prints print slot in
    let below = candidate_bits_below bitmap prints print slot (omega arith) in
    elim (bit_at bitmap slot == 1 && print_of prints slot == print) as (λ b. cond b (with_live rest slot) rest < 2 ^ 64) [
      | true ↦ with_live_below 64 rest slot (omega arith) (omega arith) below
      | false ↦ below
    ]

-- bytes of which one is changed to a byte are bytes
bytes_below : (bytes : List ℕ) → AllByRecursion (λ b. b < 256) bytes → (position byte : ℕ) → byte < 256 → (i : ℕ) → get_or (set bytes position byte) i 0 < 256
bytes_below [] below position byte small i = omega arith
bytes_below (b ∷ bytes) below zero byte small zero = small
bytes_below (b ∷ bytes) below zero byte small (suc i) = bytes_kept bytes below.1 i
  where
    bytes_kept : (bytes : List ℕ) → AllByRecursion (λ b. b < 256) bytes → (i : ℕ) → get_or bytes i 0 < 256
    bytes_kept [] below i = omega arith
    bytes_kept (b ∷ bytes) below zero = below.0
    bytes_kept (b ∷ bytes) below (suc i) = bytes_kept bytes below.1 i
bytes_below (b ∷ bytes) below (suc position) byte small zero = below.0
bytes_below (b ∷ bytes) below (suc position) byte small (suc i) = bytes_below bytes below.1 position byte small i

-- eight bytes make a word
word_below : (bytes : List ℕ) → ((i : ℕ) → get_or bytes i 0 < 256) → from_le_bytes w64 bytes < 2 ^ 64
word_below bytes below = omega (arith, below 0, below 1, below 2, below 3, below 4, below 5, below 6, below 7)

prints_below : (word slot print : ℕ) → print < 256 → (i : ℕ) → get_or (set (prints_of word) (slot % 8) print) i 0 < 256
prints_below word slot print small =
    bytes_below (prints_of word)
    (omega arith, (omega arith, (omega arith, (omega arith, (omega arith, (omega arith, (omega arith, (omega arith, tt)))))))) (slot % 8) print small

-- a changed word has the new fingerprint in the slot's byte, and its other bytes as before
pub prints_of-printed : (word slot print : ℕ) → print < 256 → prints_of (printed word slot print) ≡ set (prints_of word) (slot % 8) print
unfolding printed
prints_of-printed word slot print small =
    le_bytes_8 (set (prints_of word) (slot % 8) print) (printed word slot print) (length-set (prints_of word) (slot % 8) print) (prints_below word slot print small) refl

pub printed_below : (word slot print : ℕ) → print < 256 → printed word slot print < 2 ^ 64
unfolding printed
printed_below word slot print small = word_below (set (prints_of word) (slot % 8) print) (prints_below word slot print small)
