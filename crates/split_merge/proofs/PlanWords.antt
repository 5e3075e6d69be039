-- The words of a plan, one by one.
use Rattle.std.proofs.Common.{◌≡◌, ℕ, zero, suc, ◌+◌, ◌-◌, ◌*◌, ◌/◌, ◌%◌, ◌^◌, ◌<◌, ◌≤◌, true, false, cond, ltb, List, [], ◌∷◌, get_or, slice_index, Option, Some, None, refl, sym, subst, ap, ◌∙◌, arith}
use Rattle.std.specs.Prelude.{IsSome}
use Rattle.std.specs.Int.{w64, from_le_bytes}
use Rattle.std.specs.List.{AllByRecursion}
use Rattle.std.proofs.lemmas.Bool.{le-ltb, lt-ltb, ltb-true}
use Rattle.std.proofs.lemmas.List.FromFn.{get_or-map-range_with_len}
use Rattle.std.proofs.lemmas.Nat.{le_bytes_8}
use Rattle.std.proofs.Math.Pow.{pow-lt}
use Rattle.cat_key.specs.Names.{IsName, IsNameByte, AreNameWords, words_of}
use Rattle.cat_key.specs.Names as names
use Rattle.std.proofs.lemmas.List.Elements.{All-nil, All-cons}
use Rattle.pm_words.specs.Offsets.{bitmap_offset, next_offset, slot_offset}
use Rattle.data_node.specs.Slots.{prints_of}
use Rattle.data_node.specs.Spots.{print_in_spot}
use Rattle.data_node.specs.Lists.{anchor_words}
use Rattle.data_list.specs.Keys.{IsNameOf, name_kept}
use Rattle.data_list.proofs.KeyLemmas.{name_kept_so}
use Rattle.split_merge.specs.declared.planning.Plan.{Plan}
use Rattle.split_merge.specs.Plans.{spot_of, moved_at, moved_of, some_words, anchor_of, moved_in, source_in, plan_print, eight_prints, plan_word}

pub word_bitmap : (plan : Plan) → plan_word plan bitmap_offset ≡ 2 ^ moved_in plan - 1
unfolding plan_word
word_bitmap plan = refl

pub word_next : (plan : Plan) → plan_word plan next_offset ≡ slice_index plan.full next_offset
unfolding plan_word
word_next plan = refl

pub word_anchor : (plan : Plan) → anchor_words (plan_word plan) ≡ slice_index plan.anchor 0 ∷ slice_index plan.anchor 1 ∷ slice_index plan.anchor 2 ∷ []
unfolding plan_word
word_anchor plan = refl

pub word_print : (plan : Plan) (k : ℕ) → k < 8 → plan_word plan (8 + k) ≡ from_le_bytes w64 (eight_prints plan (8 * k))
unfolding plan_word
word_print plan k small =
    let offset = 8 + k in
    let value = from_le_bytes w64 (eight_prints plan (8 * (offset % 8))) in
    let last = slice_index plan.full (slot_offset (source_in plan ((offset - 16) / 4)) ((offset - 16) % 4)) in
    let place : offset % 8 ≡ k = omega arith in
    ap (λ b. cond b (2 ^ moved_in plan - 1) (cond (ltb offset 3) (slice_index plan.full next_offset) (cond (ltb offset 6) (slice_index plan.anchor (offset - 3)) (cond (ltb offset 16) value last)))) (le-ltb offset 2 (omega arith))
    ∙ ap (λ b. cond b (slice_index plan.full next_offset) (cond (ltb offset 6) (slice_index plan.anchor (offset - 3)) (cond (ltb offset 16) value last))) (le-ltb offset 3 (omega arith))
    ∙ ap (λ b. cond b (slice_index plan.anchor (offset - 3)) (cond (ltb offset 16) value last)) (le-ltb offset 6 (omega arith))
    ∙ ap (λ b. cond b value last) (lt-ltb offset 16 (omega arith))
    ∙ ap (λ j. from_le_bytes w64 (eight_prints plan (8 * j))) place

pub word_slot : (plan : Plan) (slot k offset : ℕ) → k < 4 → offset ≡ slot_offset slot k → plan_word plan offset ≡ spot_of plan.full (slot_offset (source_in plan slot) k)
unfolding plan_word
word_slot plan slot k offset small is =
    let value = from_le_bytes w64 (eight_prints plan (8 * (offset % 8))) in
    let last = slice_index plan.full (slot_offset (source_in plan ((offset - 16) / 4)) ((offset - 16) % 4)) in
    let place : (offset - 16) / 4 ≡ slot = omega arith in
    let word : (offset - 16) % 4 ≡ k = omega arith in
    ap (λ b. cond b (2 ^ moved_in plan - 1) (cond (ltb offset 3) (slice_index plan.full next_offset) (cond (ltb offset 6) (slice_index plan.anchor (offset - 3)) (cond (ltb offset 16) value last)))) (le-ltb offset 2 (omega arith))
    ∙ ap (λ b. cond b (slice_index plan.full next_offset) (cond (ltb offset 6) (slice_index plan.anchor (offset - 3)) (cond (ltb offset 16) value last))) (le-ltb offset 3 (omega arith))
    ∙ ap (λ b. cond b (slice_index plan.anchor (offset - 3)) (cond (ltb offset 16) value last)) (le-ltb offset 6 (omega arith))
    ∙ ap (λ b. cond b value last) (le-ltb offset 16 (omega arith))
    ∙ (λ i. slice_index plan.full (slot_offset (source_in plan (place i)) (word i)))

-- bytes
pub byte_at : (bytes : List ℕ) → AllByRecursion (λ b. b < 256) bytes → (k : ℕ) → slice_index bytes k < 256
byte_at [] all k = omega arith
byte_at (b ∷ bytes) all zero = all.0
byte_at (b ∷ bytes) all (suc k) = byte_at bytes all.1 k

pub print_byte : (word k : ℕ) → slice_index (prints_of word) k < 256
print_byte word k =
    byte_at (prints_of word) (omega arith, (omega arith, (omega arith, (omega arith, (omega arith, (omega arith, (omega arith, (omega arith, tt)))))))) k

pub print_small : (plan : Plan) (slot : ℕ) → plan_print plan slot < 256
unfolding plan_print
print_small plan slot =
    elim (ltb slot (moved_in plan)) as (λ b. cond b (print_in_spot (spot_of plan.full) (source_in plan slot)) 0 < 256) [
      | true ↦ print_byte (spot_of plan.full (8 + source_in plan slot / 8)) (source_in plan slot % 8)
      | false ↦ omega arith
    ]

pub print_is : (plan : Plan) (slot : ℕ) → slot < moved_in plan → plan_print plan slot ≡ print_in_spot (spot_of plan.full) (source_in plan slot)
unfolding plan_print
print_is plan slot inside = ap (λ b. cond b (print_in_spot (spot_of plan.full) (source_in plan slot)) 0) (lt-ltb slot (moved_in plan) inside)

eight_small : (plan : Plan) (first : ℕ) → AllByRecursion (λ b. b < 256) (eight_prints plan first)
eight_small plan first = (
  print_small plan first,
  (print_small plan (first + 1), (print_small plan (first + 2), (print_small plan (first + 3), (print_small plan (first + 4), (print_small plan (first + 5), (print_small plan (first + 6), (print_small plan (first + 7), tt))))))),
)

pub prints_fit : (bytes : List ℕ) → ((i : ℕ) → get_or bytes i 0 < 256) → from_le_bytes w64 bytes < 2 ^ 64
prints_fit bytes below = omega (arith, below 0, below 1, below 2, below 3, below 4, below 5, below 6, below 7)

-- the fingerprint of a slot, in the word that has it
pub eighth : (g : ℕ → ℕ) (first k : ℕ) → k < 8 → slice_index (g first ∷ g (first + 1) ∷ g (first + 2) ∷ g (first + 3) ∷ g (first + 4) ∷ g (first + 5) ∷ g (first + 6) ∷ g (first + 7) ∷ []) k ≡ g (first + k)
eighth g first zero small = ap g (omega arith)
eighth g first (suc zero) small = refl
eighth g first (suc (suc zero)) small = refl
eighth g first (suc (suc (suc zero))) small = refl
eighth g first (suc (suc (suc (suc zero)))) small = refl
eighth g first (suc (suc (suc (suc (suc zero))))) small = refl
eighth g first (suc (suc (suc (suc (suc (suc zero)))))) small = refl
eighth g first (suc (suc (suc (suc (suc (suc (suc zero))))))) small = refl
eighth g first (suc (suc (suc (suc (suc (suc (suc (suc k)))))))) small = absurd (omega arith)

pub prints_say : (plan : Plan) (slot : ℕ) → slot < 64 → slice_index (prints_of (plan_word plan (8 + slot / 8))) (slot % 8) ≡ plan_print plan slot
prints_say plan slot small =
    let bytes = eight_prints plan (8 * (slot / 8)) in
    let word = word_print plan (slot / 8) (omega arith) in
    let whole = le_bytes_8 bytes (plan_word plan (8 + slot / 8)) refl (byte_at bytes (eight_small plan (8 * (slot / 8)))) word in
    let place : 8 * (slot / 8) + slot % 8 ≡ slot = omega arith in
    ap (λ (b : List ℕ). slice_index b (slot % 8)) whole ∙ eighth (plan_print plan) (8 * (slot / 8)) (slot % 8) (omega arith) ∙ ap (plan_print plan) place

-- the slots that move
pub source_is : (order : List ℕ) (half slot : ℕ) → half ≤ 32 → slot < half → slice_index (moved_of order half) slot ≡ slice_index order (half + slot)
unfolding moved_of
source_is order half slot few inside =
    get_or-map-range_with_len (moved_at order half) 0 32 slot slot 0 (omega arith) (omega arith) ∙ ap (λ b. cond b (slice_index order (half + slot)) 0) (lt-ltb slot half inside)

pub source_small : (order : List ℕ) (half most slot : ℕ) → 0 < most → ((i : ℕ) → i < half → slice_index order (half + i) < most) → slot < 32 → slice_index (moved_of order half) slot < most
unfolding moved_of
source_small order half most slot some small inside =
    subst (λ n. n < most) (sym (get_or-map-range_with_len (moved_at order half) 0 32 slot slot 0 inside (omega arith)))
    (elim (ltb slot half) as (λ b. ltb slot half ≡ b → cond b (slice_index order (half + slot)) 0 < most) [
      | true ↦ λ below. small slot (ltb-true slot half below)
      | false ↦ λ _. some
    ] refl)

-- the name `!`
is_bang : IsName (33 ∷ [])
is_bang = record { some = omega arith; fits = omega arith; bytes = All-cons IsNameByte 33 [] (omega arith, omega arith) (All-nil IsNameByte) }

bang_words : words_of (33 ∷ []) ≡ 0x2100000000000000 ∷ 0 ∷ 0 ∷ []
unfolding words_of names.word_of
bang_words = refl

-- an anchor is a name's words, whatever words it is made of,
pub record IsAnchor (words : List ℕ) : Type 0 where
  pub named : AreNameWords (slice_index words 0 ∷ slice_index words 1 ∷ slice_index words 2 ∷ [])
  pub fits : (k : ℕ) → slice_index words k < 2 ^ 64

small_words : (a b c : ℕ) → a < 2 ^ 64 → b < 2 ^ 64 → c < 2 ^ 64 → (k : ℕ) → slice_index (a ∷ b ∷ c ∷ []) k < 2 ^ 64
small_words a b c fa fb fc zero = fa
small_words a b c fa fb fc (suc zero) = fb
small_words a b c fa fb fc (suc (suc zero)) = fc
small_words a b c fa fb fc (suc (suc (suc k))) = omega arith

pub anchor_is : (a b c : ℕ) → a < 2 ^ 64 → b < 2 ^ 64 → c < 2 ^ 64 → IsAnchor (anchor_of (a ∷ b ∷ c ∷ []))
unfolding anchor_of
anchor_is a b c fa fb fc = of (name_kept (a ∷ b ∷ c ∷ [])) (name_kept_so (a ∷ b ∷ c ∷ []))
  where
    of : (found : Option (List ℕ)) → IsNameOf (a ∷ b ∷ c ∷ []) found → IsAnchor (some_words found (a ∷ b ∷ c ∷ []))
    of (Some name) is = record { named = (name, is.named, is.whole); fits = small_words a b c fa fb fc }
    of None is = record { named = (33 ∷ [], is_bang, bang_words); fits = small_words 0x2100000000000000 0 0 (omega arith) (omega arith) (omega arith) }

-- and those words themselves, if they are a name's
pub anchor_same : (a b c : ℕ) → AreNameWords (a ∷ b ∷ c ∷ []) → anchor_of (a ∷ b ∷ c ∷ []) ≡ a ∷ b ∷ c ∷ []
unfolding anchor_of
anchor_same a b c named = of (name_kept (a ∷ b ∷ c ∷ [])) (name_kept_so (a ∷ b ∷ c ∷ []))
  where
    nothing : IsSome (let none : Option (List ℕ) = None in none) → ⊥
    nothing some = cc

    of : (found : Option (List ℕ)) → IsNameOf (a ∷ b ∷ c ∷ []) found → some_words found (a ∷ b ∷ c ∷ []) ≡ a ∷ b ∷ c ∷ []
    of (Some name) is = refl
    of None is = absurd (nothing (is.some.1 named))

-- each word of a plan is a word
pub words_fit : (plan : Plan) → ((offset : ℕ) → slice_index plan.full offset < 2 ^ 64) → IsAnchor plan.anchor → moved_in plan ≤ 32 → (offset : ℕ) → plan_word plan offset < 2 ^ 64
unfolding plan_word
words_fit plan fits anchor few offset =
    elim (ltb offset 2) as (λ b. cond b (2 ^ moved_in plan - 1) (cond (ltb offset 3) (slice_index plan.full next_offset) (cond (ltb offset 6) (slice_index plan.anchor (offset - 3)) (cond (ltb offset 16) value last))) < 2 ^ 64) [
      | true ↦ let below : moved_in plan < 64 = omega arith in let small : 2 ^ moved_in plan < 2 ^ 64 = pow-lt below in omega arith
      | false ↦ elim (ltb offset 3) as (λ b. cond b (slice_index plan.full next_offset) (cond (ltb offset 6) (slice_index plan.anchor (offset - 3)) (cond (ltb offset 16) value last)) < 2 ^ 64) [
        | true ↦ fits 2
        | false ↦ elim (ltb offset 6) as (λ b. cond b (slice_index plan.anchor (offset - 3)) (cond (ltb offset 16) value last) < 2 ^ 64) [
          | true ↦ anchor.fits (offset - 3)
          | false ↦ elim (ltb offset 16) as (λ b. cond b value last < 2 ^ 64) [
            | true ↦ prints_fit (eight_prints plan (8 * (offset % 8))) (byte_at (eight_prints plan (8 * (offset % 8))) (eight_small plan (8 * (offset % 8))))
            | false ↦ fits (slot_offset (source_in plan ((offset - 16) / 4)) ((offset - 16) % 4))
          ]
        ]
      ]
    ]
  where
    value : ℕ
    value = from_le_bytes w64 (eight_prints plan (8 * (offset % 8)))

    last : ℕ
    last = slice_index plan.full (slot_offset (source_in plan ((offset - 16) / 4)) ((offset - 16) % 4))
