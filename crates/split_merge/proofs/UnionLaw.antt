-- The words of the left node, as a merge makes them, have the names of both nodes.
use Rattle.std.proofs.Common.{◌≡◌, ℕ, zero, suc, ◌+◌, ◌*◌, ◌/◌, ◌%◌, ◌^◌, ◌<◌, ◌≤◌, ◌==◌, ◌&&◌, ltb, true, false, cond, Bool, List, [], ◌∷◌, slice_index, inl, inr, refl, sym, subst, ap, ◌∙◌, arith}
use Rattle.std.specs.Int.{bit_at}
use Rattle.std.specs.List.{AllByRecursion}
use Rattle.std.proofs.lemmas.Bool.{cases_eq, lt-ltb, ltb-true, ltb-false}
use Rattle.std.proofs.lemmas.Nat.{le_bytes_8}
use Rattle.cat_key.specs.Names.{bytes_of, fingerprint_of}
use Rattle.cat_history.specs.Maps.{Map}
use Rattle.pm_words.specs.Offsets.{bitmap_offset, slot_offset, value_word}
use Rattle.data_node.specs.Bits.{live_count}
use Rattle.data_node.specs.Slots.{IsLive, prints_of}
use Rattle.data_node.specs.Spots.{Spot, Means, updated, IsLiveIn, print_in_spot}
use Rattle.data_node.specs.Lists.{StaysIn}
use Rattle.data_node.specs.Weights.{names_in, has_name_in}
use Rattle.data_node.proofs.SpotLemmas.{updated-same, updated-other}
use Rattle.data_node.proofs.LiveCounts.{live_none}
use Rattle.call_stages.specs.Kinds.{IsGathered}
use Rattle.split_merge.specs.declared.uniting.Union.{Union}
use Rattle.split_merge.specs.declared.pairing.Pairs.{Pairs}
use Rattle.split_merge.specs.Pairs.{rest_at, grown_at}
use Rattle.split_merge.specs.Unions.{IsUnion, head_word, from_in, half_of, joined_print, eight_joined, joined_prints}
use Rattle.split_merge.proofs.PairLemmas.{gets_parts, low, does, low_live, rest_before, sources_apart, gone_into, none_left, grown_own, grown_target, grown_is, grown_below, from_is, source_is}
use Rattle.split_merge.proofs.PlanWords.{print_byte, prints_fit, byte_at, eighth}
use Rattle.split_merge.proofs.Gathering.{IsSameSlot, IsUnited, union_gathered}

-- the names of a node, whatever they are
names_live : (n : ℕ) (s : Spot) → names_in n (λ name. true) s ≡ live_count n (s bitmap_offset)
names_live zero s = refl
names_live (suc n) s =
    let here : has_name_in (λ name. true) s n ≡ (bit_at (s bitmap_offset) n == 1) = elim (bit_at (s bitmap_offset) n == 1) as (λ b. (b && true) ≡ b) [
      | true ↦ refl
      | false ↦ refl
    ] in
    let rest = names_live n s in
    λ i. cond (here i) 1 0 + rest i

-- What the party knows of the words s of the left node and t of the right one as it stores the bitmap.
pub record AreGathered (union : Union) (s t : Spot) : Type 0 where
  pub own : s bitmap_offset ≡ union.own
  pub right : t bitmap_offset ≡ head_word union bitmap_offset
  pub head : (offset : ℕ) → 8 ≤ offset → offset < 16 → t offset ≡ head_word union offset
  pub prints : (slot : ℕ) → slot < half_of union → from_in union slot < 64 → s (8 + slot / 8) ≡ joined_prints union (slot / 8)
  pub copied : (slot k : ℕ) → slot < half_of union → from_in union slot < 64 → k < 4 → s (slot_offset slot k) ≡ t (slot_offset (from_in union slot) k)

module _ (union : Union) (sound : IsUnion union) where
  abbrev slots : ℕ
  slots = union.layout.slots

  abbrev own : ℕ
  own = union.own

  abbrev right : ℕ
  right = head_word union bitmap_offset

  few : slots ≤ 64
  few = sound.layout.slots.1

  -- the slot whose name this one gets
  from_low : (slot : ℕ) → slot < half_of union → does own right slots slot → from_in union slot ≡ low own right slots slot
  from_low slot within is = ap (λ (p : Pairs). slice_index p.from slot) sound.pairs ∙ from_is own right slots few slot within ∙ source_is own right slots slot is

  grown : union.pairs.grown ≡ grown_at own right slots (slots / 2)
  grown = ap (λ (p : Pairs). p.grown) sound.pairs

  -- a byte of the fingerprints that are stored
  pub print_small : (slot : ℕ) → joined_print union slot < 256
  unfolding joined_print
  print_small slot = elim (ltb (from_in union slot) 64) as (λ b. cond b (slice_index (prints_of (head_word union (8 + from_in union slot / 8))) (from_in union slot % 8)) (slice_index (prints_of (slice_index union.prints (slot / 8))) (slot % 8)) < 256) [
    | true ↦ print_byte (head_word union (8 + from_in union slot / 8)) (from_in union slot % 8)
    | false ↦ print_byte (slice_index union.prints (slot / 8)) (slot % 8)
  ]

  eight_small : (first : ℕ) → AllByRecursion (λ b. b < 256) (eight_joined union first)
  eight_small first = (
    print_small first,
    (print_small (first + 1), (print_small (first + 2), (print_small (first + 3), (print_small (first + 4), (print_small (first + 5), (print_small (first + 6), (print_small (first + 7), tt))))))),
  )

  pub prints_small : (word : ℕ) → joined_prints union word < 2 ^ 64
  prints_small word = prints_fit (eight_joined union (8 * word)) (byte_at (eight_joined union (8 * word)) (eight_small (8 * word)))

  pub joined_say : (slot : ℕ) → slice_index (prints_of (joined_prints union (slot / 8))) (slot % 8) ≡ joined_print union slot
  joined_say slot =
      let bytes = eight_joined union (8 * (slot / 8)) in
      let whole = le_bytes_8 bytes (joined_prints union (slot / 8)) refl (byte_at bytes (eight_small (8 * (slot / 8)))) refl in
      let place : 8 * (slot / 8) + slot % 8 ≡ slot = omega arith in
      ap (λ (b : List ℕ). slice_index b (slot % 8)) whole ∙ eighth (joined_print union) (8 * (slot / 8)) (slot % 8) (omega arith) ∙ ap (joined_print union) place

  pub joined_copy : (slot : ℕ) → from_in union slot < 64 → joined_print union slot ≡ slice_index (prints_of (head_word union (8 + from_in union slot / 8))) (from_in union slot % 8)
  unfolding joined_print
  joined_copy slot is = ap (λ b. cond b (slice_index (prints_of (head_word union (8 + from_in union slot / 8))) (from_in union slot % 8)) (slice_index (prints_of (slice_index union.prints (slot / 8))) (slot % 8)))
      (lt-ltb (from_in union slot) 64 is)

  module _ (s t : Spot) (gathered : AreGathered union s t) where
    abbrev u : Spot
    u = updated s bitmap_offset union.pairs.grown

    other_word : (offset : ℕ) → 2 ≤ offset → u offset ≡ s offset
    other_word offset far = updated-other s bitmap_offset union.pairs.grown offset (λ e. omega arith)

    same_words : (slot : ℕ) → IsSameSlot u slot s slot
    same_words slot = record {
      name = (λ i. other_word (slot_offset slot 0) (omega arith) i ∷ other_word (slot_offset slot 1) (omega arith) i ∷ other_word (slot_offset slot 2) (omega arith) i ∷ []);
      value = other_word (slot_offset slot value_word) (omega arith);
    }

    print_same : (slot : ℕ) → print_in_spot u slot ≡ print_in_spot s slot
    print_same slot = ap (λ w. slice_index (prints_of w) (slot % 8)) (other_word (8 + slot / 8) (omega arith))

    grown_here : u bitmap_offset ≡ grown_at own right slots (slots / 2)
    grown_here = updated-same s bitmap_offset union.pairs.grown ∙ grown

    live_from : (slot : ℕ) → IsLive (grown_at own right slots (slots / 2)) slot → IsLiveIn u slot
    live_from slot live = subst (λ b. IsLive b slot) (sym grown_here) live

    copy_of : (slot : ℕ) → slot < half_of union → does own right slots slot → IsSameSlot u slot t (low own right slots slot)
    copy_of slot within is =
        let from = from_low slot within is in
        let below = (gets_parts own right slots slot is).1 in
        let word : (k : ℕ) → k < 4 → u (slot_offset slot k) ≡ t (slot_offset (low own right slots slot) k) =
        λ k small. other_word (slot_offset slot k) (omega arith) ∙ gathered.copied slot k within (omega (arith, from, few)) small ∙ ap (λ j. t (slot_offset j k)) from in
        record {
          name = (λ i. word 0 (omega arith) i ∷ word 1 (omega arith) i ∷ word 2 (omega arith) i ∷ []);
          value = word 3 (omega arith);
        }

    print_of_copy : (slot : ℕ) → slot < half_of union → does own right slots slot → print_in_spot u slot ≡ print_in_spot t (low own right slots slot)
    print_of_copy slot within is =
        let from = from_low slot within is in
        let below = (gets_parts own right slots slot is).1 in
        let small : from_in union slot < 64 = omega (arith, from, few) in
        print_same slot
        ∙ ap (λ w. slice_index (prints_of w) (slot % 8)) (gathered.prints slot within small)
        ∙ joined_say slot ∙ joined_copy slot small
        ∙ ap (λ w. slice_index (prints_of w) (from_in union slot % 8)) (sym (gathered.head (8 + from_in union slot / 8) (omega arith) (omega arith)))
        ∙ ap (print_in_spot t) from

    -- a live slot that wasn't live has got a name
    new_slot : (slot : ℕ) → IsLiveIn u slot → (IsLiveIn s slot → ⊥) → (slot < half_of union) × does own right slots slot
    new_slot slot live out =
        elim (grown_is own right slots (slots / 2) (let f = few in omega arith) slot (subst (λ b. IsLive b slot) grown_here live)) [
          | inl was ↦ absurd (out (subst (λ b. IsLive b slot) (sym gathered.own) was))
          | inr is ↦ is
        ]

    module _ (range other : List ℕ → Bool) (m : Map) (means : Means slots range s m) (means_right : Means slots other t m) where
      right_fits : right < 2 ^ 64
      right_fits = sound.head bitmap_offset

      live_right : (slot : ℕ) → does own right slots slot → IsLiveIn t (low own right slots slot)
      live_right slot is =
          let below = (gets_parts own right slots slot is).1 in
          subst (λ b. IsLive b (low own right slots slot)) (sym gathered.right)
          (rest_before own right slots right_fits few 0 slot (low own right slots slot) (omega arith) (let f = few in omega arith) (low_live own right slots right_fits few slot is)).0

      united : IsUnited slots s t u
      united = record {
        bounded = subst (λ b. b < 2 ^ slots) (sym grown_here) (grown_below own right slots few (subst (λ b. b < 2 ^ slots) gathered.own means.tidy.bounded) (slots / 2) (omega arith));
        kept = λ slot within live.
            (live_from slot (grown_own own right slots (slots / 2) (let f = few in omega arith) slot (subst (λ b. IsLive b slot) gathered.own live)), same_words slot, print_same slot);
        source = low own right slots;
        copied = λ slot within live out.
            let is = new_slot slot live out in
            let copy = copy_of slot is.0 is.1 in (
              (gets_parts own right slots slot is.1).1,
              live_right slot is.1,
              copy,
              print_of_copy slot is.0 is.1 ∙ means_right.tidy.printed (low own right slots slot) (gets_parts own right slots slot is.1).1 (live_right slot is.1)
                  ∙ ap (λ w. fingerprint_of (bytes_of w)) (sym copy.name),
            );
        one = λ i j within within' live out live' out' same.
            let is = new_slot i live out in
            let is' = new_slot j live' out' in
            elim (cases_eq i j) [
              | inl e ↦ e
              | inr apart ↦ elim (ltb i j) as (λ b. ltb i j ≡ b → i ≡ j) [
                | true ↦ λ below. absurd (sources_apart own right slots right_fits few i j (ltb-true _ _ below) is.1 is'.1 same)
                | false ↦ λ above. let le = ltb-false _ _ above in absurd (sources_apart own right slots right_fits few j i (omega arith) is'.1 is.1 (sym same))
              ] refl
            ];
        has = λ k within live.
            elim (gone_into own right slots right_fits few (slots / 2) k (let f = few in omega arith) (subst (λ b. IsLive b k) gathered.right live)) [
              | inl left ↦ absurd (live_none slots (rest_at own right slots (slots / 2)) k (none_left own right slots right_fits few sound.few) within left)
              | inr gone ↦ (
                gone.0,
                (let b = gone.1 in omega arith),
                live_from gone.0 (grown_target own right slots (slots / 2) (let f = few in omega arith) gone.0 gone.1 gone.2),
                subst (IsSameSlot u gone.0 t) gone.3 (copy_of gone.0 gone.1 gone.2),
              )
            ];
      }

      pub gathers_both : ((name : List ℕ) → range name ≡ true → other name ≡ true → ⊥) → StaysIn slots range s → StaysIn slots other t → IsGathered slots range other u m
      gathers_both apart stays stays_right =
          let a = names_live slots s in
          let b = names_live slots t in
          let a' : live_count slots (s bitmap_offset) ≡ live_count slots own = ap (live_count slots) gathered.own in
          let b' : live_count slots (t bitmap_offset) ≡ live_count slots right = ap (live_count slots) gathered.right in
          let small = sound.few in
          union_gathered slots range other s t u m apart means stays means_right stays_right united (omega (arith, a, b, a', b', small))
