-- A plan that is made of the words of a full node cuts it.
use Rattle.std.proofs.Common.{◌≡◌, ◌≢◌, ℕ, zero, suc, ◌+◌, ◌-◌, ◌*◌, ◌/◌, ◌%◌, ◌^◌, ◌<◌, ◌≤◌, ◌==◌, Bool, true, false, cond, List, [], ◌∷◌, length, take, slice_index, Option, Some, None, inl, inr, ◌⊎◌, ⊎_elim, refl, sym, subst, ap, ◌∙◌, arith}
use Rattle.std.specs.Prelude.{nat_lt, IsSome}
use Rattle.std.specs.Int.{bit_at}
use Rattle.std.specs.List.{AllByRecursion}
use Rattle.std.proofs.lemmas.Bool.{cases_eq, cases_lt, eq-eqb, eqb-true, lt-ltb, le-ltb, ltb-true, ltb-false, and_from, and_parts, and_right, and_cases}
use Rattle.std.proofs.lemmas.List.{length-take-le, get_or-take}
use Rattle.std.proofs.lemmas.Nat.Bits.{bit_at_ones, bit_at_ones_above, bit_at-zero}
use Rattle.std.proofs.Math.Pow.{pow-lt}
use Rattle.cat_key.specs.Names.{IsName, AreNameWords, words_of, bytes_of, fingerprint_of}
use Rattle.cat_key.proofs.Packing.{bytes_of-words_of}
use Rattle.cat_history.specs.Maps.{Map, at}
use Rattle.pm_words.specs.Offsets.{bitmap_offset, next_offset, print_offset, slot_offset, value_word}
use Rattle.data_node.specs.Slots.{AreAllLive, IsLive, prints_of}
use Rattle.data_node.specs.Spots.{Spot, Means, Finds, updated, IsLiveIn, name_words, value_in, print_in_spot}
use Rattle.data_node.specs.Lists.{key_of, anchor_in, three_words, StaysIn, anchor_words}
use Rattle.data_node.specs.Weights.{has_name_in, names_in}
use Rattle.data_node.specs.Orders.{comes_before}
use Rattle.data_node.proofs.SpotLemmas.{at_found, updated-same, updated-other}
use Rattle.data_node.proofs.NameCounts.{names_tally}
use Rattle.call_stages.specs.Stages.{Held, Tells}
use Rattle.call_stages.specs.Kinds.{below_key, IsCut}
use Rattle.index_law.proofs.Copies.{slot_key, slot_key-is, IsCopy, copy_means, copy_stays, full_names}
use Rattle.split_merge.specs.declared.planning.Plan.{Plan}
use Rattle.split_merge.specs.Plans.{spot_of, entries_of, order_of, moved_in, source_in, bits_of, plan_word, IsPlan, IsHalf}
use Rattle.split_merge.specs.Moves.{slot_count, print_count}
use Rattle.split_merge.specs.MoveStages.{words_onto, slots_seen, prints_seen, anchor_seen, fresh_seen, cut_key}
use Rattle.split_merge.specs.Splits.{AreWords}
use Rattle.split_merge.specs.SplitStages.{bitmap_in, read_seen, known_by}
use Rattle.split_merge.specs.Laws.{Cuts}
use Rattle.split_merge.proofs.Sorting.{all_from, order_tally, first_pass}
use Rattle.split_merge.proofs.Halving.{one_number, in_size, in_within, in_has, in_apart, in_rising, bits_has, bits_only, bits_below}
use Rattle.split_merge.proofs.PlanWords.{word_bitmap, word_next, word_anchor, word_slot, print_is, prints_say, source_is, anchor_same}

-- what is known of words in a row
pub told_at : (f : ℕ → ℕ) (first n : ℕ) (others : List (ℕ × ℕ)) (s : Spot) → Tells (words_onto f first n others) s → (k : ℕ) → k < n → s (first + k) ≡ f (first + k)
told_at f first zero others s told k within = absurd (omega arith)
told_at f first (suc n) others s told k within =
    elim (cases_eq k n) [
      | inl last ↦ subst (λ j. s (first + j) ≡ f (first + j)) (sym last) told.0
      | inr before ↦ told_at f first n others s told.1 k (omega arith)
    ]

pub told_past : (f : ℕ → ℕ) (first n : ℕ) (others : List (ℕ × ℕ)) (s : Spot) → Tells (words_onto f first n others) s → Tells others s
told_past f first zero others s told = told
told_past f first (suc n) others s told = told_past f first n others s told.1

pub tells_row : (f : ℕ → ℕ) (first n : ℕ) (others : List (ℕ × ℕ)) (s : Spot) → ((k : ℕ) → k < n → s (first + k) ≡ f (first + k)) → Tells others s → Tells (words_onto f first n others) s
tells_row f first zero others s same told = told
tells_row f first (suc n) others s same told = (same n (omega arith), tells_row f first n others s (λ k within. same k (omega arith)) told)

-- the bitmap among known words, if it is one, is that of the node
bitmap_told : (seen : List (ℕ × ℕ)) (s : Spot) → bitmap_in seen ≢ 0 → Tells seen s → s bitmap_offset ≡ bitmap_in seen
bitmap_told [] s some told = absurd (some refl)
bitmap_told (w ∷ seen) s some told =
    elim (w.0 == bitmap_offset) as (λ b. (w.0 == bitmap_offset) ≡ b → cond b w.1 (bitmap_in seen) ≢ 0 → s bitmap_offset ≡ cond b w.1 (bitmap_in seen)) [
      | true ↦ λ here _. ap s (sym (eqb-true w.0 bitmap_offset here)) ∙ told.0
      | false ↦ λ _ more. bitmap_told seen s more told.1
    ] refl some

-- so of a node that is known to be full all slots are live
pub full_told : (seen : List (ℕ × ℕ)) (slots : ℕ) → 1 ≤ slots → AreAllLive (bitmap_in seen) slots → (s : Spot) → Tells seen s → (s bitmap_offset ≡ bitmap_in seen) × AreAllLive (s bitmap_offset) slots
full_told seen slots some all s told = (same, λ slot within. ap (λ n. bit_at n slot) same ∙ all slot within)
  where
    bits : bitmap_in seen ≢ 0
    bits none =
        let live : bit_at (bitmap_in seen) 0 ≡ 1 = all 0 (omega arith) in
        let zero_bit : bit_at (bitmap_in seen) 0 ≡ 0 = ap (λ n. bit_at n 0) none ∙ bit_at-zero 0 in
        omega arith

    same : s bitmap_offset ≡ bitmap_in seen
    same = bitmap_told seen s bits told

module _ (plan : Plan) (sound : IsPlan plan) (is : IsHalf plan) (words : AreWords plan.full) where
  abbrev slots : ℕ
  slots = plan.layout.slots

  abbrev half : ℕ
  half = moved_in plan

  abbrev f : Spot
  f = spot_of plan.full

  abbrev order : List ℕ
  order = order_of plan.full slots

  few : slots ≤ 64
  few = sound.layout.slots.1

  low : 4 ≤ slots
  low = sound.layout.slots.0

  even : slots % 2 ≡ 0
  even = sound.layout.slots.2

  twice : slots ≡ half + half
  twice = let e : slots % 2 ≡ 0 = even in omega arith

  two : 2 ≤ half
  two = let h : 4 ≤ slots = low in omega arith

  most : half ≤ 32
  most = let h : slots ≤ 64 = few in omega arith

  -- the slot of the least name that moves
  abbrev least : ℕ
  least = slice_index order half

  source : (slot : ℕ) → slot < half → source_in plan slot ≡ slice_index order (half + slot)
  source slot inside = ap (λ (xs : List ℕ). slice_index xs slot) is.moved ∙ source_is order half slot most inside

  -- the words of the full node
  module _ (s : Spot) (told : (k : ℕ) → k < 8 + 4 * slots → s (8 + k) ≡ f (8 + k)) where
    word_same : (slot k : ℕ) → slot < slots → k < 4 → s (slot_offset slot k) ≡ f (slot_offset slot k)
    word_same slot k within small =
        let at : 8 + (8 + 4 * slot + k) ≡ slot_offset slot k = omega arith in
        subst (λ o. s o ≡ f o) at (told (8 + 4 * slot + k) (omega arith))

    name_same : (slot : ℕ) → slot < slots → name_words s slot ≡ name_words f slot
    name_same slot within =
        let a = word_same slot 0 within (omega arith) in
        let b = word_same slot 1 within (omega arith) in
        let c = word_same slot 2 within (omega arith) in
        λ i. a i ∷ b i ∷ c i ∷ []

    key_same : (slot : ℕ) → slot < slots → slot_key s slot ≡ slot_key f slot
    key_same slot within =
        let a = word_same slot 0 within (omega arith) in
        let b = word_same slot 1 within (omega arith) in
        let c = word_same slot 2 within (omega arith) in
        λ i. three_words (a i) (b i) (c i)

    print_same : (slot : ℕ) → slot < slots → print_in_spot s slot ≡ print_in_spot f slot
    print_same slot within =
        let h = few in
        ap (λ word. slice_index (prints_of word) (slot % 8)) (told (slot / 8) (omega arith))

    module _ (range : List ℕ → Bool) (m : Map) (full : AreAllLive (s bitmap_offset) slots) (means : Means slots range s m) where
      -- the names of slots rise in the order
      strictly : (i j : ℕ) → i < j → j < slots → slot_key s (slice_index order i) < slot_key s (slice_index order j)
      strictly i j less below =
          let x = slice_index order i in
          let y = slice_index order j in
          let in_x : x < slots = in_within plan.full slots few i (omega arith) in
          let in_y : y < slots = in_within plan.full slots few j below in
          let up = in_rising plan.full slots few words.fits i j less below in
          let ex = key_same x in_x in
          let ey = key_same y in_y in
          elim (cases_eq (slot_key f x) (slot_key f y)) [
            | inl same ↦
                let names = one_number (f (slot_offset x 0)) (f (slot_offset x 1)) (f (slot_offset x 2)) (f (slot_offset y 0)) (f (slot_offset y 1)) (f (slot_offset y 2))
                (words.fits (slot_offset x 1)) (words.fits (slot_offset x 2)) (words.fits (slot_offset y 1)) (words.fits (slot_offset y 2)) same in
                absurd (in_apart plan.full slots few i j less below
                (means.tidy.apart x y in_x in_y (full x in_x) (full y in_y) (name_same x in_x ∙ names ∙ sym (name_same y in_y))))
            | inr other ↦ omega arith
          ]

      -- a slot stands in the lower half, with a name below the least that moves, or in the upper one
      halves : (slot : ℕ) → slot < slots → ((i : ℕ) × (i < half) × (slice_index order i ≡ slot) × (slot_key s slot < slot_key s least))
          ⊎ ((i : ℕ) × (i < half) × (slice_index order (half + i) ≡ slot) × (slot_key s least ≤ slot_key s slot))
      halves slot within =
          let at = in_has plan.full slots few slot within in
          let inside = at.1 in
          let t = twice in
          let w = two in
          let here : slot_key s (slice_index order at.0) ≡ slot_key s slot = ap (slot_key s) at.2 in
          elim (cases_lt at.0 half) [
            | inl below ↦ let less = strictly at.0 half below (omega arith) in inl (at.0, below, at.2, omega arith)
            | inr above ↦
                let place : half + (at.0 - half) ≡ at.0 = omega arith in
                let high : slot_key s least ≤ slot_key s slot = elim (cases_eq at.0 half) [
                  | inl first ↦ let same : slot_key s (slice_index order at.0) ≡ slot_key s least = ap (λ j. slot_key s (slice_index order j)) first in omega arith
                  | inr later ↦ let less = strictly half at.0 (omega arith) inside in omega arith
                ] in
                inr (at.0 - half, omega arith, ap (slice_index order) place ∙ at.2, high)
          ]

      upper : (slot : ℕ) → slot < slots → slot_key s least ≤ slot_key s slot → (i : ℕ) × (i < half) × (slice_index order (half + i) ≡ slot)
      upper slot within high = ⊎_elim (λ low. let below = low.3 in absurd (omega arith)) (λ up. (up.0, up.1, up.2)) (halves slot within)

      lower : (slot : ℕ) → slot < slots → slot_key s slot < slot_key s least → (i : ℕ) × (i < half) × (slice_index order i ≡ slot)
      lower slot within below = ⊎_elim (λ low. (low.0, low.1, low.2)) (λ up. let high = up.3 in absurd (omega arith)) (halves slot within)

      in_least : least < slots
      in_least = let t = twice in let w = two in in_within plan.full slots few half (omega arith)

      least_named : AreNameWords (name_words s least)
      least_named = means.tidy.named least in_least (full least in_least)

      -- a live slot's name is one of the range
      inside_range : StaysIn slots range s → (slot : ℕ) → slot < slots → (name : List ℕ) → IsName name → name_words s slot ≡ words_of name → range name ≡ true
      inside_range stays slot within name named same = of (range name) refl
        where
          of : (b : Bool) → range name ≡ b → range name ≡ true
          of true e = e
          of false e = absurd (stays name named e slot within (full slot within) same)

      -- the fresh node has copies of the upper half
      module _ (t : Spot) (fresh : Tells (fresh_seen plan) t) where
        abbrev at_anchor : Tells (anchor_seen plan 3) t
        at_anchor = fresh.1

        abbrev at_bitmap : Tells ((bitmap_offset, plan_word plan bitmap_offset) ∷ prints_seen plan (print_count plan)) t
        at_bitmap = told_past (plan_word plan) 3 3 ((bitmap_offset, plan_word plan bitmap_offset) ∷ prints_seen plan (print_count plan)) t fresh.1

        bitmap_is : t bitmap_offset ≡ 2 ^ half - 1
        bitmap_is = at_bitmap.0 ∙ word_bitmap plan

        slot_told : (n : ℕ) → n < 4 * half → t (16 + n) ≡ plan_word plan (16 + n)
        slot_told n small = told_at (plan_word plan) 16 (slot_count plan) [] t (told_past (plan_word plan) 8 (print_count plan) (slots_seen plan (slot_count plan)) t at_bitmap.1) n small

        print_told : (n : ℕ) → n < print_count plan → t (8 + n) ≡ plan_word plan (8 + n)
        print_told n small = told_at (plan_word plan) 8 (print_count plan) (slots_seen plan (slot_count plan)) t at_bitmap.1 n small

        abbrev from : ℕ → ℕ
        from slot = slice_index order (half + slot)

        from_within : (slot : ℕ) → slot < half → from slot < slots
        from_within slot inside = let w = twice in in_within plan.full slots few (half + slot) (omega arith)

        copy_word : (slot k : ℕ) → slot < half → k < 4 → t (slot_offset slot k) ≡ s (slot_offset (from slot) k)
        copy_word slot k inside small =
            let place : 16 + (4 * slot + k) ≡ slot_offset slot k = omega arith in
            subst (λ o. t o ≡ plan_word plan o) place (slot_told (4 * slot + k) (omega arith))
            ∙ word_slot plan slot k (slot_offset slot k) small refl
            ∙ ap (λ n. f (slot_offset n k)) (source slot inside)
            ∙ sym (word_same (from slot) k (from_within slot inside) small)

        copy_print : (slot : ℕ) → slot < half → print_in_spot t slot ≡ print_in_spot s (from slot)
        copy_print slot inside =
            let m = most in
            ap (λ word. slice_index (prints_of word) (slot % 8)) (print_told (slot / 8) (omega arith))
            ∙ prints_say plan slot (omega arith) ∙ print_is plan slot inside ∙ ap (print_in_spot f) (source slot inside)
            ∙ sym (print_same (from slot) (from_within slot inside))

        -- its anchor is the least of the names that move
        least_words : anchor_words t ≡ name_words s least
        least_words =
            let third = at_anchor.0 in
            let second = at_anchor.1.0 in
            let first = at_anchor.1.1.0 in
            let named = subst AreNameWords (name_same least in_least) least_named in
            let whole = is.anchor ∙ anchor_same (f (slot_offset least 0)) (f (slot_offset least 1)) (f (slot_offset least 2)) named in
            (λ i. first i ∷ second i ∷ third i ∷ []) ∙ word_anchor plan
            ∙ ap (λ (ws : List ℕ). slice_index ws 0 ∷ slice_index ws 1 ∷ slice_index ws 2 ∷ []) whole ∙ sym (name_same least in_least)

        key_is : anchor_in t ≡ slot_key s least
        unfolding anchor_in
        key_is = ap (λ (ws : List ℕ). three_words (slice_index ws 0) (slice_index ws 1) (slice_index ws 2)) least_words

        is_copy : IsCopy slots (anchor_in t) s t
        is_copy = record {
          count = half;
          within = (let w = twice in omega arith);
          bounded = subst (λ n. n < 2 ^ slots) (sym bitmap_is) (let more : half < slots = (let w = twice in let v = two in omega arith) in let wide : 2 ^ half < 2 ^ slots = pow-lt more in omega arith);
          live = λ slot within live. elim (cases_lt slot half) [
            | inl below ↦ below
            | inr above ↦ let none = bit_at_ones_above half slot above in let one : bit_at (2 ^ half - 1) slot ≡ 1 = ap (λ n. bit_at n slot) (sym bitmap_is) ∙ live in absurd (omega arith)
          ];
          set = λ slot below. ap (λ n. bit_at n slot) bitmap_is ∙ bit_at_ones half slot below;
          source = from;
          source_within = from_within;
          apart = λ i j below below' same. elim (cases_eq i j) [
            | inl e ↦ e
            | inr other ↦ elim (cases_lt i j) [
              | inl less ↦ let w = twice in absurd (in_apart plan.full slots few (half + i) (half + j) (omega arith) (omega arith) same)
              | inr more ↦ let w = twice in absurd (in_apart plan.full slots few (half + j) (half + i) (omega arith) (omega arith) (sym same))
            ]
          ];
          name = λ slot below.
              let a = copy_word slot 0 below (omega arith) in
              let b = copy_word slot 1 below (omega arith) in
              let c = copy_word slot 2 below (omega arith) in
              λ i. a i ∷ b i ∷ c i ∷ [];
          value = λ slot below. copy_word slot 3 below (omega arith);
          print = copy_print;
          upper = λ slot below. subst (λ n. n ≤ slot_key s (from slot)) (sym key_is) (elim (cases_eq slot 0) [
            | inl first ↦ let same : slot_key s (from slot) ≡ slot_key s least = (let place : half + slot ≡ half = omega arith in ap (λ j. slot_key s (slice_index order j)) place) in omega arith
            | inr later ↦ let w = twice in let less = strictly half (half + slot) (omega arith) (omega arith) in omega arith
          ]);
          all = λ slot within high. upper slot within (subst (λ n. n ≤ slot_key s slot) key_is high);
        }

        module _ (stays : StaysIn slots range s) where
          -- how many names stay
          halved : names_in slots (below_key range (anchor_in t)) s ≡ half
          unfolding order_of
          halved =
              names_tally slots (below_key range (anchor_in t)) s ∙ sym (order_tally (comes_before (entries_of plan.full)) passes slots)
              ∙ first_pass passes order half (let w = twice in let size = in_size plan.full slots few in omega arith) below above
            where
              passes : ℕ → Bool
              passes = has_name_in (below_key range (anchor_in t)) s

              text_of : (slot : ℕ) → slot < slots → (name : List ℕ) × IsName name × (words_of name ≡ name_words s slot) × (bytes_of (name_words s slot) ≡ name)
              text_of slot within =
                  let named = means.tidy.named slot within (full slot within) in
                  (named.0, named.1, named.2, ap bytes_of (sym named.2) ∙ bytes_of-words_of named.0 named.1)

              below : (i : ℕ) → i < half → passes (slice_index order i) ≡ true
              below i small =
                  let w = twice in
                  let v = two in
                  let slot = slice_index order i in
                  let within = in_within plan.full slots few i (omega arith) in
                  let text = text_of slot within in
                  let less = strictly i half small (omega arith) in
                  let key = slot_key-is s slot text.0 (sym text.2) in
                  let k = key_is in
                  let ranged : below_key range (anchor_in t) text.0 ≡ true =
                  and_from (range text.0) (nat_lt (key_of text.0) (anchor_in t)) (inside_range stays slot within text.0 text.1 (sym text.2)) (lt-ltb (key_of text.0) (anchor_in t) (omega arith)) in
                  and_from (bit_at (s bitmap_offset) slot == 1) (below_key range (anchor_in t) (bytes_of (name_words s slot))) (eq-eqb (bit_at (s bitmap_offset) slot) 1 (full slot within))
                  (subst (λ n. below_key range (anchor_in t) n ≡ true) (sym text.3) ranged)

              above : (i : ℕ) → half ≤ i → i < length order → passes (slice_index order i) ≡ false
              above i high inside =
                  let size = in_size plan.full slots few in
                  let slot = slice_index order i in
                  let within = in_within plan.full slots few i (omega arith) in
                  let text = text_of slot within in
                  let key = slot_key-is s slot text.0 (sym text.2) in
                  let k = key_is in
                  let up : slot_key s least ≤ slot_key s slot = elim (cases_eq i half) [
                    | inl first ↦ let same : slot_key s slot ≡ slot_key s least = ap (λ j. slot_key s (slice_index order j)) first in omega arith
                    | inr later ↦ let less = strictly half i (omega arith) (omega arith) in omega arith
                  ] in
                  let out : below_key range (anchor_in t) text.0 ≡ false =
                  and_right (range text.0) (nat_lt (key_of text.0) (anchor_in t)) (le-ltb (key_of text.0) (anchor_in t) (omega arith)) in
                  and_right (bit_at (s bitmap_offset) slot == 1) (below_key range (anchor_in t) (bytes_of (name_words s slot)))
                  (subst (λ n. below_key range (anchor_in t) n ≡ false) (sym text.3) out)

          cut : t next_offset ≡ s next_offset → IsCut slots range s t m
          cut leads =
              let w = twice in
              let v = two in
              let named = least_named in
              let first = slice_index order 0 in
              let in_first = in_within plan.full slots few 0 (omega arith) in
              let low_name = means.tidy.named first in_first (full first in_first) in
              let key = slot_key-is s least named.0 (sym named.2) in
              let low_key = slot_key-is s first low_name.0 (sym low_name.2) in
              let less = strictly 0 half (omega arith) (omega arith) in
              let inside = inside_range stays least in_least named.0 named.1 (sym named.2) in
              let has = at_found slots range s m named.0 least named.1 inside means (full least in_least) (sym named.2) in
              record {
                leads = leads;
                anchor = named.0;
                named = named.1;
                anchored = key_is ∙ key;
                inside = inside;
                lower = low_name.0;
                lower_inside = inside_range stays first in_first low_name.0 low_name.1 (sym low_name.2);
                below = omega arith;
                means = copy_means slots (anchor_in t) range s t m full means is_copy;
                stays = copy_stays slots (anchor_in t) range s t m full means is_copy stays;
                had = subst IsSome (sym has) refl;
                full = full_names slots slots range s (omega arith) full (λ slot within. means.tidy.named slot within (full slot within)) stays;
                half = halved;
              }

      -- with the bitmap that it keeps the node has the lower half
      abbrev after : Spot
      after = updated s bitmap_offset plan.keep

      beside : (offset : ℕ) → offset ≢ bitmap_offset → after offset ≡ s offset
      beside offset other = updated-other s bitmap_offset plan.keep offset other

      after_name : (slot : ℕ) → name_words after slot ≡ name_words s slot
      after_name slot =
          let a = beside (slot_offset slot 0) (λ e. omega arith) in
          let b = beside (slot_offset slot 1) (λ e. omega arith) in
          let c = beside (slot_offset slot 2) (λ e. omega arith) in
          λ i. a i ∷ b i ∷ c i ∷ []

      after_print : (slot : ℕ) → print_in_spot after slot ≡ print_in_spot s slot
      after_print slot = ap (λ word. slice_index (prints_of word) (slot % 8)) (beside (print_offset slot) (λ e. omega arith))

      after_value : (slot : ℕ) → value_in after slot ≡ value_in s slot
      after_value slot = beside (slot_offset slot value_word) (λ e. omega arith)

      after_bits : after bitmap_offset ≡ bits_of (take half order)
      after_bits = updated-same s bitmap_offset plan.keep ∙ is.keep

      lower_size : length (take half order) ≡ half
      lower_size = let w = twice in let size = in_size plan.full slots few in length-take-le half order (omega arith)

      lower_at : (i : ℕ) → i < half → slice_index (take half order) i ≡ slice_index order i
      lower_at i small = get_or-take half order i 0 small

      lower_within : (bound : ℕ) → slots ≤ bound → AllByRecursion (λ slot. slot < bound) (take half order)
      lower_within bound wide =
          all_from (λ slot. slot < bound) (take half order) (λ i inside.
          let w = twice in
          let size = lower_size in
          let small : i < half = omega arith in
          let within = in_within plan.full slots few i (omega arith) in
          let here = lower_at i small in
          omega arith)

      kept : (slot : ℕ) → IsLiveIn after slot → (i : ℕ) × (i < half) × (slice_index order i ≡ slot)
      kept slot live =
          let found = bits_only (take half order) (lower_within 64 few) slot (subst (λ n. IsLive n slot) after_bits live) in
          let inside = found.1 in
          let size = lower_size in
          let small : found.0 < half = omega arith in
          (found.0, small, sym (lower_at found.0 small) ∙ found.2)

      keeps_on : (i : ℕ) → i < half → IsLiveIn after (slice_index order i)
      keeps_on i small =
          let size = lower_size in
          let live = bits_has (take half order) (lower_within 64 few) i (omega arith) in
          subst (λ n. IsLive n (slice_index order i)) (sym after_bits) (subst (IsLive (bits_of (take half order))) (lower_at i small) live)

      kept_low : (slot : ℕ) → slot < slots → IsLiveIn after slot → slot_key s slot < slot_key s least
      kept_low slot within live =
          let w = twice in
          let v = two in
          let at = kept slot live in
          let less = strictly at.0 half at.1 (omega arith) in
          let here : slot_key s (slice_index order at.0) ≡ slot_key s slot = ap (slot_key s) at.2 in
          omega arith

      trimmed : (key : ℕ) → key ≡ slot_key s least → Means slots (below_key range key) after m
      trimmed key is_key = record {
        tidy = record {
          bounded = subst (λ n. n < 2 ^ slots) (sym after_bits) (bits_below slots few (take half order) (lower_within slots (omega arith)));
          named = λ slot within live. subst AreNameWords (sym (after_name slot)) (means.tidy.named slot within (full slot within));
          printed = λ slot within live. after_print slot ∙ means.tidy.printed slot within (full slot within) ∙ ap (λ w. fingerprint_of (bytes_of w)) (sym (after_name slot));
          apart = λ slot other within other_within live other_live same.
              means.tidy.apart slot other within other_within (full slot within) (full other other_within) (sym (after_name slot) ∙ same ∙ after_name other);
        };
        agrees = λ name named inside.
            let parts = and_parts (range name) (nat_lt (key_of name) key) inside in
            finds name (at m name) (ltb-true (key_of name) key parts.1) (means.agrees name named parts.0);
      }
        where
          finds : (name : List ℕ) (found : Option ℕ) → key_of name < key → Finds slots s name found → Finds slots after name found
          finds name None below none = λ slot within live same. none slot within (full slot within) (sym (after_name slot) ∙ same)
          finds name (Some value) below has =
              let key = slot_key-is s has.0 name has.3 in
              let at = lower has.0 has.1 (omega arith) in
              (has.0, has.1, subst (IsLiveIn after) at.2 (keeps_on at.0 at.1), after_name has.0 ∙ has.3, after_value has.0 ∙ has.4)

      trimmed_stays : (key : ℕ) → key ≡ slot_key s least → StaysIn slots range s → StaysIn slots (below_key range key) after
      trimmed_stays key is_key stays name named out = λ slot within live same.
          let stands : name_words s slot ≡ words_of name = sym (after_name slot) ∙ same in
          let below = kept_low slot within live in
          let here = slot_key-is s slot name stands in
          elim (and_cases (range name) (nat_lt (key_of name) key) out) [
            | inl outside ↦ stays name named outside slot within (full slot within) stands
            | inr high ↦ let above = ltb-false (key_of name) key high in absurd (omega arith)
          ]

  -- by what the party knows of the full node, the plan cuts it
  module _ (h : Held) (all : AreAllLive (bitmap_in h.known.seen) slots) where
    abbrev others : List (ℕ × ℕ)
    others = (next_offset, spot_of plan.full next_offset) ∷ h.known.seen

    abbrev row : (s : Spot) → Tells (read_seen plan.full (8 + 4 * slots) h) s → (k : ℕ) → k < 8 + 4 * slots → s (8 + k) ≡ f (8 + k)
    row s told = told_at f 8 (8 + 4 * slots) others s told

    rest : (s : Spot) → Tells (read_seen plan.full (8 + 4 * slots) h) s → Tells others s
    rest s told = told_past f 8 (8 + 4 * slots) others s told

    bits_told : (s : Spot) → Tells (read_seen plan.full (8 + 4 * slots) h) s → s bitmap_offset ≡ bitmap_in h.known.seen
    bits_told s told = (full_told h.known.seen slots (let l = low in omega arith) all s (rest s told).1).0

    all_live : (s : Spot) → s bitmap_offset ≡ bitmap_in h.known.seen → AreAllLive (s bitmap_offset) slots
    all_live s same slot within = ap (λ n. bit_at n slot) same ∙ all slot within

    key_of_cut : (s : Spot) (range : List ℕ → Bool) (m : Map) (told : (k : ℕ) → k < 8 + 4 * slots → s (8 + k) ≡ f (8 + k)) → AreAllLive (s bitmap_offset) slots → Means slots range s m
        → cut_key plan ≡ slot_key s least
    key_of_cut s range m told full means =
        let named = subst AreNameWords (name_same s told least (in_least s told range m full means)) (least_named s told range m full means) in
        let whole = is.anchor ∙ anchor_same (f (slot_offset least 0)) (f (slot_offset least 1)) (f (slot_offset least 2)) named in
        let words = word_anchor plan ∙ ap (λ (ws : List ℕ). slice_index ws 0 ∷ slice_index ws 1 ∷ slice_index ws 2 ∷ []) whole in
        ap (λ (ws : List ℕ). three_words (slice_index ws 0) (slice_index ws 1) (slice_index ws 2)) words ∙ sym (key_same s told least (in_least s told range m full means))

    pub plan_cuts : Cuts plan (known_by h plan)
    plan_cuts = record {
      cut = λ range s t m told fresh means stays.
          cut s (row s told) range m (all_live s (bits_told s told)) means t fresh stays (fresh.0 ∙ word_next plan ∙ sym (rest s told).0);
      linked = λ s told.
          tells_row f 8 (8 + 4 * slots) ((bitmap_offset, bitmap_in h.known.seen) ∷ []) (updated s next_offset plan.share.fresh)
          (λ k within. updated-other s next_offset plan.share.fresh (8 + k) (λ e. omega arith) ∙ row s told k within)
          (updated-other s next_offset plan.share.fresh bitmap_offset (λ e. omega arith) ∙ bits_told s told, tt);
      trims = λ range s m told means stays.
          let same = told_at f 8 (8 + 4 * slots) ((bitmap_offset, bitmap_in h.known.seen) ∷ []) s told in
          let full = all_live s (told_past f 8 (8 + 4 * slots) ((bitmap_offset, bitmap_in h.known.seen) ∷ []) s told).0 in
          let key = key_of_cut s range m same full means in
          (trimmed s same range m full means (cut_key plan) key, trimmed_stays s same range m full means (cut_key plan) key stays);
    }
