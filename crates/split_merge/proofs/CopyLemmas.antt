-- Which slots are copied.
use Rattle.std.proofs.Common.{◌≡◌, ◌≢◌, ℕ, zero, suc, ◌+◌, ◌-◌, ◌/◌, ◌%◌, ◌^◌, ◌<◌, ◌≤◌, ◌==◌, ltb, true, false, cond, Bool, List, [], slice_index, inl, inr, refl, sym, subst, ap, ◌∙◌, arith}
use Rattle.std.specs.Int.{bit_at}
use Rattle.std.proofs.lemmas.Bool.{cases_eq, lt-ltb, le-ltb, ltb-true, ltb-false, and_parts, and_from, eq-eqb, eqb-true}
use Rattle.std.proofs.lemmas.Nat.Bits.{bit_at-zero}
use Rattle.cat_history.specs.Maps.{Map}
use Rattle.pm_words.specs.Offsets.{bitmap_offset, next_offset, slot_offset, value_word}
use Rattle.data_node.specs.Bits.{without_live}
use Rattle.data_node.specs.Slots.{IsLive, IsClear, prints_of}
use Rattle.data_node.specs.Spots.{Spot, Means, updated}
use Rattle.data_node.proofs.BitLemmas.{without_live-same, without_live-other, without_live_below}
use Rattle.data_node.proofs.SpotLemmas.{updated-same, updated-other, name_words-updated, means_kept}
use Rattle.call_stages.specs.Stages.{Tells, AreCopies}
use Rattle.split_merge.specs.declared.uniting.Union.{Union}
use Rattle.split_merge.specs.declared.pairing.Pairs.{Pairs}
use Rattle.split_merge.specs.Unions.{IsUnion, head_word, from_in, half_of, own_prints, joined_print, joined_prints}
use Rattle.split_merge.specs.Joins.{IsLeft, lowest}
use Rattle.split_merge.specs.JoinStages.{near_seen, prints_now, own_seen, words_copied, has_got, slots_copied}
use Rattle.split_merge.proofs.PairLemmas.{does, gets_parts, are_targets, targets_fit, grown_fits, from_is, from_beyond, source_tells}
use Rattle.split_merge.proofs.LeftLemmas.{first_left}
use Rattle.split_merge.proofs.UnionLaw.{joined_say}
use Rattle.split_merge.proofs.CutLaw.{told_at, told_past, tells_row}

module _ (s t : Spot) where
  words_say : (slot source n : ℕ) (others : List (ℕ × ℕ)) → AreCopies (words_copied slot source n others) s t → (k : ℕ) → k < n → s (slot_offset slot k) ≡ t (slot_offset source k)
  words_say slot source zero others are k within = absurd (omega arith)
  words_say slot source (suc n) others are k within =
      elim (cases_eq k n) [
        | inl last ↦ subst (λ j. s (slot_offset slot j) ≡ t (slot_offset source j)) (sym last) are.0
        | inr other ↦ words_say slot source n others are.1 k (omega arith)
      ]

  words_past : (slot source n : ℕ) (others : List (ℕ × ℕ)) → AreCopies (words_copied slot source n others) s t → AreCopies others s t
  words_past slot source zero others are = are
  words_past slot source (suc n) others are = words_past slot source n others are.1

  pub words_are : (slot source n : ℕ) (others : List (ℕ × ℕ)) → ((k : ℕ) → k < n → s (slot_offset slot k) ≡ t (slot_offset source k)) → AreCopies others s t → AreCopies (words_copied slot source n others) s t
  words_are slot source zero others same are = are
  words_are slot source (suc n) others same are = (same n (omega arith), words_are slot source n others (λ k below. same k (omega arith)) are)

  -- each slot that has got its name is as that of the right node
  pub record IsCopy (union : Union) (left slot : ℕ) : Type 0 where
    pub same : (k : ℕ) → k < 4 → s (slot_offset slot k) ≡ t (slot_offset (from_in union slot) k)

  pub slots_say : (union : Union) (left n : ℕ) → AreCopies (slots_copied union left n) s t → (slot : ℕ) → slot < n → has_got union left slot ≡ true → IsCopy union left slot
  slots_say union left zero are slot within got = absurd (omega arith)
  slots_say union left (suc n) are slot within got =
      elim (has_got union left n) as (λ b. has_got union left n ≡ b → AreCopies (cond b (words_copied n (from_in union n) 4 (slots_copied union left n)) (slots_copied union left n)) s t → IsCopy union left slot) [
        | true ↦ λ here is. elim (cases_eq slot n) [
          | inl last ↦ record { same = subst (λ j. (k : ℕ) → k < 4 → s (slot_offset j k) ≡ t (slot_offset (from_in union j) k)) (sym last) (words_say n (from_in union n) 4 (slots_copied union left n) is) }
          | inr other ↦ slots_say union left n (words_past n (from_in union n) 4 (slots_copied union left n) is) slot (omega arith) got
        ]
        | false ↦ λ here is. elim (cases_eq slot n) [
          | inl last ↦ let yes : has_got union left n ≡ true = subst (λ j. has_got union left j ≡ true) last got in absurd (let no : true ≡ false = sym yes ∙ here in cc)
          | inr other ↦ slots_say union left n is slot (omega arith) got
        ]
      ] refl are

  pub slots_are : (union : Union) (left n : ℕ) → ((slot : ℕ) → slot < n → has_got union left slot ≡ true → IsCopy union left slot) → AreCopies (slots_copied union left n) s t
  slots_are union left zero each = tt
  slots_are union left (suc n) each =
      let rest = slots_are union left n (λ slot below got. each slot (omega arith) got) in
      elim (has_got union left n) as (λ b. has_got union left n ≡ b → AreCopies (cond b (words_copied n (from_in union n) 4 (slots_copied union left n)) (slots_copied union left n)) s t) [
        | true ↦ λ here. words_are n (from_in union n) 4 (slots_copied union left n) (each n (omega arith) here).same rest
        | false ↦ λ here. rest
      ] refl

-- a slot is among those that get a name only where there is one
pub targets_none : (union : Union) (slot : ℕ) → union.pairs.targets ≡ 0 → IsLive union.pairs.targets slot → ⊥
targets_none union slot none live = let zero = ap (λ b. bit_at b slot) none ∙ bit_at-zero slot in omega arith

-- where no slot has got its name, none is copied
none_copied : (union : Union) (left n : ℕ) → ((slot : ℕ) → slot < n → has_got union left slot ≡ true → ⊥) → slots_copied union left n ≡ []
none_copied union left zero none = refl
none_copied union left (suc n) none =
    elim (has_got union left n) as (λ b. has_got union left n ≡ b → cond b (words_copied n (from_in union n) 4 (slots_copied union left n)) (slots_copied union left n) ≡ []) [
      | true ↦ λ here. absurd (none n (omega arith) here)
      | false ↦ λ here. none_copied union left n (λ slot below got. none slot (omega arith) got)
    ] refl

pub got_parts : (union : Union) (left slot : ℕ) → has_got union left slot ≡ true → (from_in union slot < 64) × IsClear left slot
got_parts union left slot got = let parts = and_parts (ltb (from_in union slot) 64) (bit_at left slot == 0) got in (ltb-true _ _ parts.0, eqb-true _ _ parts.1)

pub got_from : (union : Union) (left slot : ℕ) → from_in union slot < 64 → IsClear left slot → has_got union left slot ≡ true
got_from union left slot from clear = and_from _ _ (lt-ltb _ _ from) (eq-eqb (bit_at left slot) 0 clear)

module _ (union : Union) (sound : IsUnion union) where
  few : union.layout.slots ≤ 64
  few = sound.layout.slots.1

  -- a slot of the first half that has a source gets a name
  pub gets_name : (slot : ℕ) → slot < half_of union → from_in union slot < 64 → does union.own (head_word union bitmap_offset) union.layout.slots slot
  gets_name slot within from =
      source_tells union.own (head_word union bitmap_offset) union.layout.slots slot
      (subst (λ n. n < 64) (ap (λ (p : Pairs). slice_index p.from slot) sound.pairs ∙ from_is union.own (head_word union bitmap_offset) union.layout.slots few slot within) from)

  pub is_target : (slot : ℕ) → slot < half_of union → from_in union slot < 64 → IsLive union.pairs.targets slot
  is_target slot within from =
      subst (λ (p : Pairs). IsLive p.targets slot) (sym sound.pairs)
      (are_targets union.own (head_word union bitmap_offset) union.layout.slots (half_of union) (let f = few in omega arith) slot within (gets_name slot within from))

  pub targets_small : union.pairs.targets < 2 ^ 64
  targets_small = subst (λ (p : Pairs). p.targets < 2 ^ 64) (sym sound.pairs) (targets_fit union.own (head_word union bitmap_offset) union.layout.slots (half_of union) (let f = few in omega arith))

  pub grown_small : union.pairs.grown < 2 ^ 64
  grown_small = subst (λ (p : Pairs). p.grown < 2 ^ 64) (sym sound.pairs) (grown_fits union.own (head_word union bitmap_offset) union.layout.slots sound.own (half_of union) (let f = few in omega arith))

  pub start_copied : slots_copied union union.pairs.targets (half_of union) ≡ []
  start_copied = none_copied union union.pairs.targets (half_of union) (λ slot within got.
      let parts = got_parts union union.pairs.targets slot got in
      let live = is_target slot within parts.0 in
      let clear = parts.1 in
      omega arith)

  pub never_copied : union.pairs.targets ≡ 0 → (left : ℕ) → slots_copied union left (half_of union) ≡ []
  never_copied none left = none_copied union left (half_of union) (λ slot within got.
      let parts = got_parts union left slot got in
      let live = is_target slot within parts.0 in
      let zero = ap (λ b. bit_at b slot) none ∙ bit_at-zero slot in
      omega arith)

  -- a slot that is live in the left node keeps its fingerprint
  pub kept_print : (slot : ℕ) → slot < 32 → IsLive union.own slot → joined_print union slot ≡ slice_index (prints_of (slice_index union.prints (slot / 8))) (slot % 8)
  unfolding joined_print
  kept_print slot small live =
      ap (λ b. cond b (slice_index (prints_of (head_word union (8 + from_in union slot / 8))) (from_in union slot % 8)) (slice_index (prints_of (slice_index union.prints (slot / 8))) (slot % 8)))
      (le-ltb (from_in union slot) 64 far)
    where
      far : 64 ≤ from_in union slot
      far = elim (ltb (from_in union slot) 64) as (λ b. ltb (from_in union slot) 64 ≡ b → 64 ≤ from_in union slot) [
        | true ↦ λ is. elim (ltb slot (half_of union)) as (λ b. ltb slot (half_of union) ≡ b → 64 ≤ from_in union slot) [
          | true ↦ λ within.
              let clear = (gets_parts union.own (head_word union bitmap_offset) union.layout.slots slot (gets_name slot (ltb-true _ _ within) (ltb-true _ _ is))).0 in
              absurd (omega arith)
          | false ↦ λ beyond.
              let none = ap (λ (p : Pairs). slice_index p.from slot) sound.pairs ∙ from_beyond union.own (head_word union bitmap_offset) union.layout.slots slot (ltb-false _ _ beyond) small in
              omega arith
        ] refl
        | false ↦ λ is. ltb-false _ _ is
      ] refl

  -- the store of a word of fingerprints changes nothing of what the node means
  pub print_means : (range : List ℕ → Bool) (s : Spot) (m : Map) (word : ℕ) → word < 4 → s bitmap_offset ≡ union.own → s (8 + word) ≡ slice_index union.prints word → Means union.layout.slots range s m
      → Means union.layout.slots range (updated s (8 + word) (joined_prints union word)) m
  print_means range s m word small own was means = means_kept union.layout.slots range s (updated s (8 + word) (joined_prints union word)) m (record {
    bitmap = updated-other s (8 + word) (joined_prints union word) bitmap_offset (λ e. omega arith);
    there = λ slot within live. record {
      live = subst (λ b. IsLive b slot) (sym (updated-other s (8 + word) (joined_prints union word) bitmap_offset (λ e. omega arith))) live;
      name = name_words-updated s (8 + word) (joined_prints union word) slot (λ k below e. omega arith);
      value = updated-other s (8 + word) (joined_prints union word) (slot_offset slot value_word) (λ e. omega arith);
      print = elim (cases_eq (slot / 8) word) [
        | inl same ↦
            ap (λ o. slice_index (prints_of (updated s (8 + word) (joined_prints union word) (8 + o))) (slot % 8)) same
            ∙ ap (λ w. slice_index (prints_of w) (slot % 8)) (updated-same s (8 + word) (joined_prints union word) ∙ ap (joined_prints union) (sym same))
            ∙ joined_say union sound slot
            ∙ kept_print slot (omega arith) (subst (λ b. IsLive b slot) own live)
            ∙ ap (λ o. slice_index (prints_of (slice_index union.prints o)) (slot % 8)) same
            ∙ ap (λ w. slice_index (prints_of w) (slot % 8)) (sym was)
            ∙ ap (λ o. slice_index (prints_of (s (8 + o))) (slot % 8)) (sym same)
        | inr other ↦ ap (λ w. slice_index (prints_of w) (slot % 8)) (updated-other s (8 + word) (joined_prints union word) (8 + slot / 8) (λ e. other (omega arith)))
      ];
    };
  }) means

  now_before : (stored k : ℕ) → stored ≤ k → prints_now union stored (8 + k) ≡ slice_index union.prints k
  now_before stored k le = ap (λ b. cond b (joined_prints union (8 + k - 8)) (slice_index union.prints (8 + k - 8))) (le-ltb (8 + k) (8 + stored) (omega arith)) ∙ ap (slice_index union.prints) (omega arith)

  pub now_after : (stored k : ℕ) → k < stored → prints_now union stored (8 + k) ≡ joined_prints union k
  now_after stored k lt = ap (λ b. cond b (joined_prints union (8 + k - 8)) (slice_index union.prints (8 + k - 8))) (lt-ltb (8 + k) (8 + stored) (omega arith)) ∙ ap (joined_prints union) (omega arith)

  pub print_before : (stored : ℕ) → prints_now union stored (8 + stored) ≡ slice_index union.prints stored
  print_before stored = now_before stored stored (omega arith)

  -- with one word of fingerprints more
  pub print_known : (s : Spot) (word : ℕ) → Tells (own_seen union word) s → Tells (own_seen union (suc word)) (updated s (8 + word) (joined_prints union word))
  print_known s word told =
      let near = told_past (prints_now union word) 8 (own_prints union) (near_seen union.own union.right) s told in
      tells_row (prints_now union (suc word)) 8 (own_prints union) (near_seen union.own union.right) (updated s (8 + word) (joined_prints union word))
      (λ k within. elim (cases_eq k word) [
        | inl same ↦ subst (λ j. updated s (8 + word) (joined_prints union word) (8 + j) ≡ prints_now union (suc word) (8 + j)) (sym same)
            (updated-same s (8 + word) (joined_prints union word) ∙ sym (now_after (suc word) word (omega arith)))
        | inr other ↦ updated-other s (8 + word) (joined_prints union word) (8 + k) (λ e. other (omega arith))
            ∙ told_at (prints_now union word) 8 (own_prints union) (near_seen union.own union.right) s told k within ∙ alike k other
      ])
      (updated-other s (8 + word) (joined_prints union word) 1 (λ e. omega arith) ∙ near.0, (updated-other s (8 + word) (joined_prints union word) 2 (λ e. omega arith) ∙ near.1.0, tt))
    where
      alike : (k : ℕ) → k ≢ word → prints_now union word (8 + k) ≡ prints_now union (suc word) (8 + k)
      alike k other = elim (ltb k word) as (λ b. ltb k word ≡ b → prints_now union word (8 + k) ≡ prints_now union (suc word) (8 + k)) [
        | true ↦ λ is. let low = ltb-true _ _ is in now_after word k low ∙ sym (now_after (suc word) k (omega arith))
        | false ↦ λ is. let high = ltb-false _ _ is in now_before word k high ∙ sym (now_before (suc word) k (omega arith))
      ] refl

  -- what is known of the node but slots stays known as a word of a slot is stored
  pub slot_known : (s : Spot) (stored offset word : ℕ) → 16 ≤ offset → own_prints union ≤ 8 → Tells (own_seen union stored) s → Tells (own_seen union stored) (updated s offset word)
  slot_known s stored offset word high small told =
      let near = told_past (prints_now union stored) 8 (own_prints union) (near_seen union.own union.right) s told in
      tells_row (prints_now union stored) 8 (own_prints union) (near_seen union.own union.right) (updated s offset word)
      (λ k within. updated-other s offset word (8 + k) (λ e. omega arith) ∙ told_at (prints_now union stored) 8 (own_prints union) (near_seen union.own union.right) s told k within)
      (updated-other s offset word bitmap_offset (λ e. omega arith) ∙ near.0, (updated-other s offset word next_offset (λ e. omega arith) ∙ near.1.0, tt))

  -- and copies stay as a word before the slots is stored
  pub copies_stay : (s t : Spot) (left n offset word : ℕ) → offset < 16 → AreCopies (slots_copied union left n) s t → AreCopies (slots_copied union left n) (updated s offset word) t
  copies_stay s t left n offset word low are = slots_are (updated s offset word) t union left n (λ slot within got.
      record { same = λ k small. updated-other s offset word (slot_offset slot k) (λ e. omega arith) ∙ (slots_say s t union left n are slot within got).same k small })

  -- a word of the lowest slot more
  pub word_copied : (s t : Spot) (left word value : ℕ) → word < 4 → t (slot_offset (from_in union (lowest left)) word) ≡ value
      → AreCopies (words_copied (lowest left) (from_in union (lowest left)) word (slots_copied union left (half_of union))) s t → IsLive left (lowest left)
      → AreCopies (words_copied (lowest left) (from_in union (lowest left)) (suc word) (slots_copied union left (half_of union))) (updated s (slot_offset (lowest left) word) value) t
  word_copied s t left word value small is are live =
      let slot = lowest left in
      let source = from_in union slot in
      let others = slots_copied union left (half_of union) in
      let u = updated s (slot_offset slot word) value in
      words_are u t slot source (suc word) others
      (λ k below. elim (cases_eq k word) [
        | inl same ↦ subst (λ j. u (slot_offset slot j) ≡ t (slot_offset source j)) (sym same) (updated-same s (slot_offset slot word) value ∙ sym is)
        | inr other ↦ updated-other s (slot_offset slot word) value (slot_offset slot k) (λ e. other (omega arith)) ∙ words_say s t slot source word others are k (omega arith)
      ])
      (slots_are u t union left (half_of union) (λ k within got.
      let clear = (got_parts union left k got).1 in
      let apart : k ≢ slot = λ e. let same = ap (bit_at left) e in omega (arith, clear, live) in
      record {
        same = λ j low. updated-other s (slot_offset slot word) value (slot_offset k j) (λ e. apart (omega arith))
            ∙ (slots_say s t union left (half_of union) (words_past s t slot source word others are) k within got).same j low;
      }))

  -- with all four words the slot is no longer left
  pub slot_copied : (s t : Spot) (left : ℕ) → lowest left < 64 → AreCopies (words_copied (lowest left) (from_in union (lowest left)) 4 (slots_copied union left (half_of union))) s t
      → AreCopies (slots_copied union (without_live left (lowest left)) (half_of union)) s t
  slot_copied s t left small are =
      let slot = lowest left in
      let source = from_in union slot in
      let others = slots_copied union left (half_of union) in
      slots_are s t union (without_live left slot) (half_of union) (λ k within got.
      let parts = got_parts union (without_live left slot) k got in
      elim (cases_eq k slot) [
        | inl same ↦ record { same = subst (λ j. (i : ℕ) → i < 4 → s (slot_offset j i) ≡ t (slot_offset (from_in union j) i)) (sym same) (words_say s t slot source 4 others are) }
        | inr other ↦ record {
          same = (slots_say s t union left (half_of union) (words_past s t slot source 4 others are) k within
              (got_from union left k parts.0 (sym (without_live-other left slot k small (let f = few in omega arith) other) ∙ parts.1))).same;
        }
      ])

  -- fewer slots are left
  pub left_fewer : (left : ℕ) → IsLeft union left → without_live left (lowest left) ≢ 0 → IsLeft union (without_live left (lowest left))
  left_fewer left is some =
      let first = first_left union left sound is in
      record {
        fits = below;
        some = some;
        each = λ slot within live.
            let apart : slot ≢ lowest left = λ e. let same : bit_at (without_live left (lowest left)) slot ≡ 0 = ap (bit_at (without_live left (lowest left))) e ∙ without_live-same left (lowest left) first.within in omega arith in
            is.each slot within (sym (without_live-other left (lowest left) slot first.within within apart) ∙ live);
      }
    where
      below : without_live left (lowest left) < 2 ^ 64
      below = without_live_below 64 left (lowest left) is.fits

  -- and they aren't all that get names
  pub left_not_all : (left : ℕ) → IsLeft union left → without_live left (lowest left) ≢ union.pairs.targets
  left_not_all left is e =
      let first = first_left union left sound is in
      let live = is.each (lowest left) first.within first.live in
      let clear : bit_at union.pairs.targets (lowest left) ≡ 0 = ap (λ b. bit_at b (lowest left)) (sym e) ∙ without_live-same left (lowest left) first.within in
      omega arith
