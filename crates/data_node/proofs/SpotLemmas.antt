-- What a store into a word of a node does to what the node means.
use Rattle.std.proofs.Common.{◌≡◌, ℕ, ◌<◌, ◌^◌, ◌⊎◌, Bool, true, false, cond, List, [], ◌∷◌, Option, Some, None, inl}
use Rattle.std.proofs.Common.{inr, refl, sym, subst, ap, ◌∙◌, arith}
use Rattle.std.specs.declared.cmp.Ordering.TheVariants.{Less, Equal, Greater}
use Rattle.std.specs.Int.{bit_at}
use Rattle.std.specs.Ordering.{eq_by_cmp, is_eq}
use Rattle.std.specs.Cmp.{tied_itself}
use Rattle.std.specs.FinMap.{empty, get-empty, insert, remove, get-insert, get-remove, same_map}
use Rattle.std.specs.FinMap.{slice_cmp-IsAntisymmetric, nat_cmp-IsAntisymmetric}
use Rattle.std.proofs.lemmas.Cmp.{nat_list_cmp_total}
use Rattle.std.proofs.lemmas.Bool.{cases_eq, cases_lt, eq-eqb, ne_eqb}
use Rattle.std.proofs.lemmas.Nat.{pow_pos}
use Rattle.std.proofs.lemmas.Nat.Bits.{bit_at_above, bit_at-zero}
use Rattle.cat_key.specs.Names.{IsName, AreNameWords, name_cmp, words_of, bytes_of, fingerprint_of}
use Rattle.cat_key.proofs.Packing.{bytes_of-words_of, words_tell_names}
use Rattle.shapes.specs.cat_history.specs.Maps.{Map, at}
use Rattle.pm_words.specs.Offsets.{bitmap_offset, slot_offset}
use Rattle.data_node.specs.Slots.{IsLive}
use Rattle.data_node.specs.Spots.{Spot, updated, IsLiveIn, name_words, value_in}
use Rattle.data_node.specs.Spots.{print_in_spot, Finds, IsTidy, Means}

-- two lists of words are one or not
pub same_words : (a b : List ℕ) → (a ≡ b) ⊎ (a ≡ b → ⊥)
same_words [] [] = inl refl
same_words [] (y ∷ ys) = inr (λ e. cc)
same_words (x ∷ xs) [] = inr (λ e. cc)
same_words (x ∷ xs) (y ∷ ys) =
    elim (cases_eq x y) [
      | inl first ↦ elim (same_words xs ys) [ inl rest ↦ inl (cc) | inr other ↦ inr (λ e. other (cc)) ]
      | inr other ↦ inr (λ e. other (cc))
    ]

-- two names are one or not, and their order tells
pub same_name : (a b : List ℕ) → ((a ≡ b) × (eq_by_cmp name_cmp a b ≡ true)) ⊎ ((a ≡ b → ⊥) × (eq_by_cmp name_cmp a b ≡ false))
same_name a b =
    elim (name_cmp a b) as (λ r. name_cmp a b ≡ r → ((a ≡ b) × (is_eq r ≡ true)) ⊎ ((a ≡ b → ⊥) × (is_eq r ≡ false))) [
      | Less ↦ λ is. inr ((λ e. let tied : name_cmp a b ≡ Equal = subst (λ x. name_cmp a x ≡ Equal) e (tied_itself nat_list_cmp_total a) in cc), refl)
      | Equal ↦ λ is. inl (slice_cmp-IsAntisymmetric nat_cmp-IsAntisymmetric a b is, refl)
      | Greater ↦ λ is. inr ((λ e. let tied : name_cmp a b ≡ Equal = subst (λ x. name_cmp a x ≡ Equal) e (tied_itself nat_list_cmp_total a) in cc), refl)
    ] refl

-- a store changes its own word and no other
pub updated-same : (s : Spot) (offset word : ℕ) → updated s offset word offset ≡ word
unfolding updated
updated-same s offset word = ap (λ b. cond b word (s offset)) (eq-eqb offset offset refl)

pub updated-other : (s : Spot) (offset word other : ℕ) → (other ≡ offset → ⊥) → updated s offset word other ≡ s other
unfolding updated
updated-other s offset word other apart = ap (λ b. cond b word (s other)) (ne_eqb other offset apart)

-- words outside a slot's name words leave its name
pub name_words-updated : (s : Spot) (offset word slot : ℕ) → ((k : ℕ) → k < 3 → slot_offset slot k ≡ offset → ⊥) → name_words (updated s offset word) slot ≡ name_words s slot
name_words-updated s offset word slot apart =
    let a = updated-other s offset word (slot_offset slot 0) (apart 0 (omega arith)) in
    let b = updated-other s offset word (slot_offset slot 1) (apart 1 (omega arith)) in
    let c = updated-other s offset word (slot_offset slot 2) (apart 2 (omega arith)) in
    cc

-- a live slot is one of the slots
pub live_within : (slots : ℕ) (s : Spot) (slot : ℕ) → IsTidy slots s → IsLiveIn s slot → slot < slots
live_within slots s slot tidy live =
    elim (cases_lt slot slots) [
      | inl within ↦ within
      | inr past ↦ absurd (let zero : bit_at (s bitmap_offset) slot ≡ 0 = bit_at_above (s bitmap_offset) slots slot tidy.bounded past in let one : bit_at (s bitmap_offset) slot ≡ 1 = live in omega arith)
    ]

-- What a live slot holds is the same in both.
pub record KeepsSlot (s t : Spot) (slot : ℕ) : Type 0 where
  pub live : IsLiveIn t slot
  pub name : name_words t slot ≡ name_words s slot
  pub value : value_in t slot ≡ value_in s slot
  pub print : print_in_spot t slot ≡ print_in_spot s slot

-- The same slots are live, and what they hold is the same.
pub record KeepsAll (slots : ℕ) (s t : Spot) : Type 0 where
  pub bitmap : t bitmap_offset ≡ s bitmap_offset
  pub there : (slot : ℕ) → slot < slots → IsLiveIn s slot → KeepsSlot s t slot

finds_all : (slots : ℕ) (s t : Spot) (name : List ℕ) (found : Option ℕ) → KeepsAll slots s t → Finds slots s name found → Finds slots t name found
finds_all slots s t name None kept none = λ slot within live same.
    let was : IsLiveIn s slot = subst (λ b. IsLive b slot) kept.bitmap live in
    none slot within was (sym (kept.there slot within was).name ∙ same)
finds_all slots s t name (Some value) kept found =
    let k = kept.there found.0 found.1 found.2 in (found.0, found.1, k.live, k.name ∙ found.3, k.value ∙ found.4)

-- then the node means the same
pub means_kept : (slots : ℕ) (range : List ℕ → Bool) (s t : Spot) (m : Map) → KeepsAll slots s t → Means slots range s m → Means slots range t m
means_kept slots range s t m kept means =
    let was = λ (slot : ℕ) (live : IsLiveIn t slot). subst (λ b. IsLive b slot) kept.bitmap live in
    record {
      tidy = record {
        bounded = subst (λ b. b < 2 ^ slots) (sym kept.bitmap) means.tidy.bounded;
        named = λ slot within live. subst AreNameWords (sym (kept.there slot within (was slot live)).name) (means.tidy.named slot within (was slot live));
        printed = λ slot within live.
            let k = kept.there slot within (was slot live) in
            k.print ∙ means.tidy.printed slot within (was slot live) ∙ ap (λ w. fingerprint_of (bytes_of w)) (sym k.name);
        apart = λ slot other within other_within live other_live same.
            means.tidy.apart slot other within other_within (was slot live) (was other other_live)
            (sym (kept.there slot within (was slot live)).name ∙ same ∙ (kept.there other other_within (was other other_live)).name);
      };
      agrees = λ name is_name in_range. finds_all slots s t name (at m name) kept (means.agrees name is_name in_range);
    }

-- The live slots with other names are the same, and hold the same.
pub record KeepsOthers (slots : ℕ) (name : List ℕ) (s t : Spot) : Type 0 where
  pub there : (slot : ℕ) → slot < slots → IsLiveIn s slot → (name_words s slot ≡ words_of name → ⊥) → KeepsSlot s t slot
  pub back : (slot : ℕ) → slot < slots → IsLiveIn t slot → (name_words t slot ≡ words_of name → ⊥) → KeepsSlot t s slot

-- At most one live slot has the name, with its fingerprint.
pub record HasOnce (slots : ℕ) (name : List ℕ) (t : Spot) : Type 0 where
  pub printed : (slot : ℕ) → slot < slots → IsLiveIn t slot → name_words t slot ≡ words_of name → print_in_spot t slot ≡ fingerprint_of name
  pub once : (slot other : ℕ) → slot < slots → other < slots → IsLiveIn t slot → IsLiveIn t other → name_words t slot ≡ words_of name → name_words t other ≡ words_of name → slot ≡ other

module _ (slots : ℕ) (name : List ℕ) (s t : Spot) (is_name : IsName name) (kept : KeepsOthers slots name s t) where
  tidy_others : IsTidy slots s → t bitmap_offset < 2 ^ slots → HasOnce slots name t → IsTidy slots t
  tidy_others tidy bounded has = record {
    bounded = bounded;
    named = λ slot within live. elim (same_words (name_words t slot) (words_of name)) [
      | inl same ↦ (name, is_name, sym same)
      | inr other ↦ let k = kept.back slot within live other in subst AreNameWords k.name (tidy.named slot within k.live)
    ];
    printed = λ slot within live. elim (same_words (name_words t slot) (words_of name)) [
      | inl same ↦ has.printed slot within live same ∙ sym (ap fingerprint_of (ap bytes_of same ∙ bytes_of-words_of name is_name))
      | inr other ↦
          let k = kept.back slot within live other in
          sym k.print ∙ tidy.printed slot within k.live ∙ ap (λ w. fingerprint_of (bytes_of w)) k.name
    ];
    apart = λ slot other within other_within live other_live same. elim (same_words (name_words t slot) (words_of name)) [
      | inl here ↦ has.once slot other within other_within live other_live here (sym same ∙ here)
      | inr not_here ↦
          let k = kept.back slot within live not_here in
          let l = kept.back other other_within other_live (λ e. not_here (same ∙ e)) in
          tidy.apart slot other within other_within k.live l.live (k.name ∙ same ∙ sym l.name)
    ];
  }

  finds_others : (other : List ℕ) → IsName other → (other ≡ name → ⊥) → (found : Option ℕ) → Finds slots s other found → Finds slots t other found
  finds_others other is_other apart None none = λ slot within live same.
      let k = kept.back slot within live (λ e. apart (words_tell_names other name is_other is_name (sym same ∙ e))) in
      none slot within k.live (k.name ∙ same)
  finds_others other is_other apart (Some value) found =
      let k = kept.there found.0 found.1 found.2 (λ e. apart (words_tell_names other name is_other is_name (sym found.3 ∙ e))) in
      (found.0, found.1, k.live, k.name ∙ found.3, k.value ∙ found.4)

  -- a live slot has the name now, with this value
  pub means_put : (range : List ℕ → Bool) (m : Map) (value : ℕ) → t bitmap_offset < 2 ^ slots → HasOnce slots name t → Finds slots t name (Some value) → Means slots range s m → Means slots range t (insert m name value)
  means_put range m value bounded has found means = record {
    tidy = tidy_others means.tidy bounded has;
    agrees = λ other is_other in_range.
        let is = get-insert nat_list_cmp_total m name value other in
        elim (same_name other name) [
          | inl same ↦ subst (Finds slots t other) (sym (is ∙ ap (λ b. cond b (Some value) (at m other)) same.1)) (subst (λ n. Finds slots t n (Some value)) (sym same.0) found)
          | inr apart ↦ subst (Finds slots t other) (sym (is ∙ ap (λ b. cond b (Some value) (at m other)) apart.1)) (finds_others other is_other apart.0 (at m other) (means.agrees other is_other in_range))
        ];
  }

  -- no live slot has the name any more
  pub means_del : (range : List ℕ → Bool) (m : Map) → t bitmap_offset < 2 ^ slots → Finds slots t name None → Means slots range s m → Means slots range t (remove m name)
  means_del range m bounded none means = record {
    tidy = tidy_others means.tidy bounded (record {
      printed = λ slot within live same. absurd (none slot within live same);
      once = λ slot other within other_within live other_live same _. absurd (none slot within live same);
    });
    agrees = λ other is_other in_range.
        let is = get-remove nat_list_cmp_total m name other in
        elim (same_name other name) [
          | inl same ↦ subst (Finds slots t other) (sym (is ∙ ap (λ b. cond b None (at m other)) same.1)) (subst (λ n. Finds slots t n None) (sym same.0) none)
          | inr apart ↦ subst (Finds slots t other) (sym (is ∙ ap (λ b. cond b None (at m other)) apart.1)) (finds_others other is_other apart.0 (at m other) (means.agrees other is_other in_range))
        ];
  }

-- what the map has under a name that a live slot has
pub at_found : (slots : ℕ) (range : List ℕ → Bool) (s : Spot) (m : Map) (name : List ℕ) (slot : ℕ) → IsName name → range name ≡ true → Means slots range s m
    → IsLiveIn s slot → name_words s slot ≡ words_of name → at m name ≡ Some (value_in s slot)
at_found slots range s m name slot is_name in_range means live same =
    let within = live_within slots s slot means.tidy live in
    elim (at m name) as (λ o. Finds slots s name o → o ≡ Some (value_in s slot)) [
      | None ↦ λ none. absurd (none slot within live same)
      | Some value ↦ λ found.
          let one : found.0 ≡ slot = means.tidy.apart found.0 slot found.1 within found.2 live (found.3 ∙ sym same) in
          ap Some (sym found.4 ∙ ap (value_in s) one)
    ] (means.agrees name is_name in_range)

-- and under a name that none has
pub at_missing : (slots : ℕ) (range : List ℕ → Bool) (s : Spot) (m : Map) (name : List ℕ) → IsName name → range name ≡ true → Means slots range s m
    → ((slot : ℕ) → slot < slots → IsLiveIn s slot → name_words s slot ≡ words_of name → ⊥) → at m name ≡ None
at_missing slots range s m name is_name in_range means none =
    elim (at m name) as (λ o. Finds slots s name o → o ≡ None) [
      | None ↦ λ _. refl
      | Some value ↦ λ found. absurd (none found.0 found.1 found.2 found.3)
    ] (means.agrees name is_name in_range)

-- the other way: a name that the map lacks is in no live slot
pub lacks : (slots : ℕ) (range : List ℕ → Bool) (s : Spot) (m : Map) (name : List ℕ) → IsName name → range name ≡ true → Means slots range s m → at m name ≡ None
    → (slot : ℕ) → slot < slots → IsLiveIn s slot → name_words s slot ≡ words_of name → ⊥
lacks slots range s m name is_name in_range means absent = subst (Finds slots s name) absent (means.agrees name is_name in_range)

-- to take a name out that the map lacks changes nothing
pub remove_absent : (m : Map) (name : List ℕ) → at m name ≡ None → remove m name ≡ m
remove_absent m name absent =
    same_map nat_list_cmp_total (slice_cmp-IsAntisymmetric nat_cmp-IsAntisymmetric) _ _ (λ other.
    let is = get-remove nat_list_cmp_total m name other in
    elim (same_name other name) [
      | inl same ↦ is ∙ ap (λ b. cond b None (at m other)) same.1 ∙ sym (ap (at m) same.0 ∙ absent)
      | inr apart ↦ is ∙ ap (λ b. cond b None (at m other)) apart.1
    ])

-- no slot is live where the bitmap is 0
none_live : (s : Spot) → s bitmap_offset ≡ 0 → (slot : ℕ) → IsLiveIn s slot → ⊥
none_live s none slot live =
    let clear = bit_at-zero slot in
    let set : IsLive 0 slot = subst (λ b. IsLive b slot) none live in
    omega arith

-- a node without a live slot means the empty map, on any range
pub means_empty : (slots : ℕ) (range : List ℕ → Bool) (s : Spot) → s bitmap_offset ≡ 0 → Means slots range s empty
means_empty slots range s none = record {
  tidy = record {
    bounded = let positive = pow_pos slots in omega (arith, none);
    named = λ slot within live. absurd (none_live s none slot live);
    printed = λ slot within live. absurd (none_live s none slot live);
    apart = λ slot other within other_within live other_live same. absurd (none_live s none slot live);
  };
  agrees = λ name is inside. subst (Finds slots s name) (sym (get-empty name_cmp name)) (λ slot within live same. none_live s none slot live);
}
