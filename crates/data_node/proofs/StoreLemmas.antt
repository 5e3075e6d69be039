-- The stores of a put and of a delete, and what the node means after each.
use Rattle.std.proofs.Common.{◌≡◌, ℕ, ◌+◌, ◌/◌, ◌%◌, ◌<◌, ◌≤◌, ◌^◌, Bool, List, get_or, inl, inr, sym, subst, ap, ◌∙◌}
use Rattle.std.proofs.Common.{arith}
use Rattle.std.specs.Int.{bit_at}
use Rattle.std.specs.FinMap.{insert, remove}
use Rattle.std.proofs.lemmas.Bool.{cases_eq}
use Rattle.std.proofs.lemmas.List.{get_or-set_same, get_or-set_other}
use Rattle.cat_key.specs.Names.{IsName, words_of, bytes_of, fingerprint_of}
use Rattle.cat_key.proofs.Packing.{bytes_of-words_of}
use Rattle.shapes.specs.cat_history.specs.Maps.{Map}
use Rattle.pm_words.specs.Offsets.{bitmap_offset, print_offset, slot_offset, value_word}
use Rattle.data_node.specs.Slots.{IsLive, IsClear, prints_of}
use Rattle.data_node.specs.Bits.{with_live, without_live, printed, candidate_bits}
use Rattle.data_node.specs.Spots.{Spot, updated, IsLiveIn, name_words}
use Rattle.data_node.specs.Spots.{value_in, print_in_spot, IsTidy, Means}
use Rattle.data_node.proofs.BitLemmas.{with_live-same, with_live-other, with_live_below, without_live-same}
use Rattle.data_node.proofs.BitLemmas.{without_live-other, without_live_below, prints_of-printed}
use Rattle.data_node.proofs.BitLemmas.{candidate_bits-marks}
use Rattle.data_node.proofs.SpotLemmas.{updated-same, updated-other, name_words-updated, live_within, KeepsAll}
use Rattle.data_node.proofs.SpotLemmas.{KeepsOthers, means_kept, means_put, means_del}

-- a live slot is not a clear one
clear_apart : (bitmap slot other : ℕ) → IsClear bitmap slot → IsLive bitmap other → other ≡ slot → ⊥
clear_apart bitmap slot other clear live same = let zero : bit_at bitmap other ≡ 0 = subst (IsClear bitmap) (sym same) clear in let one : bit_at bitmap other ≡ 1 = live in omega arith

-- a store into a word of a clear slot changes nothing
slot_store_keeps : (slots : ℕ) (s : Spot) (slot k word : ℕ) → slots ≤ 64 → k < 4 → IsClear (s bitmap_offset) slot → KeepsAll slots s (updated s (slot_offset slot k) word)
slot_store_keeps slots s slot k word limit small clear = record {
  bitmap = updated-other s (slot_offset slot k) word bitmap_offset (λ e. omega arith);
  there = λ other within live.
      let apart = clear_apart (s bitmap_offset) slot other clear live in
      record {
        live = subst (λ b. IsLive b other) (sym (updated-other s (slot_offset slot k) word bitmap_offset (λ e. omega arith))) live;
        name = name_words-updated s (slot_offset slot k) word other (λ j below e. apart (omega arith));
        value = updated-other s (slot_offset slot k) word (slot_offset other value_word) (λ e. apart (omega arith));
        print = ap (λ w. get_or (prints_of w) (other % 8) 0) (updated-other s (slot_offset slot k) word (print_offset other) (λ e. omega arith));
      };
}

pub means_slot_store : (slots : ℕ) (range : List ℕ → Bool) (s : Spot) (m : Map) (slot k word : ℕ) → slots ≤ 64 → k < 4 → IsClear (s bitmap_offset) slot → Means slots range s m
    → Means slots range (updated s (slot_offset slot k) word) m
means_slot_store slots range s m slot k word limit small clear means = means_kept slots range s (updated s (slot_offset slot k) word) m (slot_store_keeps slots s slot k word limit small clear) means

-- a store of a clear slot's fingerprint changes nothing
module _ (s : Spot) (slot print : ℕ) (in_node : slot < 64) (small : print < 256) where
  abbrev now_printed : Spot
  now_printed = updated s (print_offset slot) (printed (s (print_offset slot)) slot print)

  pub print_stored : print_in_spot now_printed slot ≡ print
  print_stored =
      ap (λ w. get_or (prints_of w) (slot % 8) 0) (updated-same s (print_offset slot) (printed (s (print_offset slot)) slot print))
      ∙ ap (λ bytes. get_or bytes (slot % 8) 0) (prints_of-printed (s (print_offset slot)) slot print small)
      ∙ get_or-set_same (prints_of (s (print_offset slot))) (slot % 8) print 0 (omega arith)

  print_kept : (other : ℕ) → (other ≡ slot → ⊥) → print_in_spot now_printed other ≡ print_in_spot s other
  print_kept other apart =
      elim (cases_eq (other / 8) (slot / 8)) [
        | inl same ↦
            let one : print_offset other ≡ print_offset slot = omega arith in
            let byte_apart : other % 8 ≡ slot % 8 → ⊥ = λ e. apart (omega arith) in
            ap (λ o. get_or (prints_of (now_printed o)) (other % 8) 0) one
            ∙ ap (λ w. get_or (prints_of w) (other % 8) 0) (updated-same s (print_offset slot) (printed (s (print_offset slot)) slot print))
            ∙ ap (λ bytes. get_or bytes (other % 8) 0) (prints_of-printed (s (print_offset slot)) slot print small)
            ∙ get_or-set_other (prints_of (s (print_offset slot))) (slot % 8) (other % 8) print 0 byte_apart
            ∙ ap (λ o. get_or (prints_of (s o)) (other % 8) 0) (sym one)
        | inr word_apart ↦ ap (λ w. get_or (prints_of w) (other % 8) 0) (updated-other s (print_offset slot) (printed (s (print_offset slot)) slot print) (print_offset other) (λ e. word_apart (omega arith)))
      ]

  print_store_keeps : (slots : ℕ) → IsClear (s bitmap_offset) slot → KeepsAll slots s now_printed
  print_store_keeps slots clear = record {
    bitmap = updated-other s (print_offset slot) (printed (s (print_offset slot)) slot print) bitmap_offset (λ e. omega arith);
    there = λ other within live. record {
      live = subst (λ b. IsLive b other) (sym (updated-other s (print_offset slot) (printed (s (print_offset slot)) slot print) bitmap_offset (λ e. omega arith))) live;
      name = name_words-updated s (print_offset slot) (printed (s (print_offset slot)) slot print) other (λ j below e. omega arith);
      value = updated-other s (print_offset slot) (printed (s (print_offset slot)) slot print) (slot_offset other value_word) (λ e. omega arith);
      print = print_kept other (clear_apart (s bitmap_offset) slot other clear live);
    };
  }

  pub means_print_store : (slots : ℕ) (range : List ℕ → Bool) (m : Map) → IsClear (s bitmap_offset) slot → Means slots range s m → Means slots range now_printed m
  means_print_store slots range m clear means = means_kept slots range s now_printed m (print_store_keeps slots clear) means

-- a store of the bitmap changes only which slots are live
module _ (s : Spot) (bitmap : ℕ) where
  abbrev mapped : Spot
  mapped = updated s bitmap_offset bitmap

  bitmap_stored : mapped bitmap_offset ≡ bitmap
  bitmap_stored = updated-same s bitmap_offset bitmap

  name_mapped : (slot : ℕ) → name_words mapped slot ≡ name_words s slot
  name_mapped slot = name_words-updated s bitmap_offset bitmap slot (λ k below e. omega arith)

  value_mapped : (slot : ℕ) → value_in mapped slot ≡ value_in s slot
  value_mapped slot = updated-other s bitmap_offset bitmap (slot_offset slot value_word) (λ e. omega arith)

  print_mapped : (slot : ℕ) → print_in_spot mapped slot ≡ print_in_spot s slot
  print_mapped slot = ap (λ w. get_or (prints_of w) (slot % 8) 0) (updated-other s bitmap_offset bitmap (print_offset slot) (λ e. omega arith))

  live_mapped : (slot : ℕ) → IsLive bitmap slot → IsLiveIn mapped slot
  live_mapped slot live = subst (λ b. IsLive b slot) (sym bitmap_stored) live

  was_mapped : (slot : ℕ) → IsLiveIn mapped slot → IsLive bitmap slot
  was_mapped slot live = subst (λ b. IsLive b slot) bitmap_stored live

  kept_mapped : (slots : ℕ) (name : List ℕ)
      → ((slot : ℕ) → slot < slots → IsLiveIn s slot → (name_words s slot ≡ words_of name → ⊥) → IsLive bitmap slot)
      → ((slot : ℕ) → slot < slots → IsLive bitmap slot → (name_words s slot ≡ words_of name → ⊥) → IsLiveIn s slot)
      → KeepsOthers slots name s mapped
  kept_mapped slots name stays was = record {
    there = λ slot within live other. record { live = live_mapped slot (stays slot within live other); name = name_mapped slot; value = value_mapped slot; print = print_mapped slot };
    back = λ slot within live other. record {
      live = was slot within (was_mapped slot live) (λ e. other (name_mapped slot ∙ e));
      name = sym (name_mapped slot);
      value = sym (value_mapped slot);
      print = sym (print_mapped slot);
    };
  }

-- A slot holds the pair, with the fingerprint of its name.
pub record HasPair (name : List ℕ) (value : ℕ) (s : Spot) (slot : ℕ) : Type 0 where
  pub name_is : name_words s slot ≡ words_of name
  pub value_is : value_in s slot ≡ value
  pub print_is : print_in_spot s slot ≡ fingerprint_of name

-- A bitmap in which this slot is live, and otherwise just the live slots with other names.
record MovesTo (slots : ℕ) (name : List ℕ) (s : Spot) (slot bitmap : ℕ) : Type 0 where
  pub bounded : bitmap < 2 ^ slots
  pub live : IsLive bitmap slot
  pub stays : (other : ℕ) → other < slots → IsLiveIn s other → (name_words s other ≡ words_of name → ⊥) → IsLive bitmap other
  pub was : (other : ℕ) → other < slots → (other ≡ slot → ⊥) → IsLive bitmap other → IsLiveIn s other × (name_words s other ≡ words_of name → ⊥)

-- with the store of such a bitmap the node means the map with the pair
means_moved : (slots : ℕ) (range : List ℕ → Bool) (s : Spot) (m : Map) (name : List ℕ) (value slot bitmap : ℕ) → IsName name → slot < slots → HasPair name value s slot
    → MovesTo slots name s slot bitmap → Means slots range s m → Means slots range (updated s bitmap_offset bitmap) (insert m name value)
means_moved slots range s m name value slot bitmap is_name within has moves means =
    let t : Spot = mapped s bitmap in
    let only : (other : ℕ) → other < slots → IsLiveIn t other → name_words t other ≡ words_of name → other ≡ slot =
    λ other other_within live same. elim (cases_eq other slot) [
      | inl e ↦ e
      | inr apart ↦ absurd ((moves.was other other_within apart (was_mapped s bitmap other live)).1 (sym (name_mapped s bitmap other) ∙ same))
    ] in
    means_put slots name s t is_name
    (kept_mapped s bitmap slots name moves.stays (λ other other_within live not_it. elim (cases_eq other slot) [
      | inl e ↦ absurd (not_it (subst (λ n. name_words s n ≡ words_of name) (sym e) has.name_is))
      | inr apart ↦ (moves.was other other_within apart live).0
    ])) range m value (subst (λ b. b < 2 ^ slots) (sym (bitmap_stored s bitmap)) moves.bounded)
    (record {
      printed = λ other other_within live same. subst (λ n. print_in_spot t n ≡ fingerprint_of name) (sym (only other other_within live same)) (print_mapped s bitmap slot ∙ has.print_is);
      once = λ a b a_within b_within a_live b_live a_same b_same. only a a_within a_live a_same ∙ sym (only b b_within b_live b_same);
    })
    (slot, within, live_mapped s bitmap slot moves.live, name_mapped s bitmap slot ∙ has.name_is, value_mapped s bitmap slot ∙ has.value_is)
    means

-- the pair stands in a clear slot, and no live slot has its name: one store of the bitmap puts it into the map
pub means_added : (slots : ℕ) (range : List ℕ → Bool) (s : Spot) (m : Map) (name : List ℕ) (value slot : ℕ) → slots ≤ 64 → IsName name → slot < slots → HasPair name value s slot
    → ((other : ℕ) → other < slots → IsLiveIn s other → name_words s other ≡ words_of name → ⊥)
    → Means slots range s m → Means slots range (updated s bitmap_offset (with_live (s bitmap_offset) slot)) (insert m name value)
means_added slots range s m name value slot limit is_name within has absent means =
    let in_node : slot < 64 = omega arith in
    means_moved slots range s m name value slot (with_live (s bitmap_offset) slot) is_name within has
    (record {
      bounded = with_live_below slots (s bitmap_offset) slot limit within means.tidy.bounded;
      live = with_live-same (s bitmap_offset) slot in_node;
      stays = λ other other_within live _. elim (cases_eq other slot) [
        | inl e ↦ subst (IsLive (with_live (s bitmap_offset) slot)) (sym e) (with_live-same (s bitmap_offset) slot in_node)
        | inr apart ↦ with_live-other (s bitmap_offset) slot other in_node apart ∙ live
      ];
      was = λ other other_within apart live.
          let was_live : IsLiveIn s other = sym (with_live-other (s bitmap_offset) slot other in_node apart) ∙ live in (was_live, absent other other_within was_live);
    }) means

-- the pair stands in a clear slot, and this live slot has its name: the same store clears that one
pub means_moved_from : (slots : ℕ) (range : List ℕ → Bool) (s : Spot) (m : Map) (name : List ℕ) (value slot held : ℕ) → slots ≤ 64 → IsName name → slot < slots → HasPair name value s slot
    → IsClear (s bitmap_offset) slot → IsLiveIn s held → name_words s held ≡ words_of name
    → Means slots range s m → Means slots range (updated s bitmap_offset (with_live (without_live (s bitmap_offset) held) slot)) (insert m name value)
means_moved_from slots range s m name value slot held limit is_name within has clear live_held same_held means =
    let in_node : slot < 64 = omega arith in
    let held_within = live_within slots s held means.tidy live_held in
    let held_in_node : held < 64 = omega arith in
    let kept = without_live (s bitmap_offset) held in
    means_moved slots range s m name value slot (with_live kept slot) is_name within has
    (record {
      bounded = with_live_below slots kept slot limit within (without_live_below slots (s bitmap_offset) held means.tidy.bounded);
      live = with_live-same kept slot in_node;
      stays = λ other other_within live not_it. elim (cases_eq other slot) [
        | inl e ↦ subst (IsLive (with_live kept slot)) (sym e) (with_live-same kept slot in_node)
        | inr apart ↦
            let not_held : other ≡ held → ⊥ = λ e. not_it (subst (λ n. name_words s n ≡ words_of name) (sym e) same_held) in
            with_live-other kept slot other in_node apart ∙ without_live-other (s bitmap_offset) held other held_in_node (omega arith) not_held ∙ live
      ];
      was = λ other other_within apart live.
          let live_kept : IsLive kept other = sym (with_live-other kept slot other in_node apart) ∙ live in
          let not_held : other ≡ held → ⊥ = λ e. clear_apart kept held other (without_live-same (s bitmap_offset) held held_in_node) live_kept e in
          let was_live : IsLiveIn s other = sym (without_live-other (s bitmap_offset) held other held_in_node (omega arith) not_held) ∙ live_kept in
          (was_live, λ same. not_held (means.tidy.apart other held other_within held_within was_live live_held (same ∙ sym same_held)));
    }) means

-- a store of the bitmap without a name's slot takes it out of the map
pub means_cleared : (slots : ℕ) (range : List ℕ → Bool) (s : Spot) (m : Map) (name : List ℕ) (held : ℕ) → slots ≤ 64 → IsName name → IsLiveIn s held → name_words s held ≡ words_of name
    → Means slots range s m → Means slots range (updated s bitmap_offset (without_live (s bitmap_offset) held)) (remove m name)
means_cleared slots range s m name held limit is_name live_held same_held means =
    let held_within = live_within slots s held means.tidy live_held in
    let held_in_node : held < 64 = omega arith in
    let kept = without_live (s bitmap_offset) held in
    let t : Spot = mapped s kept in
    let not_held : (other : ℕ) → IsLive kept other → other ≡ held → ⊥ = λ other live e. clear_apart kept held other (without_live-same (s bitmap_offset) held held_in_node) live e in
    let was : (other : ℕ) → other < slots → IsLive kept other → IsLiveIn s other =
    λ other within live. sym (without_live-other (s bitmap_offset) held other held_in_node (omega arith) (not_held other live)) ∙ live in
    means_del slots name s t is_name
    (kept_mapped s kept slots name
    (λ other within live not_it. without_live-other (s bitmap_offset) held other held_in_node (omega arith) (λ e. not_it (subst (λ n. name_words s n ≡ words_of name) (sym e) same_held)) ∙ live)
    (λ other within live _. was other within live))
    range m (subst (λ b. b < 2 ^ slots) (sym (bitmap_stored s kept)) (without_live_below slots (s bitmap_offset) held means.tidy.bounded))
    (λ other within live same.
    let live_kept = was_mapped s kept other live in
    not_held other live_kept (means.tidy.apart other held within held_within (was other within live_kept) live_held (sym (name_mapped s kept other) ∙ same ∙ sym same_held)))
    means

-- a store of a live slot's value changes what its name has
pub means_valued : (slots : ℕ) (range : List ℕ → Bool) (s : Spot) (m : Map) (name : List ℕ) (value held : ℕ) → slots ≤ 64 → IsName name → IsLiveIn s held → name_words s held ≡ words_of name
    → Means slots range s m → Means slots range (updated s (slot_offset held value_word) value) (insert m name value)
means_valued slots range s m name value held limit is_name live_held same_held means =
    let held_within = live_within slots s held means.tidy live_held in
    let t : Spot = updated s (slot_offset held value_word) value in
    let bitmap_same : t bitmap_offset ≡ s bitmap_offset = updated-other s (slot_offset held value_word) value bitmap_offset (λ e. omega arith) in
    let name_same : (other : ℕ) → name_words t other ≡ name_words s other = λ other. name_words-updated s (slot_offset held value_word) value other (λ k below e. omega arith) in
    let print_same : (other : ℕ) → other < slots → print_in_spot t other ≡ print_in_spot s other =
    λ other within. ap (λ w. get_or (prints_of w) (other % 8) 0) (updated-other s (slot_offset held value_word) value (print_offset other) (λ e. omega arith)) in
    let value_same : (other : ℕ) → (other ≡ held → ⊥) → value_in t other ≡ value_in s other =
    λ other apart. updated-other s (slot_offset held value_word) value (slot_offset other value_word) (λ e. apart (omega arith)) in
    let stays : (other : ℕ) → IsLiveIn s other → IsLiveIn t other = λ other live. subst (λ b. IsLive b other) (sym bitmap_same) live in
    let was : (other : ℕ) → IsLiveIn t other → IsLiveIn s other = λ other live. subst (λ b. IsLive b other) bitmap_same live in
    let not_held : (other : ℕ) → (name_words s other ≡ words_of name → ⊥) → other ≡ held → ⊥ = λ other not_it e. not_it (subst (λ n. name_words s n ≡ words_of name) (sym e) same_held) in
    let only : (other : ℕ) → other < slots → IsLiveIn t other → name_words t other ≡ words_of name → other ≡ held =
    λ other within live same. means.tidy.apart other held within held_within (was other live) live_held (sym (name_same other) ∙ same ∙ sym same_held) in
    means_put slots name s t is_name
    (record {
      there = λ other within live not_it. record { live = stays other live; name = name_same other; value = value_same other (not_held other not_it); print = print_same other within };
      back = λ other within live not_it. record {
        live = was other live;
        name = sym (name_same other);
        value = sym (value_same other (not_held other (λ e. not_it (name_same other ∙ e))));
        print = sym (print_same other within);
      };
    })
    range m value (subst (λ b. b < 2 ^ slots) (sym bitmap_same) means.tidy.bounded)
    (record {
      printed = λ other within live same.
          print_same other within ∙ means.tidy.printed other within (was other live) ∙ ap fingerprint_of (ap bytes_of (sym (name_same other) ∙ same) ∙ bytes_of-words_of name is_name);
      once = λ a b a_within b_within a_live b_live a_same b_same. only a a_within a_live a_same ∙ sym (only b b_within b_live b_same);
    })
    (held, held_within, stays held live_held, name_same held ∙ same_held, updated-same s (slot_offset held value_word) value)
    means

-- every live slot with the name is among the candidates
pub candidates_cover : (slots : ℕ) (s : Spot) (prints : List ℕ) (name : List ℕ) (slot : ℕ) → slots ≤ 64 → IsName name → IsTidy slots s
    → ((k : ℕ) → k < 8 → s (8 + k) ≡ get_or prints k 0) → IsLiveIn s slot → name_words s slot ≡ words_of name
    → IsLive (candidate_bits (s bitmap_offset) prints (fingerprint_of name) slots) slot
candidates_cover slots s prints name slot limit is_name tidy loaded live same =
    let within = live_within slots s slot tidy live in
    (candidate_bits-marks (s bitmap_offset) prints (fingerprint_of name) slots limit slot).1 (record {
      within = within;
      live = live;
      same = ap (λ w. get_or (prints_of w) (slot % 8) 0) (sym (loaded (slot / 8) (omega arith)))
          ∙ tidy.printed slot within live ∙ ap fingerprint_of (ap bytes_of same ∙ bytes_of-words_of name is_name);
    })
