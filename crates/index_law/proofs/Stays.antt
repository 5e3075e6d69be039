-- Nodes whose live slots have no name out of a range.
use Rattle.std.proofs.Common.{◌≡◌, ◌≢◌, ℕ, ◌%◌, arith, Bool, true, false, List, [], ◌∷◌, refl, sym, ap, ◌∙◌, subst}
use Rattle.std.specs.FinMap.{empty, get-empty}
use Rattle.cat_key.specs.Names.{name_cmp}
use Rattle.pm_words.specs.Offsets.{bitmap_offset, next_offset, print_offset, slot_offset, value_word}
use Rattle.image_rules.specs.Sound.{with_slots}
use Rattle.image_rules.proofs.MapLemmas.{slots_find, found_once}
use Rattle.std.specs.Prelude.{not, ◌&&◌, slice_index, None}
use Rattle.cat_key.specs.Names.{IsName}
use Rattle.cat_history.specs.Maps.{Map, at}
use Rattle.cat_history.specs.Writes.{changed, name_of}
use Rattle.cat_history.specs.declared.op.Change.{Change}
use Rattle.cat_history.proofs.ChangeLemmas.{at-changed_other}
use Rattle.data_node.specs.Spots.{Spot, Means, Finds, IsTidy}
use Rattle.data_node.specs.Slots.{prints_of, IsLive}
use Rattle.data_node.proofs.SpotLemmas.{means_kept}
use Rattle.data_node.specs.Lists.{StaysIn}

-- a store that changes nothing of what a node means, whatever the range and the map, leaves no live slot out of the range
pub stays_stored : (slots : ℕ) (range : List ℕ → Bool) (s t : Spot) → IsTidy slots s → ((other : List ℕ → Bool) (m : Map) → Means slots other s m → Means slots other t m)
    → StaysIn slots range s → StaysIn slots range t
stays_stored slots range s t tidy kept stays name named outside =
    let after = kept (λ k. not (range k)) empty (record {
      tidy = tidy;
      agrees = λ k is out. subst (Finds slots s k) (sym (get-empty name_cmp k)) (stays k is (not_true (range k) out));
    }) in
    subst (Finds slots t name) (get-empty name_cmp name) (after.agrees name named (ap not outside))
  where
    not_true : (b : Bool) → not b ≡ true → b ≡ false
    not_true true e = absurd (let none : false ≡ true = e in cc)
    not_true false e = refl

-- and neither does one by which a name of the range is changed
pub stays_changed : (slots : ℕ) (range : List ℕ → Bool) (s t : Spot) (m : Map) (c : Change) → IsName (name_of c) → range (name_of c) ≡ true → Means slots range s m
    → ((m' : Map) → at m' (name_of c) ≡ at m (name_of c) → Means slots (λ name. true) s m' → Means slots (λ name. true) t (changed m' c)) → StaysIn slots range s → StaysIn slots range t
stays_changed slots range s t m c named inside means kept stays name is outside =
    let own : Map = with_slots (λ k. true) s empty slots in
    let has : Means slots (λ k. true) s own = record { tidy = means.tidy; agrees = λ k is_name _. slots_find slots (λ n. true) s empty k means.tidy is_name refl (get-empty name_cmp k) slots (omega arith) } in
    let after = kept own (found_once slots s (name_of c) means.tidy (at own (name_of c)) (at m (name_of c)) (has.agrees (name_of c) named refl) (means.agrees (name_of c) named inside)) has in
    let none : at own name ≡ None = found_once slots s name means.tidy (at own name) None (has.agrees name is refl) (stays name is outside) in
    subst (Finds slots t name) (at-changed_other own c name (λ e. let no : true ≡ false = sym inside ∙ sym (ap range e) ∙ outside in cc) ∙ none) (after.agrees name is refl)

-- a store of a node's next changes nothing of what it means
pub means_beside : (slots : ℕ) (range : List ℕ → Bool) (s t : Spot) (m : Map) → ((offset : ℕ) → offset ≢ next_offset → t offset ≡ s offset) → Means slots range s m → Means slots range t m
means_beside slots range s t m same means =
    let bits : t bitmap_offset ≡ s bitmap_offset = same bitmap_offset (λ e. omega arith) in
    means_kept slots range s t m (record {
      bitmap = bits;
      there = λ slot within live.
          let a = same (slot_offset slot 0) (λ e. omega arith) in
          let b = same (slot_offset slot 1) (λ e. omega arith) in
          let c = same (slot_offset slot 2) (λ e. omega arith) in
          let d = same (slot_offset slot value_word) (λ e. omega arith) in
          let p = same (print_offset slot) (λ e. omega arith) in
          record {
            live = subst (λ w. IsLive w slot) (sym bits) live;
            name = λ i. a i ∷ b i ∷ c i ∷ [];
            value = d;
            print = λ i. slice_index (prints_of (p i)) (slot % 8);
          };
    }) means

-- a node means a map on each part of a range
pub means_less : (slots : ℕ) (range less : List ℕ → Bool) (s : Spot) (m : Map) → ((name : List ℕ) → less name ≡ true → range name ≡ true) → Means slots range s m → Means slots less s m
means_less slots range less s m within means = record { tidy = means.tidy; agrees = λ name is inside. means.agrees name is (within name inside) }

pub both_true : (a b : Bool) → (a && b) ≡ true → a ≡ true
both_true true b is = refl
both_true false b is = absurd (let none : false ≡ true = is in cc)
