-- That the words of a full node and of a fresh one, as a split stores them, are cut: so the premise of the switch is met by who knows them.
use Rattle.std.proofs.Common.{◌≡◌, ℕ, zero, suc, ◌+◌, ◌<◌, ◌≤◌, ◌^◌, Bool, true, false, cond, List, refl, sym, ap, ◌∙◌, subst, arith}
use Rattle.std.specs.Prelude.{◌==◌, ◌&&◌, nat_le, slice_index, Option, Some, None}
use Rattle.std.specs.Int.{bit_at}
use Rattle.std.proofs.lemmas.Bool.{eq-eqb, leb-true, le-leb}
use Rattle.cat_key.specs.Names.{IsName, AreNameWords, words_of, bytes_of, fingerprint_of}
use Rattle.cat_key.proofs.Packing.{bytes_of-words_of}
use Rattle.cat_history.specs.Maps.{Map, at}
use Rattle.pm_words.specs.Offsets.{bitmap_offset, slot_offset}
use Rattle.data_node.specs.Slots.{AreAllLive}
use Rattle.data_node.specs.Spots.{Spot, Means, Finds, IsLiveIn, name_words, value_in, print_in_spot}
use Rattle.data_node.specs.Lists.{key_of, three_words, StaysIn}
use Rattle.data_node.specs.Weights.{names_in}
use Rattle.call_stages.specs.Kinds.{from_key}

-- The number of a slot's name words.
abbrev pub slot_key : Spot → ℕ → ℕ
slot_key s slot = three_words (s (slot_offset slot 0)) (s (slot_offset slot 1)) (s (slot_offset slot 2))

pub slot_key-is : (s : Spot) (slot : ℕ) (name : List ℕ) → name_words s slot ≡ words_of name → slot_key s slot ≡ key_of name
unfolding key_of
slot_key-is s slot name same = ap (λ (ws : List ℕ). three_words (slice_index ws 0) (slice_index ws 1) (slice_index ws 2)) same

-- The words t hold, in the first so many slots, the pairs of s from a key on, and nothing else.
pub record IsCopy (slots key : ℕ) (s t : Spot) : Type 0 where
  pub count : ℕ
  pub within : count ≤ slots
  pub bounded : t bitmap_offset < 2 ^ slots
  pub live : (slot : ℕ) → slot < slots → IsLiveIn t slot → slot < count
  pub set : (slot : ℕ) → slot < count → IsLiveIn t slot
  pub source : ℕ → ℕ
  pub source_within : (slot : ℕ) → slot < count → source slot < slots
  pub apart : (i j : ℕ) → i < count → j < count → source i ≡ source j → i ≡ j
  pub name : (slot : ℕ) → slot < count → name_words t slot ≡ name_words s (source slot)
  pub value : (slot : ℕ) → slot < count → value_in t slot ≡ value_in s (source slot)
  pub print : (slot : ℕ) → slot < count → print_in_spot t slot ≡ print_in_spot s (source slot)
  pub upper : (slot : ℕ) → slot < count → key ≤ slot_key s (source slot)
  pub all : (slot : ℕ) → slot < slots → key ≤ slot_key s slot → (i : ℕ) × (i < count) × (source i ≡ slot)

and_true : (a b : Bool) → (a && b) ≡ true → (a ≡ true) × (b ≡ true)
and_true true b e = (refl, e)
and_true false b e = absurd (let no : false ≡ true = e in cc)

module _ (slots key : ℕ) (range : List ℕ → Bool) (s t : Spot) (m : Map) (full : AreAllLive (s bitmap_offset) slots) (means : Means slots range s m) (copy : IsCopy slots key s t) where
  source_live : (slot : ℕ) → slot < copy.count → IsLiveIn s (copy.source slot)
  source_live slot within = full (copy.source slot) (copy.source_within slot within)

  finds : (name : List ℕ) (found : Option ℕ) → key ≤ key_of name → Finds slots s name found → Finds slots t name found
  finds name None high none = λ slot within live same.
      let here = copy.live slot within live in
      none (copy.source slot) (copy.source_within slot here) (source_live slot here) (sym (copy.name slot here) ∙ same)
  finds name (Some value) high has =
      let is = slot_key-is s has.0 name has.3 in
      let at = copy.all has.0 has.1 (omega arith) in
      let lower = copy.within in
      let below = at.1 in
      (at.0, omega arith, copy.set at.0 at.1, copy.name at.0 at.1 ∙ ap (name_words s) at.2 ∙ has.3, copy.value at.0 at.1 ∙ ap (value_in s) at.2 ∙ has.4)

  -- the fresh node means the map on the names that moved
  pub copy_means : Means slots (from_key range key) t m
  copy_means = record {
    tidy = record {
      bounded = copy.bounded;
      named = λ slot within live. let here = copy.live slot within live in
          subst AreNameWords (sym (copy.name slot here)) (means.tidy.named (copy.source slot) (copy.source_within slot here) (source_live slot here));
      printed = λ slot within live. let here = copy.live slot within live in
          copy.print slot here ∙ means.tidy.printed (copy.source slot) (copy.source_within slot here) (source_live slot here) ∙ ap (λ w. fingerprint_of (bytes_of w)) (sym (copy.name slot here));
      apart = λ slot other within other_within live other_live same.
          let here = copy.live slot within live in
          let there = copy.live other other_within other_live in
          copy.apart slot other here there (means.tidy.apart (copy.source slot) (copy.source other) (copy.source_within slot here) (copy.source_within other there)
          (source_live slot here) (source_live other there) (sym (copy.name slot here) ∙ same ∙ copy.name other there));
    };
    agrees = λ name is inside.
        let parts = and_true (range name) (nat_le key (key_of name)) inside in
        finds name (at m name) (leb-true key (key_of name) parts.1) (means.agrees name is parts.0);
  }

  -- and has no live slot out of those
  pub copy_stays : StaysIn slots range s → StaysIn slots (from_key range key) t
  copy_stays stays name is outside = λ slot within live same.
      let here = copy.live slot within live in
      let stands : name_words s (copy.source slot) ≡ words_of name = sym (copy.name slot here) ∙ same in
      let high = copy.upper slot here in
      let key_is = slot_key-is s (copy.source slot) name stands in
      elim (range name) as (λ b. range name ≡ b → (b && nat_le key (key_of name)) ≡ false → ⊥) [
        | true ↦ λ _ out. let up : nat_le key (key_of name) ≡ true = le-leb key (key_of name) (omega arith) in absurd (let no : true ≡ false = sym up ∙ out in cc)
        | false ↦ λ out _. stays name is out (copy.source slot) (copy.source_within slot here) (source_live slot here) stands
      ] refl outside

-- a full node has as many names of its range as slots
pub full_names : (slots count : ℕ) (range : List ℕ → Bool) (s : Spot) → count ≤ slots → AreAllLive (s bitmap_offset) slots
    → ((slot : ℕ) → slot < slots → (name : List ℕ) × IsName name × (words_of name ≡ name_words s slot)) → StaysIn slots range s → names_in count range s ≡ count
full_names slots zero range s within full named stays = refl
full_names slots (suc slot) range s within full named stays =
    let rest = full_names slots slot range s (omega arith) full named stays in
    let who = named slot (omega arith) in
    let text : bytes_of (name_words s slot) ≡ who.0 = ap bytes_of (sym who.2) ∙ bytes_of-words_of who.0 who.1 in
    let inside : range who.0 ≡ true = elim (range who.0) as (λ b. range who.0 ≡ b → b ≡ true) [
      | true ↦ λ _. refl
      | false ↦ λ out. absurd (stays who.0 who.1 out slot (omega arith) (full slot (omega arith)) (sym who.2))
    ] refl in
    let one : ((bit_at (s bitmap_offset) slot == 1) && range (bytes_of (name_words s slot))) ≡ true =
    (λ i. eq-eqb (bit_at (s bitmap_offset) slot) 1 (full slot (omega arith)) i && (ap range text ∙ inside) i) in
    let sum : names_in (suc slot) range s ≡ 1 + slot = (λ i. cond (one i) 1 0 + rest i) in
    let last : 1 + slot ≡ suc slot = omega arith in
    sum ∙ last
