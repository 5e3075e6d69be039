-- That the words of a node, as a merge makes them, have the names of both: so the premise of the bitmap store is met by who knows the words.
use Rattle.std.proofs.Common.{◌≡◌, ℕ, ◌+◌, ◌/◌, ◌<◌, ◌≤◌, ◌^◌, ◌⊎◌, inl, inr, ⊎_elim, Bool, true, false, List, refl, sym, ap, ◌∙◌, subst, arith}
use Rattle.std.specs.Prelude.{◌||◌, Option, Some, None}
use Rattle.std.specs.Int.{bit_at}
use Rattle.std.proofs.lemmas.Bool.{cases_eq}
use Rattle.cat_key.specs.Names.{IsName, AreNameWords, words_of, bytes_of, fingerprint_of}
use Rattle.cat_history.specs.Maps.{Map, at}
use Rattle.pm_words.specs.Offsets.{bitmap_offset}
use Rattle.data_node.specs.Spots.{Spot, Means, Finds, IsTidy, IsLiveIn, name_words, value_in, print_in_spot}
use Rattle.data_node.specs.Lists.{StaysIn}
use Rattle.data_node.specs.Weights.{names_in}
use Rattle.data_node.proofs.NameCounts.{same_names}
use Rattle.call_stages.specs.Kinds.{IsGathered}
use Rattle.index_law.proofs.Stays.{means_less}
use Rattle.index_law.proofs.Totals.{names_less, names_or}

-- A slot has the name and the value of another one.
pub record IsSameSlot (s : Spot) (i : ℕ) (t : Spot) (j : ℕ) : Type 0 where
  pub name : name_words s i ≡ name_words t j
  pub value : value_in s i ≡ value_in t j

-- The words u hold the pairs of the live slots of s, where they stood with their fingerprints, and in others those of t, with the
-- fingerprints of their names.
pub record IsUnited (slots : ℕ) (s t u : Spot) : Type 0 where
  pub bounded : u bitmap_offset < 2 ^ slots
  pub kept : (slot : ℕ) → slot < slots → IsLiveIn s slot → IsLiveIn u slot × IsSameSlot u slot s slot × (print_in_spot u slot ≡ print_in_spot s slot)
  pub source : ℕ → ℕ
  pub copied : (slot : ℕ) → slot < slots → IsLiveIn u slot → (IsLiveIn s slot → ⊥) → (source slot < slots) × IsLiveIn t (source slot) × IsSameSlot u slot t (source slot)
      × (print_in_spot u slot ≡ fingerprint_of (bytes_of (name_words u slot)))
  pub one : (i j : ℕ) → i < slots → j < slots → IsLiveIn u i → (IsLiveIn s i → ⊥) → IsLiveIn u j → (IsLiveIn s j → ⊥) → source i ≡ source j → i ≡ j
  pub has : (k : ℕ) → k < slots → IsLiveIn t k → (slot : ℕ) × (slot < slots) × IsLiveIn u slot × IsSameSlot u slot t k

either : (a b : Bool) → (a || b) ≡ true → (a ≡ true) ⊎ (b ≡ true)
either true b is = inl refl
either false b is = inr is

neither : (a b : Bool) → (a || b) ≡ false → (a ≡ false) × (b ≡ false)
neither true b is = absurd (let no : true ≡ false = is in cc)
neither false b is = (refl, is)

module _ (slots : ℕ) (range other : List ℕ → Bool) (s t u : Spot) (m : Map) (apart : (name : List ℕ) → range name ≡ true → other name ≡ true → ⊥)
    (means : Means slots range s m) (stays : StaysIn slots range s) (means_right : Means slots other t m) (stays_right : StaysIn slots other t) (union : IsUnited slots s t u) where
  abbrev both : List ℕ → Bool
  both name = range name || other name

  -- what a live slot is: one of the left words, or a copy
  slot_is : (slot : ℕ) → slot < slots → IsLiveIn u slot → (IsLiveIn s slot × IsSameSlot u slot s slot × (print_in_spot u slot ≡ print_in_spot s slot))
      ⊎ ((IsLiveIn s slot → ⊥) × (union.source slot < slots) × IsLiveIn t (union.source slot) × IsSameSlot u slot t (union.source slot)
      × (print_in_spot u slot ≡ fingerprint_of (bytes_of (name_words u slot))))
  slot_is slot within live = ⊎_elim
      (λ was. let is = union.kept slot within was in inl (was, is.1, is.2))
      (λ out. let is = union.copied slot within live out in inr (out, is.0, is.1, is.2, is.3))
      (cases_eq (bit_at (s bitmap_offset) slot) 1)

  -- a live slot's name lies in the node's range
  in_range : (slots : ℕ) (range : List ℕ → Bool) (s : Spot) → StaysIn slots range s → (slot : ℕ) → slot < slots → IsLiveIn s slot → (name : List ℕ) → IsName name → name_words s slot ≡ words_of name → range name ≡ true
  in_range slots range s stays slot within live name is same = elim (range name) as (λ b. range name ≡ b → b ≡ true) [
    | true ↦ λ _. refl
    | false ↦ λ out. absurd (stays name is out slot within live same)
  ] refl

  -- the two have no name in common
  no_common : (i j : ℕ) → i < slots → j < slots → IsLiveIn s i → IsLiveIn t j → name_words s i ≡ name_words t j → ⊥
  no_common i j within within' live live' same =
      let who = means.tidy.named i within live in
      apart who.0 (in_range slots range s stays i within live who.0 who.1 (sym who.2)) (in_range slots other t stays_right j within' live' who.0 who.1 (sym same ∙ sym who.2))

  tidy : IsTidy slots u
  tidy = record {
    bounded = union.bounded;
    named = λ slot within live. ⊎_elim
        (λ left. subst AreNameWords (sym left.1.name) (means.tidy.named slot within left.0))
        (λ right. subst AreNameWords (sym right.3.name) (means_right.tidy.named (union.source slot) right.1 right.2))
        (slot_is slot within live);
    printed = λ slot within live. ⊎_elim
        (λ left. left.2 ∙ means.tidy.printed slot within left.0 ∙ ap (λ w. fingerprint_of (bytes_of w)) (sym left.1.name))
        (λ right. right.4)
        (slot_is slot within live);
    apart = λ i j within within' live live' same. ⊎_elim
        (λ left. ⊎_elim
        (λ left'. means.tidy.apart i j within within' left.0 left'.0 (sym left.1.name ∙ same ∙ left'.1.name))
        (λ right'. absurd (no_common i (union.source j) within right'.1 left.0 right'.2 (sym left.1.name ∙ same ∙ right'.3.name)))
        (slot_is j within' live'))
        (λ right. ⊎_elim
        (λ left'. absurd (no_common j (union.source i) within' right.1 left'.0 right.2 (sym left'.1.name ∙ sym same ∙ right.3.name)))
        (λ right'. union.one i j within within' live right.0 live' right'.0
        (means_right.tidy.apart (union.source i) (union.source j) right.1 right'.1 right.2 right'.2 (sym right.3.name ∙ same ∙ right'.3.name)))
        (slot_is j within' live'))
        (slot_is i within live);
  }

  finds : (name : List ℕ) (found : Option ℕ) → IsName name → (range name ≡ true) ⊎ (other name ≡ true) → ((range name ≡ true) → Finds slots s name found) → ((other name ≡ true) → Finds slots t name found)
      → Finds slots u name found
  finds name None is inside left right = λ slot within live same. ⊎_elim
      (λ was. left (in_range slots range s stays slot within was.0 name is (sym was.1.name ∙ same)) slot within was.0 (sym was.1.name ∙ same))
      (λ copy. right (in_range slots other t stays_right (union.source slot) copy.1 copy.2 name is (sym copy.3.name ∙ same)) (union.source slot) copy.1 copy.2 (sym copy.3.name ∙ same))
      (slot_is slot within live)
  finds name (Some value) is inside left right = ⊎_elim
      (λ own. let has = left own in let kept = union.kept has.0 has.1 has.2 in (has.0, has.1, kept.0, kept.1.name ∙ has.3, kept.1.value ∙ has.4))
      (λ theirs. let has = right theirs in let copy = union.has has.0 has.1 has.2 in (copy.0, copy.1, copy.2, copy.3.name ∙ has.3, copy.3.value ∙ has.4))
      inside

  pub union_means : Means slots both u m
  union_means = record {
    tidy = tidy;
    agrees = λ name is inside. finds name (at m name) is (either (range name) (other name) inside) (λ own. means.agrees name is own) (λ theirs. means_right.agrees name is theirs);
  }

  pub union_stays : StaysIn slots both u
  union_stays name is outside = λ slot within live same.
      let out = neither (range name) (other name) outside in
      ⊎_elim
      (λ left. stays name is out.0 slot within left.0 (sym left.1.name ∙ same))
      (λ right. stays_right name is out.1 (union.source slot) right.1 right.2 (sym right.3.name ∙ same))
      (slot_is slot within live)

  or_true : (b : Bool) → (b || true) ≡ true
  or_true true = refl
  or_true false = refl

  -- where both have few live slots, the union has few names
  pub union_gathered : names_in slots (λ name. true) s + names_in slots (λ name. true) t ≤ slots / 2 → IsGathered slots range other u m
  union_gathered few =
      let parts = names_or slots range other u in
      let left = same_names slots range u s m (means_less slots both range u m (λ name inside. ap (λ b. b || other name) inside) union_means) means in
      let right = same_names slots other u t m (means_less slots both other u m (λ name inside. ap (λ b. range name || b) inside ∙ or_true (range name)) union_means) means_right in
      let low = names_less slots range (λ name. true) s (λ name inside. refl) in
      let high = names_less slots other (λ name. true) t (λ name inside. refl) in
      record { means = union_means; stays = union_stays; few = omega arith }
