-- Which bitmap a listed node is to have.
use Rattle.std.proofs.Common.{◌≡◌, ℕ, ◌+◌, ◌^◌, ◌<◌, ◌⊎◌, ◌↔◌, true, List, inl, inr, sym, subst, ap, ◌∙◌, arith}
use Rattle.std.proofs.lemmas.Bool.{eq-eqb, eqb-true, false≢true, cases_eq}
use Rattle.std.proofs.lemmas.Nat.Bits.{bit_at-zero}
use Rattle.pm_words.specs.Images.{Row}
use Rattle.pm_words.specs.Offsets.{bitmap_offset, next_offset}
use Rattle.cat_key.specs.Names.{words_of}
use Rattle.data_node.specs.Slots.{IsLive}
use Rattle.data_node.specs.Spots.{Spot, name_words, updated}
use Rattle.data_node.specs.Lists.{ListNode, IsBetween, IsIn, Rise, StaysIn, MakeList, anchor_in, key_of, number_of}
use Rattle.data_node.specs.Lists.{range_in, target_from}
use Rattle.data_node.proofs.KeyLemmas.{key-number}
use Rattle.data_node.proofs.ListLemmas.{between_target, target_between}
use Rattle.data_node.proofs.SpotLemmas.{updated-same, name_words-updated}
use Rattle.image_rules.specs.Sound.{IsSound}
use Rattle.image_rules.proofs.TidyLemmas.{sound_keeps}
use Rattle.image_recovery_law.specs.Columns.{IsTrim}
use Rattle.image_recovery_law.specs.Moves.{TrimsNode}
use Rattle.image_recovery_law.proofs.SoundColumns.{spots_are}
use Rattle.image_recovery.specs.Plans.{columns, list_of, spot_of, IsKept}

-- The bits below this slot are those of which K holds, and no others are set.
abbrev pub AreBits : (ℕ → Type 0) → ℕ → ℕ → Type 0
AreBits K bits count = (slot : ℕ) → IsLive bits slot ↔ ((slot < count) × K slot)

pub no_bits : (K : ℕ → Type 0) → AreBits K 0 0
no_bits K slot = (λ live. absurd (let none = bit_at-zero slot in omega arith), λ both. let below = both.0 in absurd (omega arith))

pub one_more : (K : ℕ → Type 0) (bits next slot : ℕ) → AreBits K bits slot → K slot → ((other : ℕ) → IsLive next other ↔ ((other ≡ slot) ⊎ IsLive bits other)) → AreBits K next (slot + 1)
one_more K bits next slot are holds set other = (
  λ live. elim ((set other).0 live) as (λ _. (other < slot + 1) × K other) [
    | inl same ↦ (omega arith, subst K (sym same) holds)
    | inr before ↦ let both = (are other).0 before in let below = both.0 in (omega arith, both.1)
  ],
  λ both. (set other).1 (elim (cases_eq other slot) as (λ _. (other ≡ slot) ⊎ IsLive bits other) [
    | inl same ↦ inl same
    | inr apart ↦ let below = both.0 in inr ((are other).1 (omega arith, both.1))
  ]),
)

pub none_more : (K : ℕ → Type 0) (bits slot : ℕ) → AreBits K bits slot → (K slot → ⊥) → AreBits K bits (slot + 1)
none_more K bits slot are fails other = (
  λ live. let both = (are other).0 live in let below = both.0 in (omega arith, both.1),
  λ both. elim (cases_eq other slot) as (λ _. IsLive bits other) [
    | inl same ↦ absurd (fails (subst K same both.1))
    | inr apart ↦ let below = both.0 in (are other).1 (omega arith, both.1)
  ],
)

-- Of a node of a list: which names are in its range.
module _ (nodes : ℕ) (now : ℕ → Spot) (list : List ListNode) (makes : MakeList nodes now list) (n : ℕ) (among : IsIn list n) where
  rise : Rise (anchor_in (now 0)) list
  rise = subst (λ least. Rise least list) (sym makes.lowest) makes.rise

  pub between_inside : (name : List ℕ) → IsBetween (now n) (now (now n next_offset)) (key_of name) → range_in list n name ≡ true
  between_inside name between = eq-eqb (target_from 0 list (key_of name)) n (between_target now 0 list makes.chain rise n (key_of name) among between)

  pub inside_between : (name : List ℕ) → range_in list n name ≡ true → IsBetween (now n) (now (now n next_offset)) (key_of name)
  inside_between name inside =
      let lowest = makes.lowest in
      target_between now 0 list makes.chain (key_of name) n (omega arith) (eqb-true (target_from 0 list (key_of name)) n inside)

-- The bits of the live slots with names in its range are the bitmap that it is to have.
module _ (image : Row) (sound : IsSound image.layout image.words) (n : ℕ) (among : IsIn (list_of image) n) (bits : ℕ) (bounded : bits < 2 ^ image.layout.slots) (are : AreBits (IsKept image n) bits image.layout.slots) where
  makes : MakeList image.layout.nodes (spot_of image) (list_of image)
  makes = (sound_keeps image.layout image.words sound).list

  abbrev s : Spot
  s = spot_of image n

  name_number : (slot : ℕ) (name : List ℕ) → name_words s slot ≡ words_of name → number_of (name_words s slot) ≡ key_of name
  name_number slot name same = ap number_of same ∙ sym (key-number name)

  trim : IsTrim image.layout.slots (range_in (list_of image) n) s bits
  trim = record {
    bounded = bounded;
    less = λ slot lt live. ((are slot).0 live).1.live;
    keeps = λ slot name lt live is inside words. (are slot).1 (
      lt,
      record {
        live = live;
        between = subst (λ key. IsBetween s (spot_of image (s next_offset)) key) (sym (name_number slot name words)) (inside_between image.layout.nodes (spot_of image) (list_of image) makes n among name inside);
      },
    );
  }

  stays : StaysIn image.layout.slots (range_in (list_of image) n) (updated s bitmap_offset bits)
  stays name is outside slot lt live words =
      let kept = ((are slot).0 (subst (λ b. IsLive b slot) (updated-same s bitmap_offset bits) live)).1 in
      let same = sym (name_words-updated s bitmap_offset bits slot (λ k less at. omega arith)) ∙ words in
      let inside = between_inside image.layout.nodes (spot_of image) (list_of image) makes n among name (subst (λ key. IsBetween s (spot_of image (s next_offset)) key) (name_number slot name same) kept.between) in
      false≢true (sym outside ∙ inside)

  pub trims_node : TrimsNode image.layout (list_of image) (columns image) n bits
  trims_node =
      let both = subst (λ (now : ℕ → Spot). IsTrim image.layout.slots (range_in (list_of image) n) (now n) bits × StaysIn image.layout.slots (range_in (list_of image) n) (updated (now n) bitmap_offset bits))
      (sym (spots_are image.layout image.words)) (trim, stays) in
      record { trim = both.0; stays = both.1 }
