-- A node weighs the same when live slots out of its range are cleared.
use Rattle.std.proofs.Common.{◌≡◌, ◌≢◌, ℕ, zero, suc, ◌+◌, ◌-◌, ◌/◌, ◌<◌, ◌≤◌, ◌==◌, ◌&&◌, Bool, true, false, cond, List, inl, inr, refl, sym, ap, ap₂, ◌∙◌, arith}
use Rattle.std.specs.Int.{bit_at}
use Rattle.std.proofs.lemmas.Bool.{cases_eq, eq-eqb, ne_eqb}
use Rattle.cat_key.specs.Names.{bytes_of}
use Rattle.cat_key.proofs.Packing.{bytes_of-words_of}
use Rattle.pm_words.specs.Offsets.{bitmap_offset}
use Rattle.data_node.specs.Spots.{Spot, IsTidy, IsLiveIn, name_words}
use Rattle.data_node.specs.Weights.{has_name_in, names_in}
use Rattle.data_node.specs.Lists.{range_in}
use Rattle.image_recovery_law.specs.Columns.{IsTrim}
use Rattle.image_recovery_law.specs.Laws.{MendedWeighs}
use Rattle.image_recovery_law.proofs.Alike.{AlikeBut, name_kept}

module _ (slots : ℕ) (range : List ℕ → Bool) (s t : Spot) (same : AlikeBut s t) (trim : IsTrim slots range s (t bitmap_offset)) (tidy : IsTidy slots s) where
  slot_same : (slot : ℕ) → slot < slots → has_name_in range t slot ≡ has_name_in range s slot
  slot_same slot lt =
      let names : range (bytes_of (name_words t slot)) ≡ range (bytes_of (name_words s slot)) = ap (λ (ws : List ℕ). range (bytes_of ws)) (name_kept s t slot same) in
      ap (λ b. (bit_at (t bitmap_offset) slot == 1) && b) names
      ∙ elim (cases_eq (bit_at (s bitmap_offset) slot) 1) [
        | inr dead ↦
            let dead' : bit_at (t bitmap_offset) slot ≢ 1 = λ live. dead (trim.less slot lt live) in
            ap (λ a. a && range (bytes_of (name_words s slot))) (ne_eqb (bit_at (t bitmap_offset) slot) 1 dead' ∙ sym (ne_eqb (bit_at (s bitmap_offset) slot) 1 dead))
        | inl live ↦ inside live (range (bytes_of (name_words s slot))) refl
      ]
    where
      inside : IsLiveIn s slot → (b : Bool) → range (bytes_of (name_words s slot)) ≡ b → ((bit_at (t bitmap_offset) slot == 1) && b) ≡ ((bit_at (s bitmap_offset) slot == 1) && b)
      inside live false is = elim (bit_at (t bitmap_offset) slot == 1) as (λ x. (x && false) ≡ ((bit_at (s bitmap_offset) slot == 1) && false)) [
        | true ↦ elim (bit_at (s bitmap_offset) slot == 1) as (λ x. false ≡ (x && false)) [ true ↦ refl | false ↦ refl ]
        | false ↦ elim (bit_at (s bitmap_offset) slot == 1) as (λ x. false ≡ (x && false)) [ true ↦ refl | false ↦ refl ]
      ]
      inside live true is =
          let name = tidy.named slot lt live in
          let kept : IsLiveIn t slot = trim.keeps slot name.0 lt live name.1 (ap range (sym (bytes_of-words_of name.0 name.1) ∙ ap bytes_of name.2) ∙ is) (sym name.2) in
          ap (λ x. x && true) (eq-eqb (bit_at (t bitmap_offset) slot) 1 kept ∙ sym (eq-eqb (bit_at (s bitmap_offset) slot) 1 live))

  names_same : (k : ℕ) → k ≤ slots → names_in k range t ≡ names_in k range s
  names_same zero le = refl
  names_same (suc k) le = ap₂ (λ b n. cond b 1 0 + n) (slot_same k (omega arith)) (names_same k (omega arith))

pub mended_weighs : MendedWeighs
mended_weighs l list o i n sound mends is =
    ap (λ k. l.slots / 2 + (k - l.slots / 2)) (names_same l.slots (range_in list n) (o.spot n) (i.spot n) (mends.nodes.words n) (mends.nodes.bits n is) (sound.nodes.tidy n is) l.slots (omega arith))
