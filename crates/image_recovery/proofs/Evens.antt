-- Words that become durable, by their numbers, and which words are even then.
use Rattle.std.proofs.Common.{◌≡◌, ◌≢◌, ℕ, ◌<◌, List, length, slice_index, slice_set, inl, inr, sym, subst, ◌∙◌, get_or-set_same, get_or-set_other, arith}
use Rattle.std.proofs.lemmas.Bool.{cases_eq}
use Rattle.std.proofs.lemmas.List.{set-get_or}
use Rattle.pm_words.specs.declared.layout.Layout.{Layout}
use Rattle.pm_words.specs.declared.fence.FenceAt.{FenceAt}
use Rattle.pm_words.specs.declared.fence.FenceAt.TheVariants as fence
use Rattle.pm_words.specs.Locations.{Word, Location, Cached, HasWord, HasLocation, IsVolatile, address_of, part_of_address, behind_start, row_parts, image_words, row_words, volatile_words, cached_address, durable_address}
use Rattle.pm_words.specs.declared.action.Action.TheVariants.{Store}
use Rattle.pm_words.specs.Rows.{acted, evicted}
use Rattle.pm_words.proofs.Apart.{address_fits, at-set_other}
use Rattle.pm_words.proofs.Parts.{earlier}
use Rattle.image_recovery.specs.MakingLaw.{IsEvenAt, HasInHand, IsClearBeside}

module _ (l : Layout) (words : List ℕ) (word : ℕ) (whole : length words ≡ row_words l) (within : word < image_words l) where
  -- the cached words stay
  pub cached_stays : (other : ℕ) → other < image_words l → slice_index (evicted l words word) (cached_address l other) ≡ slice_index words (cached_address l other)
  cached_stays other small =
      let apart : cached_address l other ≢ durable_address l word = omega arith in
      get_or-set_other words (durable_address l word) (cached_address l other) (slice_index words (cached_address l word)) 0 apart

  -- this word is even from then on, and one that was stays so
  pub even_now : IsEvenAt l (evicted l words word) word
  even_now =
      let inside : durable_address l word < length words = omega arith in
      get_or-set_same words (durable_address l word) (slice_index words (cached_address l word)) 0 inside ∙ sym (cached_stays word within)

  pub even_still : (other : ℕ) → other < image_words l → IsEvenAt l words other → IsEvenAt l (evicted l words word) other
  even_still other small even = elim (cases_eq other word) as (λ _. IsEvenAt l (evicted l words word) other) [
    | inl same ↦ subst (IsEvenAt l (evicted l words word)) (sym same) even_now
    | inr ne ↦
        let apart : durable_address l other ≢ durable_address l word = omega (arith, ne) in
        get_or-set_other words (durable_address l word) (durable_address l other) (slice_index words (cached_address l word)) 0 apart ∙ even ∙ sym (cached_stays other small)
  ]

  -- what is in hand still is
  pub hand_stays : (other : ℕ) → other < image_words l → (hand : FenceAt) → HasInHand l words other hand → HasInHand l (evicted l words word) other hand
  hand_stays other small fence.Load has = tt
  hand_stays other small (fence.Drain value) has = cached_stays other small ∙ has

-- A volatile word stands in front of all twins,
volatile_before : (l : Layout) (p : Location) → HasLocation l p → IsVolatile p → address_of l p < volatile_words l
volatile_before l p has volatile = let before = earlier (row_parts l) (part_of_address p) 3 (behind_start l p) 0 (address_fits l p has) volatile in omega arith

-- so that it stays 0, whatever becomes durable,
pub clear_evicts : (l : Layout) (words : List ℕ) (word : ℕ) → length words ≡ row_words l → word < image_words l → IsClearBeside l words → IsClearBeside l (evicted l words word)
clear_evicts l words word whole within clear p has volatile outside =
    let before = volatile_before l p has volatile in
    let apart : address_of l p ≢ durable_address l word = omega arith in
    get_or-set_other words (durable_address l word) (address_of l p) (slice_index words (cached_address l word)) 0 apart ∙ clear p has volatile outside

-- and under a store into a word of the image
pub clear_stored : (l : Layout) (words : List ℕ) (place : Word) (value : ℕ) → HasWord l place → IsClearBeside l words → IsClearBeside l (acted l words (Store (address_of l (Cached place)) value))
clear_stored l words place value has clear p is volatile outside =
    at-set_other l words (Cached place) p value has is (λ e. let three : 3 < 3 = subst IsVolatile e volatile in absurd (omega arith)) ∙ clear p is volatile outside

-- a load leaves the words
pub load_leaves : (words : List ℕ) (address : ℕ) → slice_set words address (slice_index words address) ≡ words
load_leaves words address = set-get_or words address 0
