-- Each turn of the machine that stores a permutation is a store by who holds the node.
use Rattle.std.proofs.Common.{◌≡◌, ℕ, zero, suc, ◌+◌, ◌<◌, ◌≤◌, inl, inr, true, false, cond, List, length, slice_index, refl, sym, ap, ◌∙◌, subst, arith}
use Rattle.std.specs.Prelude.{nat_lt}
use Rattle.std.proofs.lemmas.Bool.{ltb-true, ltb-false}
use Rattle.std.specs.List.Sorted.{IsPermutation, IsSortedBy}
use Rattle.pm_words.specs.declared.action.Action.TheVariants.{Store}
use Rattle.pm_words.specs.declared.machine.Turn.TheVariants.{Go, Done}
use Rattle.pm_words.specs.Offsets.{bitmap_offset}
use Rattle.data_node.specs.Spots.{Spot, updated}
use Rattle.data_node.proofs.SpotLemmas.{updated-same, updated-other}
use Rattle.call_stages.specs.Stages.{Held, Holds, Tells}
use Rattle.call_stages.specs.AnySteps.{IsOnPermutation, loads, stores as stores_one}
use Rattle.call_stages.specs.Footings.{on_permutation}
use Rattle.permutation.specs.declared.store.StorePermutation.{StorePermutation}
use Rattle.permutation.specs.declared.load.LoadPermutationAt.{LoadPermutationAt}
use Rattle.permutation.specs.declared.load.LoadPermutationAt.TheVariants.{Version, Word}
use Rattle.permutation.specs.Permutations.{comes_first, live_in, placed_in, IsPermutationOf}
use Rattle.permutation.specs.Sortings.{Sorts, begins, stores, ends, SortsAreSteps, permutation_address, permutation_version_address}
use Rattle.permutation.specs.Stores.{words_first, sorting_at, sorting_after, IsStore, TellsOrder, StoresAreSorts}
use Rattle.permutation.specs.Loads.{IsLoadAt, load_at_asks, LoadsAreOnPermutations}
use Rattle.permutation.proofs.Places.{slots_same, live_few}

-- what is known of earlier words stands
earlier : (words : List ℕ) (n k y : ℕ) (q : ℕ → ℕ) → n ≤ k → Tells (words_first words n) q → Tells (words_first words n) (updated q k y)
earlier words zero k y q few tells = tt
earlier words (suc n) k y q few tells = (updated-other q k y n (λ e. omega arith) ∙ tells.0, earlier words n k y q (omega arith) tells.1)

-- with the next word one more is known
one_more : (words : List ℕ) (k : ℕ) (q : ℕ → ℕ) → Tells (words_first words k) q → Tells (words_first words (suc k)) (updated q k (slice_index words k))
one_more words k q tells = (updated-same q k (slice_index words k), earlier words k k (slice_index words k) q (omega arith) tells)

-- each word that is known
pub known_at : (words : List ℕ) (n k : ℕ) (q : ℕ → ℕ) → Tells (words_first words n) q → k < n → q k ≡ slice_index words k
known_at words zero k q tells within = absurd (omega arith)
known_at words (suc n) k q tells within = elim (nat_lt k n) as (λ b. nat_lt k n ≡ b → q k ≡ slice_index words k) [
  | true ↦ λ low. known_at words n k q tells.1 (ltb-true k n low)
  | false ↦ λ high.
      let least = ltb-false k n high in
      let same : k ≡ n = omega arith in
      ap q same ∙ tells.0 ∙ ap (slice_index words) (sym same)
] refl

-- words that are alike are one permutation
alike : (slots : ℕ) (q r : ℕ → ℕ) (s : Spot) → slots ≤ 64 → ((k : ℕ) → k < 8 → q k ≡ r k) → IsPermutationOf slots r s → IsPermutationOf slots q s
alike slots q r s few same is =
    let count = live_few (s bitmap_offset) slots in
    let places : placed_in slots q s ≡ placed_in slots r s = slots_same q r same (length (live_in slots s)) (omega arith) in
    record {
      live = subst (IsPermutation (live_in slots s)) (sym places) is.live;
      rising = subst (IsSortedBy (comes_first s)) (sym places) is.rising;
    }

stores_at : (store : StorePermutation) (h : Held) (x n : ℕ) → store.stored ≡ n → IsStore store → TellsOrder store.layout.slots h store.words
    → Sorts store.layout (Holds store.node store.locked h) (sorting_at store.node store.locked store.words n)
    (cond (nat_lt n 8) (Store (permutation_address store.layout store.node n) (slice_index store.words n)) (Store (permutation_version_address store.layout store.node) (store.locked + 1)))
    (sorting_after store (cond (nat_lt n 8) (Go (record store { stored = n + 1 })) (Done tt)))
stores_at store h x zero is sound order = begins sound.node (omega arith) (order.fits 0 (omega arith)) (λ words. (updated-same words 0 (slice_index store.words 0), tt))
stores_at store h x (suc k) is sound order = elim (nat_lt (suc k) 8) as (λ b. nat_lt (suc k) 8 ≡ b
    → Sorts store.layout (Holds store.node store.locked h) (sorting_at store.node store.locked store.words (suc k))
    (cond b (Store (permutation_address store.layout store.node (suc k)) (slice_index store.words (suc k))) (Store (permutation_version_address store.layout store.node) (store.locked + 1)))
    (sorting_after store (cond b (Go (record store { stored = suc k + 1 })) (Done tt)))) [
      | true ↦ λ low.
          let small = ltb-true (suc k) 8 low in
          let next : suc (suc k) ≡ suc k + 1 = omega arith in
          subst (λ (n : ℕ). Sorts store.layout (Holds store.node store.locked h) (sorting_at store.node store.locked store.words (suc k)) (Store (permutation_address store.layout store.node (suc k)) (slice_index store.words (suc k))) (sorting_at store.node store.locked store.words n)) next
          (stores sound.node small (order.fits (suc k) small) (λ words tells. one_more store.words (suc k) words tells))
      | false ↦ λ high.
          let least = ltb-false (suc k) 8 high in
          let few = sound.few in
          let whole : suc k ≡ 8 = omega arith in
          let unworn = sound.lock.fits in
          let locked = sound.lock.locked in
          ends sound.node refl (omega arith) (λ words s tidy knows tells.
          alike store.layout.slots words (λ j. slice_index store.words j) s (let most = sound.layout.slots in omega arith)
          (λ j within. known_at store.words (suc k) j words tells (omega arith)) (order.order s tidy knows))
    ] refl

pub stores_are : StoresAreSorts
stores_are store h x sound order = stores_at store h x store.stored refl sound order

pub sorts_are_steps : SortsAreSteps
sorts_are_steps l g c stage line debt sorting after action x (begins here low fits tells) none = on_permutation none (stores_one here (inr (omega arith, omega arith)) fits)
sorts_are_steps l g c stage line debt sorting after action x (stores here low fits tells) none = on_permutation none (stores_one here (inr (omega arith, omega arith)) fits)
sorts_are_steps l g c stage line debt sorting after action x (ends here next fits order) none = on_permutation none (stores_one here (inl refl) fits)

pub loads_are : LoadsAreOnPermutations
loads_are load sound = of load.at sound.here
  where
    of : (at : LoadPermutationAt) → IsLoadAt at → IsOnPermutation load.layout (load_at_asks load.layout load.node at)
    of Version here = loads sound.node (inl refl)
    of (Word number) here = loads sound.node (inr (omega arith, omega arith))
