-- What leaves the nodes and their permutations keeps these.
use Rattle.std.proofs.Common.{◌≡◌, ℕ, ◌<◌, ◌≤◌, ◌⊎◌, inl, inr, ⊎_elim, List, [], length, slice_index, refl, sym, ap, ◌∙◌, subst, arith}
use Rattle.std.proofs.lemmas.List.{get_or-set_other}
use Rattle.std.specs.List.Sorted.{IsPermutation, IsSortedBy}
use Rattle.std.proofs.lemmas.List.Sorted.{IsPermutation-refl}
use mathlib.Core.Option.{some}
use lib.ListN.{get_elem?}
use Rattle.pm_words.specs.declared.layout.Layout.{Layout}
use Rattle.pm_words.specs.Codes.{no_permutation}
use Rattle.pm_words.specs.Locations.{Volatile, address_of, cached_address, durable_address}
use Rattle.pm_words.specs.Rows.{evicted}
use Rattle.pm_words.specs.Offsets.{bitmap_offset}
use Rattle.cat_history.specs.Maps.{Map}
use Rattle.cat_history.specs.declared.op.Write.{Write}
use Rattle.version_lock.specs.Versions.{IsFree}
use Rattle.data_node.specs.Orders.{live_slots}
use Rattle.call_stages.specs.Stages.{Stage, Idle, Holds, Tells}
use Rattle.permutation.specs.Permutations.{first_slots, comes_first}
use Rattle.permutation.specs.Sortings.{Sorting, Unsorted, Storing, Stored, HoldsBy}
use Rattle.index_law.specs.Facts.{Facts}
use Rattle.index_law.specs.Worlds.{Party, facts}
use Rattle.index_law.specs.Lawful.{Sure}
use Rattle.permutation_law.specs.Permuted.{made_at, permutation_in, IsInOrder, Permuted, IsStored, SureSorting, IsPermuted}
use Rattle.permutation_law.specs.Laws.{IsSameNode, FramesPermute, EvictionsLeaveNodes, EvictionsPermute, IsOldOrEmpty, RestIsPermuted, IdleMayChange}
use Rattle.permutation_law.proofs.Columns.{IsLeft, left_by}
use Rattle.permutation_law.proofs.Steps.{none_free, order_same}
use Rattle.index_law.proofs.Evictions.{evict_facts, evict_law}

-- what a party is sure of, where its node is the same
sure_same : (l : Layout) (f f' : Facts) (words words' : List ℕ) (stage : Stage) (sorting : Sorting)
    → ((n lock : ℕ) → HoldsBy stage n lock → (f'.now n ≡ f.now n) × (made_at l words' n ≡ made_at l words n) × (permutation_in l words' n ≡ permutation_in l words n))
    → SureSorting l f words stage sorting → SureSorting l f' words' stage sorting
sure_same l f f' words words' stage Unsorted same sure = tt
sure_same l f f' words words' stage (Storing n lock seen) same sure = (sure.0, subst (Tells seen) (sym (same n lock sure.0).2) sure.1)
sure_same l f f' words words' stage (Stored n lock) same sure =
    let is = same n lock sure.0 in (sure.0, is.1 ∙ sure.1, order_same l words words' f f' n is.2 is.0 sure.2)

module _ (z : Permuted) (words : List ℕ) (parties : List Party) (base : Map) (history : List Write) (is : IsPermuted z) (same : (n : ℕ) → n < z.world.layout.nodes → IsSameNode z.world.layout z.world.words words n) where
  open z.world use {layout as l, generation as g}

  abbrev f' : Facts
  f' = facts (record (z.world) { words = words; parties = parties; base = base; history = history })

  -- free nodes' permutations serve as before
  still_serves : (n : ℕ) → n < l.nodes → IsFree (f'.version n) g → made_at l words n ≡ f'.version n → IsInOrder l words f' n
  still_serves n here free made =
      let node = same n here in
      order_same l z.world.words words (facts z.world) f' n node.permutation node.now
      (is.serves n here (subst (λ (v : ℕ). IsFree v g) node.version free) (sym node.made ∙ made ∙ node.version))

  -- and each is none, or old, unless some party has stored it
  still_made : (P : ℕ → Type 0) → ((n : ℕ) → n < l.nodes → IsStored z n → P n) → (n : ℕ) → n < l.nodes → (made_at l words n ≡ no_permutation) ⊎ ((made_at l words n ≤ f'.version n) ⊎ P n)
  still_made P stored n here =
      let node = same n here in
      let made = node.made in
      let version : f'.version n ≡ (facts z.world).version n = node.version in ⊎_elim
      (λ (none : made_at l z.world.words n ≡ no_permutation). inl (made ∙ none))
      (λ rest. inr (⊎_elim
      (λ (old : made_at l z.world.words n ≤ (facts z.world).version n). inl (omega arith))
      (λ (s : IsStored z n). inr (stored n here s))
      rest))
      (is.made n here)

pub frames_permute : FramesPermute
frames_permute z words parties base history is lawful alike same = record {
  lawful = lawful;
  serves = still_serves z words parties base history is same;
  made = still_made z words parties base history is same
      (IsStored (record { world = record (z.world) { words = words; parties = parties; base = base; history = history }; sortings = z.sortings }))
      (λ n here s. let q = alike.forth s.number s.party s.at in record { number = s.number; lock = s.lock; party = q.0; there = s.there; at = q.1 });
  sure = λ i s q at_i there_i.
      let l = z.world.layout in
      let f' = facts (record (z.world) { words = words; parties = parties; base = base; history = history }) in
      let p = alike.back i q there_i in
      subst (λ (stage : Stage). SureSorting l f' words stage s) (sym p.3)
      (sure_same l (facts z.world) f' z.world.words words p.0.stage s
      (λ n lock holds. let node = same n (held_here z i p.0 is p.1 n lock holds) in (node.now, node.made, node.permutation))
      (is.sure i s p.0 at_i p.1));
}
  where
    held_here : (z : Permuted) (i : ℕ) (p : Party) → IsPermuted z → get_elem? z.world.parties i ≡ some p → (n lock : ℕ) → HoldsBy p.stage n lock → n < z.world.layout.nodes
    held_here z i p is there n lock holds = (subst (Sure z.world.layout z.world.generation (facts z.world) p.caller p.index p.since) holds.1 (is.lawful.sure i p there)).here

-- the words of the nodes, volatile ones too, stand in front of the durable twins
pub evictions_leave : EvictionsLeaveNodes
evictions_leave w word n within =
    let l = w.layout in
    let x : ℕ = slice_index w.words (cached_address l word) in
    let facts_same = evict_facts w word in
    let left : IsLeft l w.words (evicted l w.words word) n = left_by l w.words (evicted l w.words word) n
    (λ offset low least most. get_or-set_other w.words (durable_address l word) (address_of l (Volatile n offset)) x 0 (λ e. absurd (omega (arith, e)))) in
    record {
      version = ap (λ (f : Facts). f.version n) facts_same;
      now = ap (λ (f : Facts). f.now n) facts_same;
      made = left.made;
      permutation = left.permutation;
    }

pub evictions_permute : EvictionsPermute
evictions_permute z word is within =
    frames_permute z (evicted z.world.layout z.world.words word) z.world.parties z.world.base z.world.history is (evict_law z.world word is.lawful within)
    (record { forth = λ i p there. (p, there, refl, refl); back = λ i p there. (p, there, refl, refl) })
    (λ n here. evictions_leave z.world word n within)

-- no slot is live, so none need be in order
none_in_order : (l : Layout) (words : List ℕ) (f : Facts) (n : ℕ) → live_slots (f.now n bitmap_offset) l.slots ≡ [] → IsInOrder l words f n
none_in_order l words f n none =
    let both = subst (λ (xs : List ℕ). IsPermutation xs (first_slots (permutation_in l words n) (length xs)) × IsSortedBy (comes_first (f.now n)) (first_slots (permutation_in l words n) (length xs))) (sym none)
    (IsPermutation-refl [], λ k d least most. absurd (omega arith)) in
    record { live = both.0; rising = both.1 }

unsorted_sure : (l : Layout) (f : Facts) (words : List ℕ) (stage : Stage) (s : Sorting) → s ≡ Unsorted → SureSorting l f words stage s
unsorted_sure l f words stage s none = subst (SureSorting l f words stage) (sym none) tt

pub rest_permuted : RestIsPermuted
rest_permuted w sortings lawful unsorted made = record {
  lawful = lawful;
  serves = λ n here free same. ⊎_elim
      (λ (none : made_at w.layout w.words n ≡ no_permutation). absurd (none_free w.generation lawful.run (subst (λ (v : ℕ). IsFree v w.generation) (sym same ∙ none) free)))
      (λ (old : IsOldOrEmpty w n). none_in_order w.layout w.words (facts w) n (old.empty same))
      (made n here);
  made = λ n here. ⊎_elim (λ none. inl none) (λ old. inr (inl old.old)) (made n here);
  sure = λ i s p at there. unsorted_sure w.layout (facts w) w.words p.stage s (unsorted i s at);
}

idle_holds : (stage : Stage) (n lock : ℕ) → stage ≡ Idle → HoldsBy stage n lock → ⊥
idle_holds stage n lock idle holds = let no : Idle ≡ Holds n lock holds.0 = sym idle ∙ holds.1 in cc

pub idle_may_change : IdleMayChange
idle_may_change z words parties base history sortings is idle lawful unsorted same = record {
  lawful = lawful;
  serves = still_serves z words parties base history is same;
  made = still_made z words parties base history is same
      (IsStored (record { world = record (z.world) { words = words; parties = parties; base = base; history = history }; sortings = sortings }))
      (λ n here s. absurd (idle_holds s.party.stage n s.lock (idle s.number s.party s.at) (is.sure s.number (Stored n s.lock) s.party s.there s.at).0));
  sure = λ i s p at there. unsorted_sure z.world.layout (facts (record (z.world) { words = words; parties = parties; base = base; history = history })) words p.stage s (unsorted i s at);
}
