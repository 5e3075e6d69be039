-- Steps of parties keep the permutations of the nodes.
use Rattle.std.proofs.Common.{◌≡◌, ◌≢◌, ℕ, ◌<◌, ◌≤◌, ◌+◌, ◌^◌, ◌⊎◌, inl, inr, ⊎_elim, List, length, slice_set, refl, sym, ap, ◌∙◌, subst, arith}
use Rattle.std.specs.Prelude.{Option}
use Rattle.std.proofs.lemmas.Bool.{cases_eq}
use Rattle.std.proofs.lemmas.List.{set-get_or}
use mathlib.Core.Option.{some, some-injective}
use lib.ListN.{get_elem?}
use Rattle.pm_words.specs.declared.layout.Layout.{Layout}
use Rattle.pm_words.specs.declared.action.Action.{Action}
use Rattle.pm_words.specs.declared.action.Action.TheVariants.{Load, Store}
use Rattle.pm_words.specs.Codes.{no_permutation}
use Rattle.pm_words.specs.Locations.{Node, Location, Cached, at, row_words}
use Rattle.pm_words.specs.Rows.{acted, got}
use Rattle.pm_words.proofs.Apart.{at-set_other, at-set_same}
use Rattle.pm_words.specs.Offsets.{version_offset}
use Rattle.version_lock.specs.Versions.{IsFree, IsGeneration}
use Rattle.call_stages.specs.declared.once.Once.{Once}
use Rattle.call_stages.specs.declared.once.Placed.{Placed}
use Rattle.call_stages.specs.Kinds.{version_address}
use Rattle.call_stages.specs.Stages.{Stage, HoldsNode, Tells}
use Rattle.call_stages.specs.AnySteps.{AnyStep, on_nodes, beside}
use Rattle.permutation.specs.Permutations.{IsPermutationOf}
use Rattle.permutation.specs.Sortings.{Sorting, Unsorted, Storing, Stored, HoldsBy, Keeps, has_none, lets_go, goes_on, waits, gives_back}
use Rattle.index_law.specs.Facts.{Facts, version_in, spot_in}
use Rattle.index_law.specs.Worlds.{Party, World, facts, stepped, moved_on}
use Rattle.index_law.specs.Lawful.{Lawful, Sure}
use Rattle.index_law.specs.Standing.{StandLaw}
use Rattle.permutation_law.specs.Permuted.{made_at, permutation_in, IsInOrder, Permuted, IsStored, SureSorting, IsPermuted}
use Rattle.permutation_law.specs.Laws.{Spares, StepsPermute}
use Rattle.permutation_law.proofs.Columns.{IsLeft, left_by_nodes, left_beside}
use Rattle.index_law.proofs.AnySteps.{any_keeps, beside_keeps}
use Rattle.index_law.proofs.Locks.{steadies}
use Rattle.index_law.proofs.Moves.{gives, facts_step}
use Rattle.index_law.proofs.Own.{allow_law, sure_within}
use Rattle.index_law.proofs.Parties.{at_set, set_here, set_else}
use Rattle.index_law.proofs.Rows.{version_in-here, spot_in-alike}
use Rattle.index_law.proofs.Standing.{free_nodes_stand}

-- a permutation that was never made is of no free word
pub none_free : (g : ℕ) → IsGeneration g → IsFree no_permutation g → ⊥
none_free g run (inl earlier) = let fits = run.fits in omega arith
none_free g run (inr even) = omega arith

-- who holds a node has its version word
pub stands_at : (l : Layout) (g : ℕ) (f : Facts) (caller index since n lock : ℕ) (stage : Stage) → HoldsBy stage n lock → Sure l g f caller index since stage → f.version n ≡ lock
stands_at l g f caller index since n lock stage holds sure = (subst (Sure l g f caller index since) holds.1 sure).stands

pub holds_node : (n lock : ℕ) (stage : Stage) → HoldsBy stage n lock → HoldsNode stage n
holds_node n lock stage holds = subst (λ (s : Stage). HoldsNode s n) (sym holds.1) refl

-- the words of a node that another party holds stay
held_stays : (w : World) (i j : ℕ) (p q : Party) (n : ℕ) (a : Action) (x : ℕ) (t : Stage) (r : Option (Once Placed)) → Lawful w → i ≢ j → get_elem? w.parties i ≡ some p → get_elem? w.parties j ≡ some q → HoldsNode q.stage n
    → AnyStep w.layout w.generation p.stage a x t r → x ≡ got w.layout w.words a → (facts (stepped w i p a t)).now n ≡ (facts w).now n
held_stays w i j p q n a x t r lawful ne there other held (on_nodes k) told =
    let l = w.layout in
    let known = lawful.sure i p there in
    let given = gives w.words w.base w.history p.caller p.index p.since k lawful.clock told known in
    let same = facts_step w.words w.base w.history p.caller p.index p.since k lawful.row lawful.list told known in
    ap (λ (f : Facts). f.now n) same
    ∙ (steadies (facts w) p.caller p.index p.since k given lawful.list known q.caller q.index q.since q.stage
    (λ m mine theirs. ne (lawful.alone i j m p q there other mine theirs)) (lawful.sure j q other) n held).now
held_stays w i j p q n a x t r lawful ne there other held (beside none is) told =
    ap (λ (f : Facts). f.now n) (beside_keeps w i p a lawful there none is).facts

-- the permutations are as they were
pub steps_leave : (w : World) (i : ℕ) (p : Party) (a : Action) (x : ℕ) (t : Stage) (r : Option (Once Placed)) → Lawful w → get_elem? w.parties i ≡ some p → (k : AnyStep w.layout w.generation p.stage a x t r)
    → Spares k → (n : ℕ) → IsLeft w.layout w.words (acted w.layout w.words a) n
steps_leave w i p a x t r lawful there (on_nodes k) spares n =
    left_by_nodes w.layout w.words p.stage a n (allow_law w.layout w.generation p.stage a x t r (sure_within w.layout w.generation (facts w) p.caller p.index p.since p.stage (lawful.sure i p there)) k)
steps_leave w i p a x t r lawful there (beside none is) spares n = left_beside w.layout w.words a n is spares

-- a store of a node's version word leaves its other words,
spot_stays : (l : Layout) (words : List ℕ) (n y : ℕ) → n < l.nodes → spot_in l (slice_set words (version_address l n) y) n ≡ spot_in l words n
spot_stays l words n y here = λ i offset. spot_in-alike l words (slice_set words (version_address l n) y) n offset
    (λ has positive. at-set_other l words (Cached (Node n version_offset)) (Cached (Node n offset)) y (here, omega arith) has (λ e. let no : offset ≡ version_offset = ap offset_in e in omega arith)) i
  where
    offset_in : Location → ℕ
    offset_in (Cached (Node m o)) = o
    offset_in _ = 0

-- and makes it that word
version_is : (l : Layout) (words : List ℕ) (n y : ℕ) → length words ≡ row_words l → n < l.nodes → version_in l (slice_set words (version_address l n) y) n ≡ y
version_is l words n y whole here = version_in-here l (slice_set words (version_address l n) y) n here ∙ at-set_same l words (Cached (Node n version_offset)) y whole (here, omega arith)

abbrev node_of : Sorting → ℕ
node_of Unsorted = 0
node_of (Storing n lock seen) = n
node_of (Stored n lock) = n

abbrev lock_of : Sorting → ℕ
lock_of Unsorted = 0
lock_of (Storing n lock seen) = lock
lock_of (Stored n lock) = lock

-- words of a permutation in order, read of other words alike
pub order_same : (l : Layout) (words words' : List ℕ) (f f' : Facts) (n : ℕ) → permutation_in l words' n ≡ permutation_in l words n → f'.now n ≡ f.now n → IsInOrder l words f n → IsInOrder l words' f' n
order_same l words words' f f' n permutation now order = subst (λ (q : ℕ → ℕ). IsPermutationOf l.slots q (f'.now n)) (sym permutation) (subst (IsPermutationOf l.slots (permutation_in l words n)) (sym now) order)

-- a permutation that is stored waits, by loads, until its node is given back
record IsWaiting (a : Action) (t : Stage) (after : Sorting) (n lock : ℕ) : Type 0 where
  holds : HoldsBy t n lock
  stays : after ≡ Stored n lock

keeps_stored : (l : Layout) (sorting after : Sorting) (a : Action) (t : Stage) (n lock : ℕ) → sorting ≡ Stored n lock → Keeps l sorting a t after → IsWaiting a t after n lock ⊎ (a ≡ Store (version_address l n) (lock + 1))
keeps_stored l sorting after a t n lock same has_none = absurd (cc)
keeps_stored l sorting after a t n lock same lets_go = absurd (cc)
keeps_stored l sorting after a t n lock same (goes_on next) = absurd (cc)
keeps_stored l sorting after a t n lock same (waits {n = m} {lock = w} next) =
    let node : m ≡ n = ap node_of same in
    let word : w ≡ lock = ap lock_of same in
    inl (record { holds = subst (λ (v : ℕ). HoldsBy t v lock) node (subst (HoldsBy t m) word next); stays = same })
keeps_stored l sorting after a t n lock same (gives_back {n = m} {lock = w} {freed = y} back) =
    let node : m ≡ n = ap node_of same in
    let word : w ≡ lock = ap lock_of same in
    inr (λ i. Store (version_address l (node i)) ((back ∙ ap (λ v. v + 1) word) i))

-- what a party has of a permutation behind its own step
own_sure : (l : Layout) (f f' : Facts) (words words' : List ℕ) (s t : Stage) (a : Action) (sorting after : Sorting) → ((n : ℕ) → IsLeft l words words' n) → ((address : ℕ) → a ≡ Load address → (n : ℕ) → f'.now n ≡ f.now n)
    → SureSorting l f words s sorting → Keeps l sorting a t after → SureSorting l f' words' t after
own_sure l f f' words words' s t a sorting after left loaded sure has_none = tt
own_sure l f f' words words' s t a sorting after left loaded sure lets_go = tt
own_sure l f f' words words' s t a sorting after left loaded sure (goes_on {n = n} {seen = seen} next) = (next, subst (Tells seen) (sym (left n).permutation) sure.1)
own_sure l f f' words words' s t a sorting after left loaded sure (waits {n = n} {address = address} next) =
    (next, (left n).made ∙ sure.1, order_same l words words' f f' n (left n).permutation (loaded address refl n) sure.2)
own_sure l f f' words words' s t a sorting after left loaded sure (gives_back back) = tt

module _ (z : Permuted) (i : ℕ) (p : Party) (a : Action) (x : ℕ) (t : Stage) (r : Option (Once Placed)) (is : IsPermuted z) (there : get_elem? z.world.parties i ≡ some p)
    (k : AnyStep z.world.layout z.world.generation p.stage a x t r) (spares : Spares k) (told : x ≡ got z.world.layout z.world.words a) (room : length z.world.history < 2 ^ 63) where
  open z.world use {layout as l, generation as g, words}

  abbrev f : Facts
  f = facts z.world

  abbrev f' : Facts
  f' = facts (stepped z.world i p a t)

  abbrev words' : List ℕ
  words' = acted l words a

  lawful' : Lawful (stepped z.world i p a t)
  lawful' = (any_keeps z.world i p a x t r is.lawful there k told room).kept

  left : (n : ℕ) → IsLeft l words words' n
  left n = steps_leave z.world i p a x t r is.lawful there k spares n

  stand : (n : ℕ) → n < l.nodes → StandLaw z.world (stepped z.world i p a t) n
  stand n here = free_nodes_stand z.world i p a x t r is.lawful there k told n here

  -- the version word of a node that a party holds
  was_at : (n lock : ℕ) → HoldsBy p.stage n lock → f.version n ≡ lock
  was_at n lock holds = stands_at l g f p.caller p.index p.since n lock p.stage holds (is.lawful.sure i p there)

  is_at : (n lock : ℕ) → HoldsBy t n lock → f'.version n ≡ lock
  is_at n lock holds = stands_at l g f' p.caller p.index p.since n lock t holds (lawful'.sure i (moved_on p t) (set_here z.world.parties i (moved_on p t) p there))

  others_at : (j n lock : ℕ) (q : Party) → j ≢ i → get_elem? z.world.parties j ≡ some q → HoldsBy q.stage n lock → (f.version n ≡ lock) × (f'.version n ≡ lock)
  others_at j n lock q other at holds = (
    stands_at l g f q.caller q.index q.since n lock q.stage holds (is.lawful.sure j q at),
    stands_at l g f' q.caller q.index q.since n lock q.stage holds (lawful'.sure j q (set_else z.world.parties i j (moved_on p t) other ∙ at)),
  )

  -- a step that leads away from a permutation that is stored gives its node back
  given_back : (n lock : ℕ) (sorting after : Sorting) → sorting ≡ Stored n lock → Keeps l sorting a t after → HoldsBy p.stage n lock → n < l.nodes → f.version n < f'.version n → f'.now n ≡ f.now n
  given_back n lock sorting after same keeps holds here rises = ⊎_elim
      (λ (waiting : IsWaiting a t after n lock).
      let now = is_at n lock waiting.holds in
      let was = was_at n lock holds in
      absurd (omega arith))
      (λ (back : a ≡ Store (version_address l n) (lock + 1)). ap (λ v. spot_in l v n) (ap (acted l words) back) ∙ spot_stays l words n (lock + 1) here)
      (keeps_stored l sorting after a t n lock same keeps)

  stored_serves : (sorting after : Sorting) → get_elem? z.sortings i ≡ some sorting → Keeps l sorting a t after → (n : ℕ) → n < l.nodes → f.version n < f'.version n → IsStored z n → IsInOrder l words' f' n
  stored_serves sorting after at keeps n here rises s =
      let sure = is.sure s.number (Stored n s.lock) s.party s.there s.at in
      ⊎_elim
      (λ (one : s.number ≡ i).
      let mine : sorting ≡ Stored n s.lock = some-injective _ _ (sym at ∙ ap (get_elem? z.sortings) (sym one) ∙ s.there) in
      let own : s.party ≡ p = some-injective _ _ (sym s.at ∙ ap (get_elem? z.world.parties) one ∙ there) in
      let holds : HoldsBy p.stage n s.lock = subst (λ (q : Party). HoldsBy q.stage n s.lock) own sure.0 in
      order_same l words words' f f' n (left n).permutation (given_back n s.lock sorting after mine keeps holds here rises) sure.2)
      (λ (other : s.number ≢ i). let both = others_at s.number n s.lock s.party other s.at sure.0 in absurd (omega (arith, both)))
      (cases_eq s.number i)

  serves : (sorting after : Sorting) → get_elem? z.sortings i ≡ some sorting → Keeps l sorting a t after → (n : ℕ) → n < l.nodes → IsFree (f'.version n) g → made_at l words' n ≡ f'.version n → IsInOrder l words' f' n
  serves sorting after at keeps n here free same = ⊎_elim
      (λ (stays : f'.version n ≡ f.version n).
      let was : IsFree (f.version n) g = subst (λ (v : ℕ). IsFree v g) stays free in
      order_same l words words' f f' n (left n).permutation ((stand n here).stays was stays).words (is.serves n here was (sym (left n).made ∙ same ∙ stays)))
      (λ (other : f'.version n ≢ f.version n).
      let rises = (stand n here).rises in
      let above : f.version n < f'.version n = omega arith in
      let made = (left n).made in ⊎_elim
      (λ (none : made_at l words n ≡ no_permutation). absurd (none_free g is.lawful.run (subst (λ (v : ℕ). IsFree v g) (sym same ∙ made ∙ none) free)))
      (λ rest. ⊎_elim
      (λ (old : made_at l words n ≤ f.version n). absurd (omega arith))
      (λ (stored : IsStored z n). stored_serves sorting after at keeps n here above stored)
      rest)
      (is.made n here))
      (cases_eq (f'.version n) (f.version n))

  -- a permutation that is stored stays so until its node is given back
  still_stored : (n lock : ℕ) (sorting after : Sorting) → sorting ≡ Stored n lock → get_elem? z.sortings i ≡ some sorting → Keeps l sorting a t after → n < l.nodes → made_at l words n ≡ lock + 1
      → (made_at l words' n ≤ f'.version n) ⊎ IsStored (record { world = stepped z.world i p a t; sortings = slice_set z.sortings i after }) n
  still_stored n lock sorting after same here_s keeps here made = ⊎_elim
      (λ (waiting : IsWaiting a t after n lock). inr (record {
        number = i;
        lock = lock;
        party = moved_on p t;
        there = set_here z.sortings i after sorting here_s ∙ ap some waiting.stays;
        at = set_here z.world.parties i (moved_on p t) p there;
      }))
      (λ (back : a ≡ Store (version_address l n) (lock + 1)).
      let now : version_in l words' n ≡ lock + 1 = ap (λ v. version_in l v n) (ap (acted l words) back) ∙ version_is l words n (lock + 1) is.lawful.row.whole here in
      let stays = (left n).made in
      inl (omega arith))
      (keeps_stored l sorting after a t n lock same keeps)

  made_stays : (sorting after : Sorting) → get_elem? z.sortings i ≡ some sorting → Keeps l sorting a t after → (n : ℕ) → n < l.nodes
      → (made_at l words' n ≡ no_permutation) ⊎ ((made_at l words' n ≤ f'.version n) ⊎ IsStored (record { world = stepped z.world i p a t; sortings = slice_set z.sortings i after }) n)
  made_stays sorting after at keeps n here =
      let made = (left n).made in
      let rises = (stand n here).rises in ⊎_elim
      (λ (none : made_at l words n ≡ no_permutation). inl (made ∙ none))
      (λ rest. inr (⊎_elim
      (λ (old : made_at l words n ≤ f.version n). inl (omega arith))
      (λ (s : IsStored z n).
      let sure = is.sure s.number (Stored n s.lock) s.party s.there s.at in ⊎_elim
      (λ (one : s.number ≡ i).
      still_stored n s.lock sorting after (some-injective _ _ (sym at ∙ ap (get_elem? z.sortings) (sym one) ∙ s.there)) at keeps here sure.1)
      (λ (other : s.number ≢ i). inr (record {
        number = s.number;
        lock = s.lock;
        party = s.party;
        there = set_else z.sortings i s.number after other ∙ s.there;
        at = set_else z.world.parties i s.number (moved_on p t) other ∙ s.at;
      }))
      (cases_eq s.number i))
      rest))
      (is.made n here)

  -- a load leaves the words of the nodes
  now_loaded : (address : ℕ) → a ≡ Load address → (n : ℕ) → f'.now n ≡ f.now n
  now_loaded address loads n = ap (λ v. spot_in l v n) (ap (acted l words) loads ∙ set-get_or words address 0)

  -- what another party has
  others_sure : (j : ℕ) (q : Party) → i ≢ j → get_elem? z.world.parties j ≡ some q → (sorting : Sorting) → SureSorting l f words q.stage sorting → SureSorting l f' words' q.stage sorting
  others_sure j q ne at Unsorted sure = tt
  others_sure j q ne at (Storing n lock seen) sure = (sure.0, subst (Tells seen) (sym (left n).permutation) sure.1)
  others_sure j q ne at (Stored n lock) sure = (
    sure.0,
    (left n).made ∙ sure.1,
    order_same l words words' f f' n (left n).permutation (held_stays z.world i j p q n a x t r is.lawful ne there at (holds_node n lock q.stage sure.0) k told) sure.2,
  )

pub steps_permute : StepsPermute
steps_permute z i p a x t r sorting after is there at k spares told room keeps = record {
  lawful = lawful' z i p a x t r is there k spares told room;
  serves = serves z i p a x t r is there k spares told room sorting after at keeps;
  made = made_stays z i p a x t r is there k spares told room sorting after at keeps;
  sure = λ j s q at_j there_j. ⊎_elim
      (λ (one : (j ≡ i) × (moved_on p t ≡ q)). ⊎_elim
      (λ (same : (j ≡ i) × (after ≡ s)).
      subst (λ (d : Party). SureSorting z.world.layout (facts (stepped z.world i p a t)) (acted z.world.layout z.world.words a) d.stage s) one.1
      (subst (SureSorting z.world.layout (facts (stepped z.world i p a t)) (acted z.world.layout z.world.words a) t) same.1
      (own_sure z.world.layout (facts z.world) (facts (stepped z.world i p a t)) z.world.words (acted z.world.layout z.world.words a) p.stage t a sorting after
      (steps_leave z.world i p a x t r is.lawful there k spares) (now_loaded z i p a x t r is there k spares told room) (is.sure i sorting p at there) keeps)))
      (λ (other : (j ≢ i) × (get_elem? z.sortings j ≡ some s)). absurd (other.0 one.0))
      (at_set z.sortings i j after s at_j))
      (λ (other : (j ≢ i) × (get_elem? z.world.parties j ≡ some q)). ⊎_elim
      (λ (same : (j ≡ i) × (after ≡ s)). absurd (other.0 same.0))
      (λ (was : (j ≢ i) × (get_elem? z.sortings j ≡ some s)).
      others_sure z i p a x t r is there k spares told room j q (λ e. other.0 (sym e)) other.1 s (is.sure j s q was.1 other.1))
      (at_set z.sortings i j after s at_j))
      (at_set z.world.parties i j (moved_on p t) q there_j);
}
