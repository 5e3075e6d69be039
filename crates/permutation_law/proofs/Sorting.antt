-- Stores of permutations keep those of the nodes, and all that is said of nodes.
use Rattle.std.proofs.Common.{◌≡◌, ◌≢◌, ℕ, ◌<◌, ◌≤◌, ◌+◌, ◌^◌, ◌⊎◌, inl, inr, ⊎_elim, List, length, slice_set, refl, sym, ap, ◌∙◌, subst, arith}
use Rattle.std.proofs.lemmas.Bool.{cases_eq}
use mathlib.Core.Option.{some, some-injective}
use lib.ListN.{get_elem?}
use Rattle.pm_words.specs.declared.layout.Layout.{Layout}
use Rattle.pm_words.specs.declared.action.Action.{Action}
use Rattle.pm_words.specs.declared.action.Action.TheVariants.{Store}
use Rattle.pm_words.specs.Codes.{no_permutation}
use Rattle.pm_words.specs.Locations.{Volatile, Cached, Clock, HasLocation, address_of, row_words}
use Rattle.pm_words.specs.Rows.{CanAct}
use Rattle.pm_words.proofs.Apart.{at-set_same, at-set_other, addresses_within}
use Rattle.pm_words.proofs.Kept.{acted_row, outside_header}
use Rattle.version_lock.specs.Versions.{IsFree}
use Rattle.data_node.specs.Spots.{updated}
use Rattle.data_node.proofs.SpotLemmas.{updated-same, updated-other}
use Rattle.pm_words.specs.Offsets.{status_offset, permutation_version_offset}
use Rattle.call_stages.specs.Stages.{Stage, Held, Holds, HoldsNode, Tells}
use Rattle.permutation.specs.Sortings.{Sorting, Unsorted, Storing, Stored, Sorts, begins, stores, ends, permutation_address, permutation_version_address}
use Rattle.index_law.specs.Facts.{Facts}
use Rattle.index_law.specs.Worlds.{Party, World, facts}
use Rattle.index_law.specs.Lawful.{Lawful, IsOwnLock, SureHolds, Sure}
use Rattle.permutation_law.specs.Permuted.{made_at, permutation_in, IsInOrder, Permuted, IsStored, SureSorting, IsPermuted}
use Rattle.permutation_law.specs.Laws.{SortLaw, SortsPermute}
use Rattle.permutation_law.proofs.Columns.{IsLeft, left_stored, made_at-here, made_at-alike, permutation_in-here, permutation_in-alike, permutations_alike}
use Rattle.permutation_law.proofs.Steps.{holds_node, order_same}
use Rattle.index_law.proofs.Noting.{beside_law}
use Rattle.index_law.proofs.Parties.{at_set, set_here, set_else}
use Rattle.index_law.proofs.Rows.{facts-elsewhere}
use Rattle.index_law.proofs.Twins.{nearer, store_closer}
use Rattle.index_law.proofs.Versions.{unfree}
use Rattle.index_law.proofs.Places.{node_at, offset_at}

-- a store of a volatile word past the stamp
module _ (w : World) (lawful : Lawful w) (n offset y : ℕ) (here : n < w.layout.nodes) (least : 2 < offset) (most : offset < 16) (fits : y < 2 ^ 64) where
  abbrev stored : List ℕ
  stored = slice_set w.words (address_of w.layout (Volatile n offset)) y

  has : HasLocation w.layout (Volatile n offset)
  has = (here, most)

  pub store_can : CanAct w.layout w.words (Store (address_of w.layout (Volatile n offset)) y)
  store_can = ((addresses_within w.layout (Volatile n offset) has, outside_header w.layout (Volatile n offset) has (λ k lt. (λ e. cc, λ e. cc))), fits)

  pub store_facts : facts (record w { words = stored }) ≡ facts w
  store_facts = facts-elsewhere w.layout w.words w.base w.history (Volatile n offset) y has (λ m o e. cc, λ m e. let no : offset ≡ status_offset = ap offset_at e in omega arith)

  pub store_lawful : Lawful (record w { words = stored })
  store_lawful = beside_law w stored lawful
      (acted_row w.layout w.words (Store (address_of w.layout (Volatile n offset)) y) lawful.row store_can)
      store_facts
      (nearer w.layout w.words stored (store_closer w.layout w.words (Volatile n offset) y has (λ v e. cc)))
      (at-set_other w.layout w.words (Volatile n offset) Clock y has tt (λ e. cc))
      (λ v there none. at-set_other w.layout w.words (Volatile n offset) (Cached v) y has there (λ e. cc))

-- those of the other nodes stay
pub else_left : (l : Layout) (words : List ℕ) (n offset y m : ℕ) → n < l.nodes → offset < 16 → m ≢ n → IsLeft l words (slice_set words (address_of l (Volatile n offset)) y) m
else_left l words n offset y m here most other = left_stored l words (Volatile n offset) y m (here, most) (λ o least e. other (ap node_at e))

-- the permutation has that word then
words_stored : (l : Layout) (words : List ℕ) (n k y : ℕ) → length words ≡ row_words l → n < l.nodes → k < 8
    → permutation_in l (slice_set words (address_of l (Volatile n (8 + k))) y) n ≡ updated (permutation_in l words n) k y
words_stored l words n k y whole here low = λ i j. at_word j i
  where
    words' : List ℕ
    words' = slice_set words (address_of l (Volatile n (8 + k))) y

    q : ℕ → ℕ
    q = permutation_in l words n

    at_word : (j : ℕ) → permutation_in l (slice_set words (address_of l (Volatile n (8 + k))) y) n j ≡ updated (permutation_in l words n) k y j
    at_word j = ⊎_elim
        (λ (same : j ≡ k).
        ap (permutation_in l (slice_set words (address_of l (Volatile n (8 + k))) y) n) same
        ∙ permutation_in-here l (slice_set words (address_of l (Volatile n (8 + k))) y) n k here low
        ∙ at-set_same l words (Volatile n (8 + k)) y whole (here, omega arith)
        ∙ sym (updated-same (permutation_in l words n) k y)
        ∙ sym (ap (updated (permutation_in l words n) k y) same))
        (λ (other : j ≢ k).
        permutation_in-alike l words (slice_set words (address_of l (Volatile n (8 + k))) y) n j
        (λ _ small. at-set_other l words (Volatile n (8 + k)) (Volatile n (8 + j)) y (here, omega arith) (here, omega arith)
        (λ e. let no : 8 + j ≡ 8 + k = ap offset_at e in other (omega arith)))
        ∙ sym (updated-other (permutation_in l words n) k y j other))
        (cases_eq j k)

abbrev node_held : Stage → ℕ
node_held (Holds n lock h) = n
node_held _ = 0

module _ (z : Permuted) (i : ℕ) (p : Party) (is : IsPermuted z) (there : get_elem? z.world.parties i ≡ some p)
    (n lock : ℕ) (h : Held) (stage : p.stage ≡ Holds n lock h) (offset y : ℕ) (here : n < z.world.layout.nodes) (least : 2 < offset) (most : offset < 16) (fits : y < 2 ^ 64)
    (sorting after : Sorting) (at : get_elem? z.sortings i ≡ some sorting) where
  open z.world use {layout as l, generation as g, words}

  abbrev f : Facts
  f = facts z.world

  abbrev words' : List ℕ
  words' = slice_set z.world.words (address_of z.world.layout (Volatile n offset)) y

  abbrev z' : Permuted
  z' = record { world = record (z.world) { words = words' }; sortings = slice_set z.sortings i after }

  same : facts (record (z.world) { words = words' }) ≡ facts z.world
  same = store_facts z.world is.lawful n offset y here least most fits

  holds_it : HoldsNode p.stage n
  holds_it = subst (λ (s : Stage). HoldsNode s n) (sym stage) refl

  sure_holds : SureHolds l g f p.caller p.index p.since n lock h
  sure_holds = subst (Sure l g f p.caller p.index p.since) stage (is.lawful.sure i p there)

  never_free : IsFree (f.version n) g → ⊥
  never_free free = unfree (f.version n) g (subst (IsOwnLock g) (sym sure_holds.stands) sure_holds.lock) free

  left : (m : ℕ) → m ≢ n → IsLeft l words words' m
  left m other = else_left l words n offset y m here most other

  serves : (m : ℕ) → m < l.nodes → IsFree (f.version m) g → made_at l words' m ≡ f.version m → IsInOrder l words' f m
  serves m low free made = ⊎_elim
      (λ (one : m ≡ n). absurd (never_free (subst (λ (v : ℕ). IsFree (f.version v) g) one free)))
      (λ (other : m ≢ n). order_same l words words' f f m (left m other).permutation refl (is.serves m low free (sym (left m other).made ∙ made)))
      (cases_eq m n)

  -- who has stored a permutation holds its node
  stored_by : (m : ℕ) (s : IsStored z m) → HoldsNode s.party.stage m
  stored_by m s = holds_node m s.lock s.party.stage (is.sure s.number (Stored m s.lock) s.party s.there s.at).0

  -- a permutation that another party has stored is so still
  still_stored : (m : ℕ) → m ≢ n → IsStored z m → IsStored z' m
  still_stored m other s =
      let apart : s.number ≢ i = λ one.
      let own : s.party ≡ p = some-injective _ _ (sym s.at ∙ ap (get_elem? z.world.parties) one ∙ there) in
      let holds = (is.sure s.number (Stored m s.lock) s.party s.there s.at).0 in
      other (ap node_held (sym holds.1 ∙ ap (λ (q : Party). q.stage) own ∙ stage)) in
      record { number = s.number; lock = s.lock; party = s.party; there = set_else z.sortings i s.number after apart ∙ s.there; at = s.at }

  -- and it is who holds the node
  stored_own : IsStored z n → (m : ℕ) × (sorting ≡ Stored n m)
  stored_own s =
      let one : i ≡ s.number = is.lawful.alone i s.number n p s.party there s.at holds_it (stored_by n s) in
      (s.lock, some-injective _ _ (sym at ∙ ap (get_elem? z.sortings) one ∙ s.there))

  made : ((made_at l words' n ≡ no_permutation) ⊎ ((made_at l words' n ≤ f.version n) ⊎ IsStored z' n)) → (m : ℕ) → m < l.nodes
      → (made_at l words' m ≡ no_permutation) ⊎ ((made_at l words' m ≤ f.version m) ⊎ IsStored z' m)
  made own m low = ⊎_elim
      (λ (one : m ≡ n). subst (λ (v : ℕ). (made_at l words' v ≡ no_permutation) ⊎ ((made_at l words' v ≤ f.version v) ⊎ IsStored z' v)) (sym one) own)
      (λ (other : m ≢ n).
      let stays = (left m other).made in ⊎_elim
      (λ (none : made_at l words m ≡ no_permutation). inl (stays ∙ none))
      (λ rest. inr (⊎_elim
      (λ (old : made_at l words m ≤ f.version m). inl (omega arith))
      (λ (s : IsStored z m). inr (still_stored m other s))
      rest))
      (is.made m low))
      (cases_eq m n)

  -- what another party has
  others_sure : (j : ℕ) (q : Party) → i ≢ j → get_elem? z.world.parties j ≡ some q → (s : Sorting) → SureSorting l f words q.stage s → SureSorting l f words' q.stage s
  others_sure j q ne at_j Unsorted sure = tt
  others_sure j q ne at_j (Storing m w seen) sure =
      let other : m ≢ n = λ e. ne (is.lawful.alone i j n p q there at_j holds_it (subst (HoldsNode q.stage) e (holds_node m w q.stage sure.0))) in
      (sure.0, subst (Tells seen) (sym (left m other).permutation) sure.1)
  others_sure j q ne at_j (Stored m w) sure =
      let other : m ≢ n = λ e. ne (is.lawful.alone i j n p q there at_j holds_it (subst (HoldsNode q.stage) e (holds_node m w q.stage sure.0))) in (
        sure.0,
        (left m other).made ∙ sure.1,
        order_same l words words' f f m (left m other).permutation refl sure.2,
      )

  sure : SureSorting l f words' p.stage after → (j : ℕ) (s : Sorting) (q : Party) → get_elem? z'.sortings j ≡ some s → get_elem? z.world.parties j ≡ some q → SureSorting l f words' q.stage s
  sure own j s q at_j there_j = ⊎_elim
      (λ (one : (j ≡ i) × (after ≡ s)).
      let mine : p ≡ q = some-injective _ _ (sym there ∙ ap (get_elem? z.world.parties) (sym one.0) ∙ there_j) in
      subst (λ (d : Party). SureSorting l f words' d.stage s) mine (subst (SureSorting l f words' p.stage) one.1 own))
      (λ (other : (j ≢ i) × (get_elem? z.sortings j ≡ some s)).
      others_sure j q (λ e. other.0 (sym e)) there_j s (is.sure j s q other.1 there_j))
      (at_set z.sortings i j after s at_j)

  pub permuted : ((made_at l words' n ≡ no_permutation) ⊎ ((made_at l words' n ≤ f.version n) ⊎ IsStored z' n)) → SureSorting l f words' p.stage after → IsPermuted z'
  permuted own_made own = record {
    lawful = store_lawful z.world is.lawful n offset y here least most fits;
    serves = subst (λ (φ : Facts). (m : ℕ) → m < l.nodes → IsFree (φ.version m) g → made_at l words' m ≡ φ.version m → IsInOrder l words' φ m) (sym same) serves;
    made = subst (λ (φ : Facts). (m : ℕ) → m < l.nodes → (made_at l words' m ≡ no_permutation) ⊎ ((made_at l words' m ≤ φ.version m) ⊎ IsStored z' m)) (sym same) (made own_made);
    sure = subst (λ (φ : Facts). (j : ℕ) (s : Sorting) (q : Party) → get_elem? z'.sortings j ≡ some s → get_elem? z.world.parties j ≡ some q → SureSorting l φ words' q.stage s) (sym same) (sure own);
  }

  -- where the version stays, and the party's permutation wasn't stored yet
  pub version_stays : made_at l words' n ≡ made_at l words n → ((m : ℕ) → sorting ≡ Stored n m → ⊥) → (made_at l words' n ≡ no_permutation) ⊎ ((made_at l words' n ≤ f.version n) ⊎ IsStored z' n)
  version_stays stays unstored = ⊎_elim
      (λ (none : made_at l words n ≡ no_permutation). inl (stays ∙ none))
      (λ rest. inr (⊎_elim
      (λ (old : made_at l words n ≤ f.version n). inl (omega arith))
      (λ (s : IsStored z n). let own = stored_own s in absurd (unstored own.0 own.1))
      rest))
      (is.made n here)

-- a store of a word
word_law : (z : Permuted) (i : ℕ) (p : Party) (sorting : Sorting) (n lock k y : ℕ) (h : Held) (seen : List (ℕ × ℕ)) → IsPermuted z → get_elem? z.world.parties i ≡ some p → get_elem? z.sortings i ≡ some sorting → p.stage ≡ Holds n lock h
    → ((m : ℕ) → sorting ≡ Stored n m → ⊥) → n < z.world.layout.nodes → k < 8 → y < 2 ^ 64 → Tells seen (updated (permutation_in z.world.layout z.world.words n) k y)
    → SortLaw z i (Store (permutation_address z.world.layout n k) y) (Storing n lock seen)
word_law z i p sorting n lock k y h seen is there at stage unstored here low fits tells =
    let l = z.world.layout in
    let words = z.world.words in
    let words' : List ℕ = slice_set words (address_of l (Volatile n (8 + k))) y in
    let made : made_at l words' n ≡ made_at l words n = made_at-alike l words words' n (λ _. at-set_other l words (Volatile n (8 + k)) (Volatile n permutation_version_offset) y (here, omega arith) (here, omega arith) (λ e. let no : 3 ≡ 8 + k = ap offset_at e in omega arith)) in
    record {
      can = store_can z.world is.lawful n (8 + k) y here (omega arith) (omega arith) fits;
      facts = store_facts z.world is.lawful n (8 + k) y here (omega arith) (omega arith) fits;
      kept = permuted z i p is there n lock h stage (8 + k) y here (omega arith) (omega arith) fits sorting (Storing n lock seen) at
          (version_stays z i p is there n lock h stage (8 + k) y here (omega arith) (omega arith) fits sorting (Storing n lock seen) at made unstored)
          ((h, stage), subst (Tells seen) (sym (words_stored l words n k y is.lawful.row.whole here low)) tells);
    }

-- the store of the version
version_law : (z : Permuted) (i : ℕ) (p : Party) (sorting : Sorting) (n lock version : ℕ) (h : Held) → IsPermuted z → get_elem? z.world.parties i ≡ some p → get_elem? z.sortings i ≡ some sorting → p.stage ≡ Holds n lock h
    → n < z.world.layout.nodes → version ≡ lock + 1 → version < 2 ^ 64 → IsInOrder z.world.layout z.world.words (facts z.world) n
    → SortLaw z i (Store (permutation_version_address z.world.layout n) version) (Stored n lock)
version_law z i p sorting n lock version h is there at stage here next fits order =
    let l = z.world.layout in
    let words = z.world.words in
    let words' : List ℕ = slice_set words (address_of l (Volatile n permutation_version_offset)) version in
    let made : made_at l words' n ≡ version = made_at-here l words' n here ∙ at-set_same l words (Volatile n permutation_version_offset) version is.lawful.row.whole (here, omega arith) in
    let stays : permutation_in l words' n ≡ permutation_in l words n = permutations_alike l words words' n (λ k _ low. at-set_other l words (Volatile n permutation_version_offset) (Volatile n (8 + k)) version (here, omega arith) (here, omega arith) (λ e. let no : 8 + k ≡ 3 = ap offset_at e in omega arith)) in
    record {
      can = store_can z.world is.lawful n permutation_version_offset version here (omega arith) (omega arith) fits;
      facts = store_facts z.world is.lawful n permutation_version_offset version here (omega arith) (omega arith) fits;
      kept = permuted z i p is there n lock h stage permutation_version_offset version here (omega arith) (omega arith) fits sorting (Stored n lock) at
          (inr (inr (record { number = i; lock = lock; party = p; there = set_here z.sortings i (Stored n lock) sorting at; at = there })))
          ((h, stage), made ∙ next, order_same l words words' (facts z.world) (facts z.world) n stays refl order);
    }

sorted_at : (z : Permuted) (i : ℕ) (p : Party) (a : Action) (sorting after : Sorting) (s : Stage) → IsPermuted z → get_elem? z.world.parties i ≡ some p → get_elem? z.sortings i ≡ some sorting → p.stage ≡ s
    → SureSorting z.world.layout (facts z.world) z.world.words p.stage sorting → Sorts z.world.layout s sorting a after → SortLaw z i a after
sorted_at z i p a sorting after s is there at stage sure (begins {n = n} {lock = lock} {k = k} {y = y} {h = h} {seen = seen} here low fits tells) =
    word_law z i p Unsorted n lock k y h seen is there at stage (λ m e. cc) here low fits (tells (permutation_in z.world.layout z.world.words n))
sorted_at z i p a sorting after s is there at stage sure (stores {n = n} {lock = lock} {k = k} {y = y} {h = h} {seen = seen} {after = now} here low fits tells) =
    word_law z i p (Storing n lock seen) n lock k y h now is there at stage (λ m e. cc) here low fits (tells (permutation_in z.world.layout z.world.words n) sure.1)
sorted_at z i p a sorting after s is there at stage sure (ends {n = n} {lock = lock} {version = version} {h = h} {seen = seen} here next fits order) =
    let w = z.world in
    let known : SureHolds w.layout w.generation (facts w) p.caller p.index p.since n lock h = subst (Sure w.layout w.generation (facts w) p.caller p.index p.since) stage (is.lawful.sure i p there) in
    version_law z i p (Storing n lock seen) n lock version h is there at stage here next fits
    (order (permutation_in w.layout w.words n) ((facts w).now n) known.means.tidy known.knows sure.1)

pub sorts_permute : SortsPermute
sorts_permute z i p a sorting after is there at k = sorted_at z i p a sorting after p.stage is there at refl (is.sure i sorting p at there) k
