-- The words of the layer in a row, and what actions make of them.
use Rattle.std.proofs.Common.{◌≡◌, ◌≢◌, ℕ, zero, suc, ◌^◌, ◌<◌, ◌≤◌, ◌&&◌, ◌⊎◌, true, false, cond, ltb, leb, List, length, slice_index, slice_set, inl, inr, refl, sym, subst, ap, ap₂, ◌∙◌, arith, lt-ltb, le-leb}
use Rattle.std.proofs.lemmas.Bool.{and_parts, ltb-true, leb-true, cases_eq}
use Rattle.std.proofs.lemmas.List.{get_or-set_other}
use Rattle.pm_words.specs.declared.layout.Layout.{Layout}
use Rattle.pm_words.specs.declared.action.Action.TheVariants.{Load}
use Rattle.pm_words.specs.Locations.{Word, Location, Cached, Durable, HasWord, HasLocation, leaf_count, kind_words, row_words, word_number, word_at, cached_address, durable_address, address_of, at}
use Rattle.pm_words.specs.Images.{IsImage}
use Rattle.pm_words.specs.Rows.{acted, evicted, durable_row, row_of}
use Rattle.pm_words.proofs.Apart.{words_within, at-set_same, at-set_other}
use Rattle.pm_words.proofs.Kept.{action_address-drain}
use Rattle.pm_words.proofs.Made.{row_of-at, durable_row-at}
use Rattle.tree_law.specs.Words.{LayerWord, RootWord, LeafWord, CellWord, word_in, Stored, IsMix}
use Rattle.tree_law.proofs.StageLaw.{same_words}
use Rattle.tree_row.specs.Rows.{image_word, HasLayerWord, has_layer_word, layer_word, layer_words, image_layer_word, image_layer, CrashReads, ImageReads, ReadsWords, ReadsFit, RowsAlike, LoadLeaves, StoreMakes, DrainMakes, IsOutsideWord, IsOutsideLayer, OutsideLeaves, EvictionMixes}

has_is : (l : Layout) (p : LayerWord) → HasLayerWord l p → has_layer_word l p ≡ true
has_is l RootWord has = refl
has_is l (LeafWord i o) has = ap₂ (λ a b. a && b) (lt-ltb i (leaf_count l) has.0) (lt-ltb o 8 has.1)
has_is l (CellWord kind n o) has =
    let kinds = ap₂ (λ a b. a && b) (le-leb 2 kind has.0) (le-leb kind 5 has.1) in
    ap₂ (λ a b. a && b) (ap₂ (λ a b. a && b) kinds (lt-ltb n (leaf_count l) has.2)) (lt-ltb o (kind_words kind) has.3)

pub has_from : (l : Layout) (p : LayerWord) → has_layer_word l p ≡ true → HasLayerWord l p
has_from l RootWord e = let first : 0 < 8 = omega arith in first
has_from l (LeafWord i o) e = let parts = and_parts (ltb i (leaf_count l)) (ltb o 8) e in (ltb-true _ _ parts.0, ltb-true _ _ parts.1)
has_from l (CellWord kind n o) e =
    let offset = and_parts (leb 2 kind && leb kind 5 && ltb n (leaf_count l)) (ltb o (kind_words kind)) e in
    let number = and_parts (leb 2 kind && leb kind 5) (ltb n (leaf_count l)) offset.0 in
    let kinds = and_parts (leb 2 kind) (leb kind 5) number.0 in
    (leb-true _ _ kinds.0, leb-true _ _ kinds.1, ltb-true _ _ number.1, ltb-true _ _ offset.1)

-- no kind of cell has more words than the last
kind_ends : (kind : ℕ) → kind_words kind ≤ 264
kind_ends zero = omega arith
kind_ends (suc zero) = omega arith
kind_ends (suc (suc zero)) = omega arith
kind_ends (suc (suc (suc zero))) = omega arith
kind_ends (suc (suc (suc (suc zero)))) = omega arith
kind_ends (suc (suc (suc (suc (suc zero))))) = omega arith
kind_ends (suc (suc (suc (suc (suc (suc kind)))))) = omega arith

-- so behind those no cell has any, whatever is read of a row or an image
pub cell_ends : (l : Layout) (kind n o word : ℕ) → 264 ≤ o → cond (has_layer_word l (CellWord kind n o)) word 0 ≡ 0
cell_ends l kind n o word le = elim (has_layer_word l (CellWord kind n o)) as (λ a. has_layer_word l (CellWord kind n o) ≡ a → cond a word 0 ≡ 0) [
  | true ↦ λ e.
      let has = has_from l (CellWord kind n o) e in
      let within : o < kind_words kind = has.3 in
      let most = kind_ends kind in
      absurd (omega arith)
  | false ↦ λ e. refl
] refl

named_apart : (p q : LayerWord) → q ≢ p → image_word q ≢ image_word p
named_apart RootWord RootWord apart e = apart refl
named_apart RootWord (LeafWord i o) apart e = cc
named_apart RootWord (CellWord kind n o) apart e = cc
named_apart (LeafWord i o) RootWord apart e = cc
named_apart (LeafWord i o) (LeafWord j k) apart e =
    let number : j ≡ i = cc in
    let offset : k ≡ o = cc in
    apart (ap₂ LeafWord number offset)
named_apart (LeafWord i o) (CellWord kind n k) apart e = cc
named_apart (CellWord kind n o) RootWord apart e = cc
named_apart (CellWord kind n o) (LeafWord i k) apart e = cc
named_apart (CellWord kind n o) (CellWord kind' m k) apart e =
    let kinds : kind' ≡ kind = cc in
    let number : m ≡ n = cc in
    let offset : k ≡ o = cc in
    apart (λ x. CellWord (kinds x) (number x) (offset x))

-- what is read of a row
reads : (l : Layout) (words : List ℕ) (twin : Word → Location) (p : LayerWord) → word_in (layer_words l words twin) p ≡ layer_word l words twin p
reads l words twin RootWord = refl
reads l words twin (LeafWord i o) = refl
reads l words twin (CellWord kind n o) = refl

pub reads_words : ReadsWords
reads_words l words twin p has = reads l words twin p ∙ ap (λ a. cond a (at l words (twin (image_word p))) 0) (has_is l p has)

pub reads_fit : ReadsFit
reads_fit l words twin p fits = subst (λ x. x < 2 ^ 64) (sym (reads l words twin p)) inner
  where
    inner : layer_word l words twin p < 2 ^ 64
    inner = elim (has_layer_word l p) as (λ a. cond a (at l words (twin (image_word p))) 0 < 2 ^ 64) [ true ↦ fits (address_of l (twin (image_word p))) | false ↦ omega arith ]

-- a word that the row has is the same, so it is in what is read
same_at : (l : Layout) (words words' : List ℕ) (twin : Word → Location) (p : LayerWord)
    → (HasLayerWord l p → at l words' (twin (image_word p)) ≡ at l words (twin (image_word p)))
    → word_in (layer_words l words' twin) p ≡ word_in (layer_words l words twin) p
same_at l words words' twin p same = reads l words' twin p ∙ inner ∙ sym (reads l words twin p)
  where
    inner : layer_word l words' twin p ≡ layer_word l words twin p
    inner = elim (has_layer_word l p) as (λ a. has_layer_word l p ≡ a → cond a (at l words' (twin (image_word p))) 0 ≡ cond a (at l words (twin (image_word p))) 0) [
      | true ↦ λ e. same (has_from l p e)
      | false ↦ λ e. refl
    ] refl

pub rows_alike : RowsAlike
rows_alike l words words' twin same = same_words (layer_words l words twin) (layer_words l words' twin) (λ p. same_at l words words' twin p (same p))

pub crash_reads : CrashReads
crash_reads l words = λ x. record {
  root = crash_word l words RootWord x;
  leaf = λ i o. crash_word l words (LeafWord i o) x;
  cell = λ kind n o. crash_word l words (CellWord kind n o) x;
}
  where
    crash_word : (l : Layout) (words : List ℕ) (p : LayerWord) → image_layer_word l (durable_row l words) p ≡ layer_word l words Durable p
    crash_word l words p = ap (λ v. cond (has_layer_word l p) v 0) (durable_row-at l words (image_word p))

pub image_reads : ImageReads
image_reads l image is = (of l image is Cached (λ w has. (row_of-at l image w is has).0), of l image is Durable (λ w has. (row_of-at l image w is has).1))
  where
    of : (l : Layout) (image : List ℕ) → IsImage l image → (twin : Word → Location) → ((w : Word) → HasWord l w → at l (row_of l image) (twin w) ≡ word_at l image w) → layer_words l (row_of l image) twin ≡ image_layer l image
    of l image is twin same = λ x. record {
      root = image_word_is RootWord x;
      leaf = λ i o. image_word_is (LeafWord i o) x;
      cell = λ kind n o. image_word_is (CellWord kind n o) x;
    }
      where
        image_word_is : (p : LayerWord) → layer_word l (row_of l image) twin p ≡ image_layer_word l image p
        image_word_is p = elim (has_layer_word l p) as (λ a. has_layer_word l p ≡ a → cond a (at l (row_of l image) (twin (image_word p))) 0 ≡ cond a (word_at l image (image_word p)) 0) [
          | true ↦ λ e. same (image_word p) (has_from l p e)
          | false ↦ λ e. refl
        ] refl

-- a load puts back what stands there
pub load_same : (l : Layout) (words : List ℕ) (address : ℕ) (q : Location) → length words ≡ row_words l → HasLocation l q → at l (acted l words (Load address)) q ≡ at l words q
load_same l words address q whole has = elim (cases_eq (address_of l q) address) [
  | inl here ↦ subst (λ a. slice_index (slice_set words a (slice_index words a)) (address_of l q) ≡ at l words q) here (at-set_same l words q (at l words q) whole has)
  | inr apart ↦ get_or-set_other words address (address_of l q) (slice_index words address) 0 apart
]

pub load_leaves : LoadLeaves
load_leaves l words address whole = (
  rows_alike l words (acted l words (Load address)) Cached (λ p has. load_same l words address (Cached (image_word p)) whole has),
  rows_alike l words (acted l words (Load address)) Durable (λ p has. load_same l words address (Durable (image_word p)) whole has),
)

-- one word of the layer is another in this twin
module _ (l : Layout) (words : List ℕ) (p : LayerWord) (word : ℕ) (whole : length words ≡ row_words l) (has : HasLayerWord l p) where
  twin_set : (twin : Word → Location) → ((w : Word) → HasWord l w → HasLocation l (twin w)) → ((v w : Word) → twin v ≡ twin w → v ≡ w) → Stored (layer_words l words twin) (layer_words l (slice_set words (address_of l (twin (image_word p))) word) twin) p word
  twin_set twin has_it one =
      let words' = slice_set words (address_of l (twin (image_word p))) word in
      record {
        here = reads_words l words' twin p has ∙ at-set_same l words (twin (image_word p)) word whole (has_it (image_word p) has);
        others = λ q apart. same_at l words words' twin q (λ has_q. at-set_other l words (twin (image_word p)) (twin (image_word q)) word (has_it (image_word p) has) (has_it (image_word q) has_q) (λ e. named_apart p q apart (one (image_word q) (image_word p) e)));
      }

  cached_set : Stored (layer_words l words Cached) (layer_words l (slice_set words (address_of l (Cached (image_word p))) word) Cached) p word
  cached_set = twin_set Cached (λ w has_w. has_w) (λ v w e. cc)

  durable_set : Stored (layer_words l words Durable) (layer_words l (slice_set words (address_of l (Durable (image_word p))) word) Durable) p word
  durable_set = twin_set Durable (λ w has_w. has_w) (λ v w e. cc)

  durable_stays : layer_words l (slice_set words (address_of l (Cached (image_word p))) word) Durable ≡ layer_words l words Durable
  durable_stays = rows_alike l words (slice_set words (address_of l (Cached (image_word p))) word) Durable (λ q has_q. at-set_other l words (Cached (image_word p)) (Durable (image_word q)) word has has_q (λ e. cc))

  cached_stays : layer_words l (slice_set words (address_of l (Durable (image_word p))) word) Cached ≡ layer_words l words Cached
  cached_stays = rows_alike l words (slice_set words (address_of l (Durable (image_word p))) word) Cached (λ q has_q. at-set_other l words (Durable (image_word p)) (Cached (image_word q)) word has has_q (λ e. cc))

pub store_makes : StoreMakes
store_makes l words p word whole has = (cached_set l words p word whole has, durable_stays l words p word whole has)

pub drain_makes : DrainMakes
drain_makes l words p word whole has =
    subst (λ a. (layer_words l (slice_set words a word) Cached ≡ layer_words l words Cached) × Stored (layer_words l words Durable) (layer_words l (slice_set words a word) Durable) p word)
    (sym (action_address-drain l (image_word p) word)) (cached_stays l words p word whole has, durable_set l words p word whole has)

-- no word of the layer is outside
inside : (p : LayerWord) → IsOutsideWord (image_word p) → ⊥
inside RootWord is = let none : 1 ≤ 0 = is in absurd (omega arith)
inside (LeafWord i o) is = is
inside (CellWord kind n o) is = is

pub outside_leaves : OutsideLeaves
outside_leaves l words q word has is = (
  rows_alike l words (slice_set words (address_of l q) word) Cached (λ p has_p. at-set_other l words q (Cached (image_word p)) word has has_p (λ e. inside p (subst IsOutsideLayer (sym e) is))),
  rows_alike l words (slice_set words (address_of l q) word) Durable (λ p has_p. at-set_other l words q (Durable (image_word p)) word has has_p (λ e. inside p (subst IsOutsideLayer (sym e) is))),
)

-- a word that becomes durable by itself
module _ (l : Layout) (words : List ℕ) (word : ℕ) (whole : length words ≡ row_words l) where
  cached_kept : (w : Word) → HasWord l w → at l (evicted l words word) (Cached w) ≡ at l words (Cached w)
  cached_kept w has =
      let within = words_within l w has in
      get_or-set_other words (durable_address l word) (address_of l (Cached w)) (slice_index words (cached_address l word)) 0 (λ e. omega arith)

  durable_either : (w : Word) → HasWord l w → (at l (evicted l words word) (Durable w) ≡ at l words (Cached w)) ⊎ (at l (evicted l words word) (Durable w) ≡ at l words (Durable w))
  durable_either w has = elim (cases_eq (word_number l w) word) [
    | inl here ↦ inl (subst (λ k. at l (evicted l words k) (Durable w) ≡ at l words (Cached w)) here (at-set_same l words (Durable w) (at l words (Cached w)) whole has))
    | inr apart ↦ inr (get_or-set_other words (durable_address l word) (address_of l (Durable w)) (slice_index words (cached_address l word)) 0 (λ e. apart (omega arith)))
  ]

  mixes : IsMix (layer_words l words Cached) (layer_words l words Durable) (layer_words l (evicted l words word) Durable)
  mixes p = elim (has_layer_word l p) as (λ a. has_layer_word l p ≡ a → (word_in (layer_words l (evicted l words word) Durable) p ≡ word_in (layer_words l words Cached) p) ⊎ (word_in (layer_words l (evicted l words word) Durable) p ≡ word_in (layer_words l words Durable) p)) [
    | true ↦ λ e.
        let has = has_from l p e in
        let now = reads_words l (evicted l words word) Durable p has in
        elim (durable_either (image_word p) has) [
          | inl cached ↦ inl (now ∙ cached ∙ sym (reads_words l words Cached p has))
          | inr durable ↦ inr (now ∙ durable ∙ sym (reads_words l words Durable p has))
        ]
    | false ↦ λ e. inr (same_at l words (evicted l words word) Durable p (λ has. let wrong : true ≡ false = sym (has_is l p has) ∙ e in cc))
  ] refl

pub eviction_mixes : EvictionMixes
eviction_mixes l words word whole = (rows_alike l words (evicted l words word) Cached (λ p has. cached_kept l words word whole (image_word p) has), mixes l words word whole)
