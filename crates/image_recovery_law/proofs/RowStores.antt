-- What the stores of a recovery, and evictions, make of the columns of a row.
use Rattle.std.proofs.Common.{◌≡◌, ◌≢◌, ℕ, ◌+◌, ◌*◌, ◌/◌, ◌%◌, ◌<◌, ◌≤◌, ◌⊎◌, false, List, length, slice_set, inl}
use Rattle.std.proofs.Common.{refl, inr, sym, subst, ap, ap₂, ◌∙◌, arith}
use Rattle.std.specs.Prelude.{nat_lt}
use Rattle.std.proofs.lemmas.Bool.{cases_eq, cases_lt}
use Rattle.pm_words.specs.declared.layout.Layout.{Layout}
use Rattle.pm_words.specs.Locations.{Word, Location, Header, Node, Line, Cached, Durable, HasWord, HasLocation}
use Rattle.pm_words.specs.Locations.{IsVolatile, part_of_address, part_of_word, row_words, image_words}
use Rattle.pm_words.specs.Locations.{cached_address, durable_address, address_of, at}
use Rattle.pm_words.specs.Rows.{evicted}
use Rattle.pm_words.proofs.Apart.{at-set_other, at-set_same}
use Rattle.pm_words.specs.Offsets.{version_offset, bitmap_offset, state_offset, generation_offset}
use Rattle.layer_map.specs.Places.{is_layer_word}
use Rattle.updater_row_law.specs.search_layer.specs.Rows.{layer_words}
use Rattle.updater_row_law.specs.search_layer.proofs.RowLemmas.{row_eviction_mixes, layer_words_stay, rows_alike}
use Rattle.updater_row_law.specs.Columns.{line_word}
use Rattle.updater_row_law.proofs.RowEvicts.{cached, durable}
use Rattle.image_recovery_law.specs.Columns.{Columns}
use Rattle.image_recovery_law.specs.Stages.{with_generation, with_bits, with_empty}
use Rattle.image_recovery_law.specs.Rows.{word_if, spare_count, spare_word, columns_in, GenerationStores, BitsStore}
use Rattle.image_recovery_law.specs.Rows.{EmptyStores, EvictsColumns, EvictionMixesColumns, DrainEvicts}
use Rattle.image_recovery_law.specs.Rows.{VolatileLeaves}
use Rattle.image_recovery_law.proofs.Mixes.{columns_path}
use Rattle.image_recovery_law.proofs.Steps.{bits_word, bits_other, empty_here, empty_other}
use Rattle.image_recovery_law.proofs.RowColumns.{word_of, word_if-here, word_if-either, IsRest, generation_rest}
use Rattle.image_recovery_law.proofs.RowColumns.{spare_low, spare_high, spare_rest, version_rest, has_spot_word}
use Rattle.image_recovery_law.proofs.RowColumns.{spot_rest, spot_here, has_line_word, line_rest, line_here}
use Rattle.image_recovery_law.proofs.RowColumns.{generation_same, spare_same, version_same, spot_same, line_same}
use Rattle.image_recovery_law.proofs.RowColumns.{columns_alike}

-- numbers by which words are told apart
abbrev header_at : Word → ℕ
header_at (Header o) = o
header_at _ = 0

abbrev node_at : Word → ℕ
node_at (Node n o) = n
node_at _ = 0

abbrev offset_at : Word → ℕ
offset_at (Node n o) = o
offset_at (Line c j o) = o
offset_at _ = 0

abbrev line_at : Word → ℕ
line_at (Line c j o) = 8 * c + j
line_at _ = 0

spare_no_generation : (k : ℕ) → spare_word k ≢ Header generation_offset
spare_no_generation k = elim (cases_lt k 2) [
  | inl low ↦ λ e. let same : 6 + k ≡ 5 = ap header_at (sym (spare_low k low) ∙ e) in omega arith
  | inr high ↦ λ e. let same : 1 ≡ 0 + 0 = ap part_of_word (sym (spare_high k high) ∙ e) in omega arith
]

pub spare_apart : (k : ℕ) (v : Word) → 2 ≤ part_of_word v → spare_word k ≢ v
spare_apart k v late = elim (cases_lt k 2) [
  | inl low ↦ λ e. let same : 0 ≡ part_of_word v = ap part_of_word (sym (spare_low k low) ∙ e) in omega arith
  | inr high ↦ λ e. let same : 1 ≡ part_of_word v = ap part_of_word (sym (spare_high k high) ∙ e) in omega arith
]

-- a store into a cached word that is none of the layer
module _ (l : Layout) (words : List ℕ) (whole : length words ≡ row_words l) (v : Word) (has : HasWord l v) (value : ℕ) (outside : is_layer_word v ≡ false) where
  abbrev words' : List ℕ
  words' = slice_set words (address_of l (Cached v)) value

  cached_same : (w : Word) → IsRest l w → w ≢ v → at l words' (Cached w) ≡ at l words (Cached w)
  cached_same w is ne = at-set_other l words (Cached v) (Cached w) value has is.0 (λ e. ne (ap word_of e))

  cached_here : at l words' (Cached v) ≡ value
  cached_here = at-set_same l words (Cached v) value whole has

  durable_same : (w : Word) → HasWord l w → at l words' (Durable w) ≡ at l words (Durable w)
  durable_same w has' = at-set_other l words (Cached v) (Durable w) value has has' (λ e. cc)

  durable_columns : columns_in l words' Durable ≡ columns_in l words Durable
  durable_columns = columns_alike l (λ w. at l words (Durable w)) (λ w. at l words' (Durable w)) (layer_words l words Durable) (layer_words l words' Durable)
      (λ w is. durable_same w is.0)
      (layer_words_stay l words (Cached v) value has outside).durable

  layer_stays : layer_words l words' Cached ≡ layer_words l words Cached
  layer_stays = (layer_words_stay l words (Cached v) value has outside).cached

  abbrev before : Word → ℕ
  before w = at l words (Cached w)

  abbrev after : Word → ℕ
  after w = at l words' (Cached w)

  abbrev Kept : Word → Type 0
  Kept w = w ≢ v

  generation_kept : v ≢ Header generation_offset → after (Header generation_offset) ≡ before (Header generation_offset)
  generation_kept ne = generation_same l before after Kept cached_same (λ e. ne (sym e))

  spares_kept : ((k : ℕ) → spare_word k ≢ v) → (k : ℕ) → word_if (nat_lt k spare_count) (after (spare_word k)) ≡ word_if (nat_lt k spare_count) (before (spare_word k))
  spares_kept ne k = spare_same l before after Kept cached_same k (ne k)

  versions_kept : ((n : ℕ) → Node n version_offset ≢ v) → (n : ℕ) → word_if (nat_lt n l.nodes) (after (Node n version_offset)) ≡ word_if (nat_lt n l.nodes) (before (Node n version_offset))
  versions_kept ne n = version_same l before after Kept cached_same n (ne n)

  spot_kept : (n o : ℕ) → Node n o ≢ v → word_if (has_spot_word l n o) (after (Node n o)) ≡ word_if (has_spot_word l n o) (before (Node n o))
  spot_kept n o ne = spot_same l before after Kept cached_same n o ne

  line_kept : (j o : ℕ) → line_word o j ≢ v → word_if (has_line_word l j o) (after (line_word o j)) ≡ word_if (has_line_word l j o) (before (line_word o j))
  line_kept j o ne = line_same l before after Kept cached_same j o ne

pub generation_stores : GenerationStores
generation_stores l words value whole =
    let v : Word = Header generation_offset in
    let has : HasWord l (Header generation_offset) = (generation_rest l).0 in
    record {
      cached = columns_path (with_generation (columns_in l words Cached) value) (columns_in l (slice_set words (address_of l (Cached (Header generation_offset))) value) Cached)
          (cached_here l words whole v has value refl)
          (spares_kept l words whole v has value refl spare_no_generation)
          (versions_kept l words whole v has value refl (λ n e. cc))
          (λ n o. spot_kept l words whole v has value refl n o (λ e. cc))
          (λ j o. line_kept l words whole v has value refl j o (λ e. cc))
          (layer_stays l words whole v has value refl);
      durable = durable_columns l words whole v has value refl;
    }

pub bits_store : BitsStore
bits_store l words n value whole within =
    let v : Word = Node n bitmap_offset in
    let has : HasWord l (Node n bitmap_offset) = (within, omega arith) in
    let i : Columns = columns_in l words Cached in
    let after : Word → ℕ = λ w. at l (slice_set words (address_of l (Cached (Node n bitmap_offset))) value) (Cached w) in
    record {
      cached = columns_path (with_bits i n value) (columns_in l (slice_set words (address_of l (Cached (Node n bitmap_offset))) value) Cached)
          (generation_kept l words whole v has value refl (λ e. cc))
          (spares_kept l words whole v has value refl (λ k. spare_apart k v (omega arith)))
          (versions_kept l words whole v has value refl (λ m e. let same : 0 ≡ 1 = ap offset_at e in omega arith))
          (λ m o. elim (cases_eq m n) [
            | inr ne ↦ spot_kept l words whole v has value refl m o (λ e. ne (ap node_at e)) ∙ sym (bits_other i n value m o (λ e. absurd (ne e)))
            | inl e ↦ elim (cases_eq o bitmap_offset) [
              | inr ne ↦ spot_kept l words whole v has value refl m o (λ f. ne (ap offset_at f)) ∙ sym (bits_other i n value m o (λ f. ne))
              | inl f ↦ subst (λ x. word_if (has_spot_word l x o) (after (Node x o)) ≡ (with_bits i n value).spot x o) (sym e)
                  (subst (λ x. word_if (has_spot_word l n x) (after (Node n x)) ≡ (with_bits i n value).spot n x) (sym f)
                  (word_if-here (has_spot_word l n bitmap_offset) (after (Node n bitmap_offset)) (spot_here l n bitmap_offset within (omega arith) (omega arith))
                  ∙ cached_here l words whole v has value refl ∙ sym (bits_word i n value)))
            ]
          ])
          (λ j o. line_kept l words whole v has value refl j o (λ e. cc))
          (layer_stays l words whole v has value refl);
      durable = durable_columns l words whole v has value refl;
    }

pub empty_stores : EmptyStores
empty_stores l words j whole within =
    let v : Word = line_word state_offset j in
    let has : HasWord l (line_word state_offset j) = (omega arith, omega arith, omega arith) in
    let i : Columns = columns_in l words Cached in
    let after : Word → ℕ = λ w. at l (slice_set words (address_of l (Cached (line_word state_offset j))) 0) (Cached w) in
    record {
      cached = columns_path (with_empty i j) (columns_in l (slice_set words (address_of l (Cached (line_word state_offset j))) 0) Cached)
          (generation_kept l words whole v has 0 refl (λ e. cc))
          (spares_kept l words whole v has 0 refl (λ k. spare_apart k v (omega arith)))
          (versions_kept l words whole v has 0 refl (λ m e. cc))
          (λ m o. spot_kept l words whole v has 0 refl m o (λ e. cc))
          (λ k o. elim (cases_eq k j) [
            | inr ne ↦ line_kept l words whole v has 0 refl k o (λ e. let same : 8 * (k / 8) + k % 8 ≡ 8 * (j / 8) + j % 8 = ap line_at e in ne (omega arith)) ∙ sym (empty_other i j k o (λ e. absurd (ne e)))
            | inl e ↦ elim (cases_eq o 0) [
              | inr ne ↦ line_kept l words whole v has 0 refl k o (λ f. ne (ap offset_at f)) ∙ sym (empty_other i j k o (λ f. ne))
              | inl f ↦ subst (λ x. word_if (has_line_word l x o) (after (line_word o x)) ≡ (with_empty i j).line x o) (sym e)
                  (subst (λ x. word_if (has_line_word l j x) (after (line_word x j)) ≡ (with_empty i j).line j x) (sym f)
                  (word_if-here (has_line_word l j state_offset) (after (line_word state_offset j)) (line_here l j state_offset within (omega arith))
                  ∙ cached_here l words whole v has 0 refl ∙ sym (empty_here i j)))
            ]
          ])
          (layer_stays l words whole v has 0 refl);
      durable = durable_columns l words whole v has 0 refl;
    }

-- a word that becomes durable
module _ (l : Layout) (words : List ℕ) (word : ℕ) (whole : length words ≡ row_words l) (within : word < image_words l) where
  durable_either : (w : Word) → IsRest l w → (at l (evicted l words word) (Durable w) ≡ at l words (Cached w)) ⊎ (at l (evicted l words word) (Durable w) ≡ at l words (Durable w))
  durable_either w is = elim (durable l words word whole within w is.0) [ inl same ↦ inr same | inr new ↦ inl new ]

  evicts : EvictsColumns l words (evicted l words word)
  evicts =
      let layer = row_eviction_mixes l words word whole within in
      let now : Word → ℕ = λ w. at l words (Cached w) in
      let safe : Word → ℕ = λ w. at l words (Durable w) in
      let mix : Word → ℕ = λ w. at l (evicted l words word) (Durable w) in
      record {
        cached = columns_alike l now (λ w. at l (evicted l words word) (Cached w)) (layer_words l words Cached) (layer_words l (evicted l words word) Cached)
            (λ w is. cached l words word whole within w is.0) layer.cached;
        durable = record {
          generation = durable_either (Header generation_offset) (generation_rest l);
          spare = λ k. word_if-either (nat_lt k spare_count) (mix (spare_word k)) (now (spare_word k)) (safe (spare_word k)) (λ is. durable_either (spare_word k) (spare_rest l k is));
          version = λ n. word_if-either (nat_lt n l.nodes) (mix (Node n version_offset)) (now (Node n version_offset)) (safe (Node n version_offset)) (λ is. durable_either (Node n version_offset) (version_rest l n is));
          spot = λ n o. word_if-either (has_spot_word l n o) (mix (Node n o)) (now (Node n o)) (safe (Node n o)) (λ is. durable_either (Node n o) (spot_rest l n o is));
          line = λ j o. word_if-either (has_line_word l j o) (mix (line_word o j)) (now (line_word o j)) (safe (line_word o j)) (λ is. durable_either (line_word o j) (line_rest l j o is));
          layer = layer.durable;
        };
      }

pub eviction_mixes_columns : EvictionMixesColumns
eviction_mixes_columns l words word whole within = evicts l words word whole within

pub drain_evicts : DrainEvicts
drain_evicts l words word value told =
    let there : cached_address l word + image_words l ≡ durable_address l word = omega arith in
    ap₂ (λ p v. slice_set words p v) there (sym told)

-- a store into a volatile word
module _ (l : Layout) (words : List ℕ) (p : Location) (value : ℕ) (has : HasLocation l p) (volatile : IsVolatile p) where
  abbrev noted : List ℕ
  noted = slice_set words (address_of l p) value

  cached_left : (w : Word) → HasWord l w → at l noted (Cached w) ≡ at l words (Cached w)
  cached_left w has' = at-set_other l words p (Cached w) value has has' (λ e. let same : 3 ≡ part_of_address p = ap part_of_address e in omega arith)

  durable_left : (w : Word) → HasWord l w → at l noted (Durable w) ≡ at l words (Durable w)
  durable_left w has' = at-set_other l words p (Durable w) value has has' (λ e. let same : 4 ≡ part_of_address p = ap part_of_address e in omega arith)

  twin_left : (twin : Word → Location) → ((w : Word) → HasWord l w → at l noted (twin w) ≡ at l words (twin w)) → columns_in l noted twin ≡ columns_in l words twin
  twin_left twin same = columns_alike l (λ w. at l words (twin w)) (λ w. at l noted (twin w)) (layer_words l words twin) (layer_words l noted twin)
      (λ w is. same w is.0)
      (rows_alike l words noted twin twin (λ w place. same w place.there))

pub volatile_leaves : VolatileLeaves
volatile_leaves l words p value has volatile = record {
  cached = twin_left l words p value has volatile Cached (cached_left l words p value has volatile);
  durable = twin_left l words p value has volatile Durable (durable_left l words p value has volatile);
}
