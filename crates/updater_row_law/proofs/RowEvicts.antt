-- A word of the image that becomes durable keeps the row of a turn lawful.
use Rattle.std.proofs.Common.{◌≡◌, ◌≢◌, ℕ, zero, suc, ◌+◌, ◌^◌, ◌<◌, ◌⊎◌, List, length, slice_index, None, inl, inr, sym, subst, ap, ap₂, ◌∙◌, arith}
use Rattle.std.proofs.lemmas.Bool.{cases_eq, cases_lt}
use Rattle.std.proofs.lemmas.List.{get_or-set_same, get_or-set_other}
use Rattle.pm_words.specs.declared.layout.Layout.{Layout}
use Rattle.pm_words.specs.Locations.{Word, Location, Node, Cached, Durable, Volatile, HasWord, word_number, address_of, row_words, image_words, cached_address, durable_address, at}
use Rattle.pm_words.specs.Rows.{evicted}
use Rattle.pm_words.proofs.Apart.{words_within}
use Rattle.pm_words.specs.Offsets.{version_offset, anchor_offset}
use Rattle.layer_map.specs.Layers.{Layer, AreSame}
use Rattle.layer_map.specs.Keys.{key_of, key_number}
use Rattle.search_layer.specs.Rows.{LayerWords, layer_words, layer_marks, AreEven, EvictsLayer}
use Rattle.search_layer.specs.ChangeStages.{Changing, LayerAt}
use Rattle.search_layer.proofs.RowLemmas.{row_eviction_mixes as eviction_mixes, even_are_same, mixes_are_even}
use Rattle.search_layer.proofs.StageLemmas.{change_is_backed}
use Rattle.search_layer.proofs.BesideLemmas.{evictions_keep, rest_evicts}
use Rattle.search_layer.proofs.RootLemmas.{root_evictions_keep}
use Rattle.search_layer.specs.Kept.{kept, IsKept}
use Rattle.layer_map.proofs.KeyLemmas.{words_told}
use Rattle.updater_law.specs.Covers.{Lines, LinesEvict}
use Rattle.updater_law.specs.Covered.{IsTarget}
use Rattle.updater_law.specs.Facts.{TurnFacts, IsListed}
use Rattle.updater_law.specs.OtherSteps.{drains_lines}
use Rattle.updater_law.specs.Lawful.{IsDurableBut, TurnLawful}
use Rattle.updater_law.proofs.Others.{other_keeps}
use Rattle.updater_law.proofs.Crash.{layer_evicts}
use Rattle.updater_row_law.specs.Columns.{RowTerms, Ghosts, line_count, line_word, line_field, lines_in, node_field, volatile_field, terms_of, facts_in}
use Rattle.updater_row_law.specs.RowStages.{RowLine, RowTarget, aim_of, RowStage, Resting, Between, Reads, Lands, HasTarget, Changes, Stamps, Clears, Sweeps, Gone, HasStamp, IsUnworn, Frees, Counts, reading_stage, turn_stage}
use Rattle.updater_row_law.specs.RowLaw.{LayerRests, HasLoaded, IsTargetFor, SureRow, RowLawful, EvictionKeepsTurn}
use Rattle.updater_row_law.proofs.RowStores.{cached_path}
use Rattle.updater_row_law.proofs.RowColumns.{column-here, column-alike, column-same, column_fits}
use Rattle.updater_row_law.proofs.RowChanges.{mix_but}

module _ (l : Layout) (words : List ℕ) (word : ℕ) (whole : length words ≡ row_words l) (within : word < image_words l) where
  abbrev words' : List ℕ
  words' = evicted l words word

  -- the cached words stay
  pub cached : (w : Word) → HasWord l w → at l words' (Cached w) ≡ at l words (Cached w)
  cached w has = let inside = words_within l w has in get_or-set_other words (durable_address l word) (address_of l (Cached w)) (slice_index words (cached_address l word)) 0 (λ e. absurd (omega (arith, e)))

  volatile : (n o : ℕ) → n < l.nodes → o < 16 → at l words' (Volatile n o) ≡ at l words (Volatile n o)
  volatile n o here small = get_or-set_other words (durable_address l word) (address_of l (Volatile n o)) (slice_index words (cached_address l word)) 0 (λ e. absurd (omega (arith, e)))

  -- each durable word stays, or becomes the cached one
  pub durable : (w : Word) → HasWord l w → (at l words' (Durable w) ≡ at l words (Durable w)) ⊎ (at l words' (Durable w) ≡ at l words (Cached w))
  durable w has = let inside = words_within l w has in elim (cases_eq (word_number l w) word) [
    | inl same ↦ inr (
        let fits : durable_address l word < length words = omega arith in
        ap (λ n. slice_index words' (durable_address l n)) same
        ∙ get_or-set_same words (durable_address l word) (slice_index words (cached_address l word)) 0 fits
        ∙ ap (λ n. slice_index words (cached_address l n)) (sym same))
    | inr apart ↦ inl (get_or-set_other words (durable_address l word) (address_of l (Durable w)) (slice_index words (cached_address l word)) 0 (λ e. apart (omega (arith, e))))
  ]

  node_same : (o : ℕ) → o < 16 → node_field l words' o ≡ node_field l words o
  node_same o small = column-same l words words' l.nodes (λ m. Cached (Node m o)) (λ n lt. cached (Node n o) (lt, omega arith))

  volatile_same : (o : ℕ) → o < 16 → volatile_field l words' o ≡ volatile_field l words o
  volatile_same o small = column-same l words words' l.nodes (λ m. Volatile m o) (λ n lt. volatile n o lt small)

  line_same : (o : ℕ) → o < 8 → line_field l words' Cached o ≡ line_field l words Cached o
  line_same o small = column-same l words words' (line_count l) (λ i. Cached (line_word o i)) (λ j lt. cached (line_word o j) (omega arith, omega arith, small))

  -- a durable field of a line
  line_either : (o j : ℕ) → o < 8 → (line_field l words' Durable o j ≡ line_field l words Durable o j) ⊎ (line_field l words' Durable o j ≡ line_field l words Cached o j)
  line_either o j small = elim (cases_lt j (line_count l)) [
    | inl lt ↦
        let now = column-here l words' (line_count l) (λ i. Durable (line_word o i)) j lt in
        let was = column-here l words (line_count l) (λ i. Durable (line_word o i)) j lt in
        let twin = column-here l words (line_count l) (λ i. Cached (line_word o i)) j lt in
        elim (durable (line_word o j) (omega arith, omega arith, small)) [ inl same ↦ inl (now ∙ same ∙ sym was) | inr new ↦ inr (now ∙ new ∙ sym twin) ]
    | inr past ↦ inl (column-alike l words words' (line_count l) (λ i. Durable (line_word o i)) j (λ lt. absurd (omega arith)))
  ]

module _ (r : RowTerms) (ghosts : Ghosts) (words : List ℕ) (word : ℕ) (whole : length words ≡ row_words r.layout) (within : word < image_words r.layout) (fits : (k : ℕ) → slice_index words k < 2 ^ 64) where
  abbrev l : Layout
  l = r.layout

  abbrev after : List ℕ
  after = evicted l words word

  abbrev f : TurnFacts
  f = facts_in r ghosts words

  abbrev lines : Lines
  lines = lines_in l after Durable

  anchor_either : (o j : ℕ) → o < 8 → line_field l words Durable o j ≡ line_field l words Cached o j → line_field l after Durable o j ≡ line_field l words Cached o j
  anchor_either o j small same = elim (line_either l words word whole within o j small) [ inl old ↦ old ∙ same | inr new ↦ new ]

  pub lines_evict : LinesEvict f.line f.safe_line lines
  lines_evict = record {
    state = λ j now safe none. elim (line_either l words word whole within 0 j (omega arith)) [ inl old ↦ safe (sym old ∙ none) | inr new ↦ now (sym new ∙ none) ];
    anchor = λ j same.
        let fit : (w : Word → Location) (o : ℕ) → line_field l words w o j < 2 ^ 64 = λ w o. column_fits l words (line_count l) (λ i. w (line_word o i)) j fits in
        let told = words_told
        (line_field l words Durable anchor_offset j) (line_field l words Durable (anchor_offset + 1) j) (line_field l words Durable (anchor_offset + 2) j)
        (line_field l words Cached anchor_offset j) (line_field l words Cached (anchor_offset + 1) j) (line_field l words Cached (anchor_offset + 2) j)
        (fit (λ w. Durable w) 4) (fit (λ w. Durable w) 5) (fit (λ w. Cached w) 4) (fit (λ w. Cached w) 5) same in
        ap₂ (λ a b. key_of a b (line_field l after Durable (anchor_offset + 2) j)) (anchor_either anchor_offset j (omega arith) told.first) (anchor_either (anchor_offset + 1) j (omega arith) told.second)
        ∙ ap (λ c. key_of (line_field l words Cached anchor_offset j) (line_field l words Cached (anchor_offset + 1) j) c) (anchor_either (anchor_offset + 2) j (omega arith) told.third);
  }

  anchor_path : (facts_in r ghosts after).anchor ≡ f.anchor
  anchor_path =
      let n3 = node_same l words word whole within 3 (omega arith) in
      let n4 = node_same l words word whole within 4 (omega arith) in
      let n5 = node_same l words word whole within 5 (omega arith) in
      λ i n. key_of (n3 i n) (n4 i n) (n5 i n)

  evicts : EvictsLayer l words after
  evicts = eviction_mixes l words word whole within

  abbrev w : LayerWords
  w = layer_words l words Cached

  abbrev d : LayerWords
  d = layer_words l words Durable

  abbrev d' : LayerWords
  d' = layer_words l after Durable

  evicted_facts : facts_in r ghosts after ≡ record f { safe_line = lines; safe_layer = kept l d' }
  evicted_facts =
      cached_path r ghosts words after f.status f.stamp f.line.state (node_same l words word whole within) (λ o some. line_same l words word whole within o)
      (volatile_same l words word whole within 0 (omega arith)) (volatile_same l words word whole within 2 (omega arith)) (line_same l words word whole within 0 (omega arith))
      ∙ (λ i. record f { safe_line = lines; layer = kept l (evicts.cached i); safe_layer = kept l d' })

  even_after : LayerRests r words → AreEven w d'
  even_after rests = mixes_are_even w d d' rests.even evicts.durable

  even_cached : LayerRests r words → LayerRests r after
  even_cached rests = rest_evicts l words word whole within rests

  even_layer : LayerRests r words → AreSame (kept l d') f.layer
  even_layer even k = ap (λ (v : LayerWords). kept l v k) (even_are_same w d' (even_after even))

  loaded_after : (j offset : ℕ) (seen : List ℕ) → HasLoaded r words j offset seen → HasLoaded r after j offset seen
  loaded_after j offset seen is = record {
    size = is.size;
    most = is.most;
    named = is.named;
    same = λ k lt. ap (λ (g : ℕ → ℕ). g j) (line_same l words word whole within k (let most = is.most in omega arith)) ∙ is.same k lt;
  }

  target_after : (key : List ℕ) (target : RowTarget) → IsTargetFor r ghosts words key target → IsTargetFor r ghosts after key target
  target_after key target is =
      let version : node_field l after version_offset target.node ≡ node_field l words version_offset target.node = ap (λ (g : ℕ → ℕ). g target.node) (node_same l words word whole within 0 (omega arith)) in
      record {
        stands = λ stands. subst (λ (a : ℕ → ℕ). IsTarget (IsListed f) a (key_number key) target.node) (sym anchor_path) (is.stands (sym version ∙ stands));
        low = λ stands k lt. ap (λ (g : ℕ → ℕ). g target.node) (node_same l words word whole within (3 + k) (omega arith)) ∙ is.low (sym version ∙ stands) k lt;
      }

  reading_after : (j offset : ℕ) (seen : List ℕ) → LayerRests r words → IsDurableBut f.layer (kept l d') (reading_stage j offset seen)
  reading_after j zero seen even = even_layer even
  reading_after j (suc zero) seen even = even_layer even
  reading_after j (suc (suc zero)) seen even = even_layer even
  reading_after j (suc (suc (suc more))) seen even = even_layer even

  record After (s : RowStage) : Type 0 where
    pub sure : SureRow r ghosts after s
    pub durable : IsDurableBut f.layer (kept l d') (turn_stage s)

  changing_after : (e : RowLine) (node : ℕ) (s : Changing) → RowLawful r ghosts words (Changes e node s) → After (Changes e node s)
  changing_after e node s is =
      let before : Layer = is.sure.before in
      let sure = is.sure.sure in
      record {
        sure = record {
          before = before;
          few = is.sure.few;
          rooted = is.sure.rooted;
          zero = is.sure.zero;
          holds = root_evictions_keep l words s word within is.sure.holds;
          sure = evictions_keep l before (aim_of e node) s words word whole within sure;
          layer = subst (λ (v : LayerWords). LayerAt (aim_of e node) before s (kept l v)) (sym evicts.cached) is.sure.layer;
        };
        durable = mix_but (aim_of e node) before s f.layer (kept l d') is.sure.layer
            ((change_is_backed l (aim_of e node) before s w d (layer_marks l words) sure).layer d' evicts.durable);
      }

  stage_after : (s : RowStage) → RowLawful r ghosts words s → After s
  stage_after Resting is = record { sure = even_cached is.sure; durable = even_layer is.sure }
  stage_after (Between j) is = record { sure = even_cached is.sure; durable = even_layer is.sure }
  stage_after (Reads j offset seen) is = record { sure = (loaded_after j offset seen is.sure.0, even_cached is.sure.1); durable = reading_after j offset seen is.sure.1 }
  stage_after (Lands e) is = record { sure = (is.sure.0, even_cached is.sure.1); durable = even_layer is.sure.1 }
  stage_after (HasTarget e target) is = record { sure = (is.sure.0, is.sure.1, target_after e.anchor target is.sure.2, even_cached is.sure.3); durable = even_layer is.sure.3 }
  stage_after (Changes e node s) is = changing_after e node s is
  stage_after (Stamps e) is = record { sure = even_cached is.sure; durable = even_layer is.sure }
  stage_after (Clears j) is = record { sure = even_cached is.sure; durable = even_layer is.sure }
  stage_after (Sweeps n) is = record { sure = even_cached is.sure; durable = even_layer is.sure }
  stage_after (Gone n) is = record { sure = even_cached is.sure; durable = even_layer is.sure }
  stage_after (HasStamp n) is = record { sure = even_cached is.sure; durable = even_layer is.sure }
  stage_after (IsUnworn n) is = record { sure = even_cached is.sure; durable = even_layer is.sure }
  stage_after (Frees n) is = record { sure = even_cached is.sure; durable = even_layer is.sure }
  stage_after (Counts n none) is = record { sure = even_cached is.sure; durable = even_layer is.sure }

pub eviction_keeps_turn : EvictionKeepsTurn
eviction_keeps_turn r ghosts words s word row within is =
    let l : Layout = r.layout in
    let f : TurnFacts = facts_in r ghosts words in
    let after : List ℕ = evicted l words word in
    let lines : Lines = lines_in l after Durable in
    let safe : Layer = kept l (layer_words l after Durable) in
    let next = stage_after r ghosts words word row.whole within row.fits s is in
    let drained = other_keeps (terms_of r) f (record f { safe_line = lines }) (turn_stage s) is.law (drains_lines lines (lines_evict r ghosts words word row.whole within row.fits)) in
    let law = layer_evicts (terms_of r) (record f { safe_line = lines }) (turn_stage s) safe drained next.durable in
    record {
      order = subst (λ (v : LayerWords). IsKept l v) (sym (evicts r ghosts words word row.whole within row.fits).cached) is.order;
      rooted = subst (λ (v : LayerWords). kept l v 0 ≢ None) (sym (evicts r ghosts words word row.whole within row.fits).cached) is.rooted;
      sure = next.sure;
      law = subst (λ (g : TurnFacts). TurnLawful (terms_of r) g (turn_stage s)) (sym (evicted_facts r ghosts words word row.whole within row.fits)) law;
    }
