-- The drains of a call's log line, for the law of turns.
use Rattle.std.proofs.Common.{◌≡◌, ◌≢◌, ℕ, ◌+◌, ◌<◌, ◌^◌, inl, inr, ⊎_elim, ◌⊎◌, List, slice_set, refl, sym, ap, ◌∙◌}
use Rattle.std.proofs.Common.{subst, arith}
use Rattle.std.proofs.lemmas.Bool.{cases_eq}
use Rattle.pm_words.specs.declared.layout.Layout.{Layout}
use Rattle.pm_words.specs.Locations.{Word, Location, Line, Cached, Durable, Volatile, address_of}
use Rattle.pm_words.specs.Rows.{IsRow}
use Rattle.pm_words.proofs.Apart.{at-set_other}
use Rattle.pm_words.specs.Offsets.{anchor_offset, state_offset, stamp_offset}
use Rattle.pm_words.specs.Codes.{ready_state}
use Rattle.call_stages.specs.Lines.{HeldLine}
use Rattle.index_law.specs.Facts.{Facts}
use Rattle.index_law.specs.Lines.{SureLine}
use Rattle.layer_map.specs.Keys.{key_of}
use Rattle.layer_map.proofs.KeyLemmas.{words_told}
use Rattle.updater_law.specs.Covers.{LinesEvict}
use Rattle.updater_law.specs.OtherSteps.{OtherStep}
use Rattle.updater_law.specs.OtherSteps as others
use Rattle.updater_law.proofs.Columns.{here}
use Rattle.updater_row_law.specs.Columns.{line_field, line_count, line_word, lines_in, volatile_field}
use Rattle.updater_row_law.proofs.RowColumns.{column-alike, column-same, column-set, column_fits}
use Rattle.index_layer_law.proofs.FactTies.{rest_in, known, lines_same}
use Rattle.index_layer_law.proofs.CallMoves.{Moved, now_known}
use Rattle.index_layer_law.proofs.CallNotes.{line_there, number, number_within, same_number, own_place}
use Rattle.updater_row_law.specs.search_layer.specs.Rows.{HasSameLayer}
use Rattle.updater_row_law.specs.search_layer.proofs.RowLemmas.{layer_words_stay}
use Rattle.index_law.proofs.Places.{caller_at, number_at, offset_at}

-- one durable word of a line is another
module _ (l : Layout) (words : List ℕ) (row : IsRow l words) (e : HeldLine) (sure : SureLine l words e) (offset y : ℕ) (small : offset < 8) where
  abbrev p : Location
  p = Durable (Line e.caller e.number offset)

  abbrev pub drained : List ℕ
  drained = slice_set words (address_of l p) y

  abbrev mine : ℕ
  mine = number l words row e sure offset y small

  field_else : (o j : ℕ) → o < 8 → (j ≢ mine) ⊎ (o ≢ offset) → line_field l drained Durable o j ≡ line_field l words Durable o j
  field_else o j within apart = column-alike l words drained (line_count l) (λ i. Durable (line_word o i)) j (λ there. at-set_other l words p (Durable (line_word o j)) y (line_there l words row e sure offset y small) (omega arith, omega arith, within)
      (λ same. ⊎_elim (λ no. no (same_number l words row e sure offset y small j (ap caller_at same) (ap number_at same))) (λ no. no (ap offset_at same)) apart))

  field_here : line_field l drained Durable offset mine ≡ y
  field_here =
      ap (λ (column : ℕ → ℕ). column mine) (column-set l words p y (line_there l words row e sure offset y small) (line_count l) (λ j. Durable (line_word offset j)) mine row.whole (number_within l words row e sure offset y small)
      (own_place l words row e sure offset y small (λ w. Durable w)) (λ j there. (omega arith, omega arith, small)) (λ j there same. same_number l words row e sure offset y small j (ap caller_at same) (ap number_at same)))
      ∙ here (line_field l words Durable offset) mine mine y refl

  line_same : (o : ℕ) → o < 8 → line_field l drained Cached o ≡ line_field l words Cached o
  line_same o within = column-same l words drained (line_count l) (λ j. Cached (line_word o j)) (λ j there. at-set_other l words p (Cached (line_word o j)) y (line_there l words row e sure offset y small) (omega arith, omega arith, within) (λ same. cc))

  stamp_same : volatile_field l drained stamp_offset ≡ volatile_field l words stamp_offset
  stamp_same = column-same l words drained l.nodes (λ n. Volatile n stamp_offset) (λ n there. at-set_other l words p (Volatile n stamp_offset) y (line_there l words row e sure offset y small) (there, omega arith) (λ same. cc))

  pub layer_stay : HasSameLayer l words drained
  layer_stay = layer_words_stay l words p y (line_there l words row e sure offset y small) refl

  pub drained_path : rest_in l drained ≡ record (rest_in l words) { safe_line = lines_in l drained Durable }
  drained_path =
      λ k. record {
        stamp = stamp_same k;
        line = lines_same l words drained Cached line_same k;
        safe_line = lines_in l drained Durable;
        layer = layer_stay.cached k;
        safe_layer = layer_stay.durable k;
        marks = layer_stay.marks k;
        root = layer_stay.root k;
      }

  -- the word is the cached one, or the state READY of a line that waits
  module _ (what : (y ≡ line_field l words Cached offset mine) ⊎ ((offset ≡ state_offset) × (y ≡ ready_state))) where
    -- where both rows have a word, it stays
    both_stay : (o j : ℕ) → o < 8 → 0 < o → line_field l words Durable o j ≡ line_field l words Cached o j → line_field l drained Durable o j ≡ line_field l words Cached o j
    both_stay o j within positive same = ⊎_elim
        (λ (own : j ≡ mine). ⊎_elim
        (λ (at : o ≡ offset). (λ k. line_field l drained Durable (at k) (own k)) ∙ field_here
        ∙ ⊎_elim (λ cached. cached) (λ given. absurd (omega arith)) what ∙ sym (λ k. line_field l words Cached (at k) (own k)))
        (λ (apart : o ≢ offset). field_else o j within (inr apart) ∙ same)
        (cases_eq o offset))
        (λ (apart : j ≢ mine). field_else o j within (inl apart) ∙ same)
        (cases_eq j mine)

    evicts : LinesEvict (lines_in l words Cached) (lines_in l words Durable) (lines_in l drained Durable)
    evicts = record {
      state = λ j now safe none. ⊎_elim
          (λ (own : j ≡ mine). ⊎_elim
          (λ (at : 0 ≡ offset).
          let stored : line_field l drained Durable state_offset j ≡ y = (λ k. line_field l drained Durable (at k) (own k)) ∙ field_here in
          ⊎_elim (λ cached. now ((λ k. line_field l words Cached (at k) (own k)) ∙ sym cached ∙ sym stored ∙ none)) (λ given. let two = given.1 in absurd (omega arith)) what)
          (λ (apart : 0 ≢ offset). safe (sym (field_else state_offset j (omega arith) (inr apart)) ∙ none))
          (cases_eq 0 offset))
          (λ (apart : j ≢ mine). safe (sym (field_else state_offset j (omega arith) (inl apart)) ∙ none))
          (cases_eq j mine);
      anchor = λ j same.
          let fit : (w : Word → Location) (o : ℕ) → line_field l words w o j < 2 ^ 64 = λ w o. column_fits l words (line_count l) (λ i. w (line_word o i)) j row.fits in
          let told = words_told
          (line_field l words Durable anchor_offset j) (line_field l words Durable (anchor_offset + 1) j) (line_field l words Durable (anchor_offset + 2) j)
          (line_field l words Cached anchor_offset j) (line_field l words Cached (anchor_offset + 1) j) (line_field l words Cached (anchor_offset + 2) j)
          (fit (λ w. Durable w) 4) (fit (λ w. Durable w) 5) (fit (λ w. Cached w) 4) (fit (λ w. Cached w) 5) same in
          let first = both_stay anchor_offset j (omega arith) (omega arith) told.first in
          let second = both_stay (anchor_offset + 1) j (omega arith) (omega arith) told.second in
          let third = both_stay (anchor_offset + 2) j (omega arith) (omega arith) told.third in
          λ k. key_of (first k) (second k) (third k);
    }

    pub drain_moved : (g : ℕ) (f : Facts) (holder : ℕ → ℕ) → Moved (now_known l g f (rest_in l words) holder) (known l g f holder (rest_in l drained))
    drain_moved g f holder =
        inr (subst (OtherStep (now_known l g f (rest_in l words) holder)) (sym (ap (known l g f holder) drained_path)) (others.drains_lines (lines_in l drained Durable) evicts))
