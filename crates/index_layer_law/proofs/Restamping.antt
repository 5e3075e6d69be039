-- A stamp that becomes another leaves the search layer where no turn is in flight: only whether a node has one matters.
use Rattle.std.proofs.Common.{◌≡◌, ◌≢◌, ℕ, ◌<◌, inl, inr, List, slice_set, Option, None, sym, ap, ◌∙◌, subst, arith}
use Rattle.std.proofs.Common.{refl}
use Rattle.std.proofs.lemmas.Bool.{cases_eq}
use Rattle.pm_words.specs.declared.layout.Layout.{Layout}
use Rattle.pm_words.specs.Locations.{Word, Location, Updater, Volatile, Cached, Durable, HasLocation, address_of, at}
use Rattle.pm_words.proofs.Apart.{at-set_other, at-set_same}
use Rattle.data_node.specs.Lists.{anchor_in}
use Rattle.pm_words.specs.Offsets.{stamp_offset}
use Rattle.call_stages.specs.Lines.{HeldLine}
use Rattle.index_law.specs.Facts.{Facts}
use Rattle.index_law.specs.Worlds.{World, facts}
use Rattle.index_law.proofs.Rows.{facts-elsewhere}
use Rattle.updater_row_law.specs.search_layer.specs.Rows.{LayerWords, HasSameLayer}
use Rattle.updater_row_law.specs.search_layer.specs.Kept.{kept, IsKept}
use Rattle.updater_row_law.specs.search_layer.proofs.RowLemmas.{layer_words_stay}
use Rattle.updater_row_law.specs.search_layer.proofs.BesideLemmas.{rest_stays}
use Rattle.updater_law.specs.Covers.{IsCover}
use Rattle.updater_law.specs.Facts.{TurnTerms, TurnFacts}
use Rattle.updater_law.specs.Lawful.{TurnLawful}
use Rattle.updater_law.specs.TurnStages as turns
use Rattle.updater_row_law.specs.Columns.{line_word, volatile_field}
use Rattle.updater_row_law.specs.Columns as columns
use Rattle.updater_row_law.specs.RowStages.{Resting, HasTarget}
use Rattle.updater_row_law.specs.RowLaw.{RowLawful}
use Rattle.updater_row_law.specs.Turnings.{Turning}
use Rattle.updater_row_law.proofs.RowColumns.{column-here, column-alike, column-same}
use Rattle.index_layer_law.specs.Turnings.{terms_of, ghosts_of, line_number, SureWatch}
use Rattle.index_layer_law.specs.Layers.{Layered, CoversNode, turn_facts, IsLayered}
use Rattle.index_layer_law.specs.Beginnings.{restamped, StampKeepsLayer}
use Rattle.index_layer_law.proofs.FactTies.{known, facts_tie, lines_same}
use Rattle.index_layer_law.proofs.Retired.{retiring_lines}
use Rattle.index_layer_law.proofs.Switched.{unready_by, cover_same}
use Rattle.index_law.proofs.Places.{node_at, offset_at}

-- for a turn that rests, stamps of which the same are 0
with_stamps : (c : TurnTerms) (f : TurnFacts) (stamp : ℕ → ℕ) → ((n : ℕ) → f.stamp n ≡ 0 → stamp n ≡ 0) → ((n : ℕ) → stamp n ≡ 0 → f.stamp n ≡ 0) → TurnLawful c f turns.Resting → TurnLawful c (record f { stamp = stamp }) turns.Resting
with_stamps c f stamp forth back is = record {
  stamped_by = is.stamped_by;
  durable = is.durable;
  led = λ key node leads. let led = is.led key node leads in record { anchor = led.anchor; status = led.status; stamp = forth node led.stamp; not_freed = led.not_freed };
  covered = is.covered;
  apart = is.apart;
  live = is.live;
  marked = λ n some. is.marked n (λ none. some (forth n none));
  owned = λ n gone bare. elim (is.owned n gone (back n bare)) [
    | inl ready ↦ inl (record { line = ready.line; state = ready.state; kind = ready.kind; node = ready.node })
    | inr other ↦ inr other
  ];
  ready = λ j state. let ready = is.ready j state in record { safe_state = ready.safe_state; safe_anchor = ready.safe_anchor; busy = ready.busy };
  merges = λ j state kind. let merge = is.merges j state kind in record { gone = merge.gone; anchor = merge.anchor; stamp = elim merge.stamp [ inl none ↦ inl (forth (f.line.node j) none) | inr own ↦ inr own ]; alone = merge.alone };
  sure = tt;
}

module _ (z : Layered) (n y : ℕ) (is : IsLayered z) (here : n < z.whole.world.layout.nodes) where
  abbrev w : World
  w = z.whole.world

  abbrev l : Layout
  l = z.whole.world.layout

  abbrev words' : List ℕ
  words' = slice_set z.whole.world.words (address_of z.whole.world.layout (Volatile n stamp_offset)) y

  abbrev w' : World
  w' = record (z.whole.world) { words = slice_set z.whole.world.words (address_of z.whole.world.layout (Volatile n stamp_offset)) y }

  has : HasLocation l (Volatile n stamp_offset)
  has = (here, omega arith)

  elsewhere : (p : Location) → HasLocation l p → p ≢ Volatile n stamp_offset → at l words' p ≡ at l w.words p
  elsewhere p there other = at-set_other l w.words (Volatile n stamp_offset) p y has there other

  same_facts : facts w' ≡ facts w
  same_facts = facts-elsewhere l w.words w.base w.history (Volatile n stamp_offset) y has (λ m o e. cc, λ m e. let no : 2 ≡ 0 = ap offset_at e in omega arith)

  fields_same : (twin : Word → Location) → ((j o : ℕ) → j < columns.line_count l → o < 8 → at l words' (twin (line_word o j)) ≡ at l w.words (twin (line_word o j))) → columns.lines_in l words' twin ≡ columns.lines_in l w.words twin
  fields_same twin same = lines_same l w.words words' twin (λ o small. column-same l w.words words' (columns.line_count l) (λ j. twin (line_word o j)) (λ j there. same j o there small))

  lines_are : columns.lines_in l words' Cached ≡ columns.lines_in l w.words Cached
  lines_are = fields_same Cached (λ j o there small. elsewhere (Cached (line_word o j)) (omega arith, omega arith, small) (λ e. cc))

  safe_lines_are : columns.lines_in l words' Durable ≡ columns.lines_in l w.words Durable
  safe_lines_are = fields_same Durable (λ j o there small. elsewhere (Durable (line_word o j)) (omega arith, omega arith, small) (λ e. cc))

  layer_stays : HasSameLayer l w.words words'
  layer_stays = layer_words_stay l w.words (Volatile n stamp_offset) y has refl

  covers_same : (own : Option HeldLine) (m : ℕ) → CoversNode w own m → CoversNode w' own m
  covers_same own m = unready_by (IsCover (columns.lines_in l w.words Cached) (columns.lines_in l w.words Durable) (anchor_in ((facts w).now m)))
      (IsCover (columns.lines_in l words' Cached) (columns.lines_in l words' Durable) (anchor_in ((facts w').now m))) own
      (λ e is_own unready.
      cover_same (columns.lines_in l w.words Cached) (columns.lines_in l words' Cached) (columns.lines_in l w.words Durable) (columns.lines_in l words' Durable) (anchor_in ((facts w).now m)) (anchor_in ((facts w').now m))
      (line_number e) lines_are safe_lines_are (ap (λ (f : Facts). anchor_in (f.now m)) same_facts))

  -- but for the stamps the law of turns knows the same
  same_turn : (u : Turning) → turn_facts w' is.holder u ≡ record (turn_facts w is.holder u) { stamp = volatile_field l words' stamp_offset }
  same_turn u =
      facts_tie w' is.holder u
      ∙ (λ k. known l w.generation (same_facts k) is.holder (record { stamp = volatile_field l words' stamp_offset; line = lines_are k; safe_line = safe_lines_are k; layer = layer_stays.cached k; safe_layer = layer_stays.durable k; marks = layer_stays.marks k; root = layer_stays.root k }))
      ∙ sym (ap (λ (f : TurnFacts). record f { stamp = volatile_field l words' stamp_offset }) (facts_tie w is.holder u))

  stamp_else : (m : ℕ) → m ≢ n → volatile_field l words' stamp_offset m ≡ volatile_field l w.words stamp_offset m
  stamp_else m other = column-alike l w.words words' l.nodes (λ k. Volatile k stamp_offset) m (λ there. elsewhere (Volatile m stamp_offset) (there, omega arith) (λ e. other (ap node_at e)))

  module _ (has_some : at z.whole.world.layout z.whole.world.words (Volatile n stamp_offset) ≢ 0) (still : y ≢ 0) where
    forth : (m : ℕ) → volatile_field l w.words stamp_offset m ≡ 0 → volatile_field l words' stamp_offset m ≡ 0
    forth m none = elim (cases_eq m n) [
      | inl e ↦ absurd (has_some (sym (column-here l w.words l.nodes (λ k. Volatile k stamp_offset) n here) ∙ ap (volatile_field l w.words stamp_offset) (sym e) ∙ none))
      | inr other ↦ stamp_else m other ∙ none
    ]

    back : (m : ℕ) → volatile_field l words' stamp_offset m ≡ 0 → volatile_field l w.words stamp_offset m ≡ 0
    back m none = elim (cases_eq m n) [
      | inl e ↦ absurd (still (sym (at-set_same l w.words (Volatile n stamp_offset) y is.whole.joint.lawful.row.whole has) ∙ sym (column-here l words' l.nodes (λ k. Volatile k stamp_offset) n here) ∙ ap (volatile_field l words' stamp_offset) (sym e) ∙ none))
      | inr other ↦ sym (stamp_else m other) ∙ none
    ]

    row_is : (u : Turning) → RowLawful (terms_of w u) (ghosts_of w is.holder) w.words Resting → RowLawful (terms_of w' u) (ghosts_of w' is.holder) words' Resting
    row_is u row = record {
      order = subst (λ (v : LayerWords). IsKept l v) (sym layer_stays.cached) row.order;
      rooted = subst (λ (v : LayerWords). kept l v 0 ≢ None) (sym layer_stays.cached) row.rooted;
      sure = rest_stays l w.words words' layer_stays row.sure;
      law = subst (λ (f : TurnFacts). TurnLawful (columns.terms_of (terms_of w u)) f turns.Resting) (sym (same_turn u))
          (with_stamps (columns.terms_of (terms_of w u)) (turn_facts w is.holder u) (volatile_field l words' stamp_offset) forth back row.law);
    }

pub stamp_keeps_layer : StampKeepsLayer
stamp_keeps_layer z n y is rests here has_some still whole tended =
    let w : World = z.whole.world in
    let w2 : World = (restamped z.whole n y).world in
    record {
      whole = whole;
      tended = tended;
      holder = is.holder;
      holders = is.holders;
      one = is.one;
      active = is.active;
      lock = λ free. is.lock (sym (elsewhere z n y is here Updater tt (λ e. cc)) ∙ free);
      unlocked = λ all_rest. elsewhere z n y is here Updater tt (λ e. cc) ∙ is.unlocked all_rest;
      rows = λ i u at_u others. subst (RowLawful (terms_of w2 u) (ghosts_of w2 is.holder) w2.words) (sym (rests i u at_u))
          (row_is z n y is here has_some still u (subst (RowLawful (terms_of w u) (ghosts_of w is.holder) w.words) (rests i u at_u) (is.rows i u at_u others)));
      stamps = is.stamps;
      watches = λ i u at_u. subst (λ (f : Facts). SureWatch w.layout w.generation f u.watch) (sym (same_facts z n y is here)) (is.watches i u at_u);
      shown = λ i u e target at_u has_target. absurd (let no : Resting ≡ HasTarget e target = sym (rests i u at_u) ∙ has_target in cc);
      retiring = λ i p own u h left right at_p at_own stage. retiring_lines (turn_facts w is.holder u) (turn_facts w2 is.holder u) own right (ap (λ (f : TurnFacts). f.line) (same_turn z n y is here u))
          (is.retiring i p own u h left right at_p at_own stage);
      switched = λ i p m at_p is_switched. let covering = is.switched i p m at_p is_switched in (covering.0, covering.1, covers_same z n y is here covering.0 m covering.2);
    }
