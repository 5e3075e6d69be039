-- A word that becomes durable leaves all that holds of the search layer and of the turns.
use Rattle.std.proofs.Common.{◌≡◌, ℕ, ◌<◌, slice_index, refl, sym, ap, ◌∙◌, subst, arith}
use Rattle.std.proofs.lemmas.List.{get_or-set_other}
use Rattle.pm_words.specs.declared.layout.Layout.{Layout}
use Rattle.pm_words.specs.Locations.{Updater, Cached, Durable, address_of, cached_address, durable_address}
use Rattle.pm_words.specs.Rows.{IsRow}
use Rattle.data_node.specs.Lists.{anchor_in}
use Rattle.updater_law.specs.Covers.{IsCover}
use Rattle.updater_law.proofs.Covers.{cover_evicts}
use Rattle.updater_row_law.specs.Columns.{Ghosts, line_field, line_count, line_word, lines_in}
use Rattle.updater_row_law.specs.RowLaw.{RowLawful}
use Rattle.updater_row_law.proofs.RowColumns.{column-same}
use Rattle.updater_row_law.proofs.RowEvicts.{cached, lines_evict, eviction_keeps_turn}
use Rattle.index_law.specs.Facts.{Facts}
use Rattle.index_law.specs.Worlds.{World, facts, evicted_world}
use Rattle.index_law.proofs.Evictions.{evict_facts}
use Rattle.index_law.proofs.Footed.{evict_footed}
use Rattle.index_layer_law.specs.Turnings.{terms_of, is_listed, ghosts_of, line_number, SureWatch, IsShown}
use Rattle.index_layer_law.specs.Layers.{turn_facts}
use Rattle.index_layer_law.specs.Laws.{EvictionKeepsLayer}
use Rattle.index_layer_law.proofs.FactTies.{lines_same}
use Rattle.index_layer_law.proofs.Retired.{retiring_lines}
use Rattle.index_layer_law.proofs.Switched.{unready_by, cover_same}

pub eviction_keeps_layer : EvictionKeepsLayer
eviction_keeps_layer z word is within =
    let footed = evict_footed z.whole word (is.whole, is.tended) within in
    let w : World = z.whole.world in
    let w' : World = evicted_world z.whole.world word in
    let l : Layout = z.whole.world.layout in
    let row : IsRow l w.words = is.whole.joint.lawful.row in
    let same : facts w' ≡ facts w = evict_facts w word in
    let ghosts : Path Ghosts (ghosts_of w is.holder) (ghosts_of w' is.holder) = λ k. record { listed = is_listed (sym same k); holder = is.holder } in
    let lines : (offset : ℕ) → offset < 8 → line_field l w'.words Cached offset ≡ line_field l w.words Cached offset =
    λ offset small. column-same l w.words w'.words (line_count l) (λ j. Cached (line_word offset j)) (λ j here. cached l w.words word row.whole within (line_word offset j) (omega arith, omega arith, small)) in
    record {
      whole = footed.0;
      tended = footed.1;
      holder = is.holder;
      holders = is.holders;
      one = is.one;
      active = is.active;
      lock = λ free. is.lock (sym (get_or-set_other w.words (durable_address l word) (address_of l Updater) (slice_index w.words (cached_address l word)) 0 (λ e. absurd (omega (arith, e)))) ∙ free);
      unlocked = λ rest. get_or-set_other w.words (durable_address l word) (address_of l Updater) (slice_index w.words (cached_address l word)) 0 (λ e. absurd (omega (arith, e))) ∙ is.unlocked rest;
      rows = λ i t there rests. subst (λ (q : Ghosts). RowLawful (terms_of w t) q w'.words t.stage) ghosts
          (eviction_keeps_turn (terms_of w t) (ghosts_of w is.holder) w.words t.stage word row within (is.rows i t there rests));
      stamps = is.stamps;
      watches = λ i t there. subst (λ (f : Facts). SureWatch l w.generation f t.watch) (sym same) (is.watches i t there);
      shown = λ i t e target there stage. subst (λ (f : Facts). IsShown l w.generation f e.anchor target) (sym same) (is.shown i t e target there stage);
      retiring = λ i p line t h left right there at_line stage. retiring_lines (turn_facts w is.holder t) (turn_facts w' is.holder t) line right (lines_same l w.words w'.words Cached lines) (is.retiring i p line t h left right there at_line stage);
      switched = λ i p n there is_switched. let covering = is.switched i p n there is_switched in (
        covering.0,
        covering.1,
        unready_by (IsCover (lines_in l w.words Cached) (lines_in l w.words Durable) (anchor_in ((facts w).now n)))
            (IsCover (lines_in l w'.words Cached) (lines_in l w'.words Durable) (anchor_in ((facts w').now n))) covering.0
            (λ e is_own unready cover.
            cover_same (lines_in l w.words Cached) (lines_in l w'.words Cached) (lines_in l w'.words Durable) (lines_in l w'.words Durable) (anchor_in ((facts w).now n)) (anchor_in ((facts w').now n)) (line_number e)
            (lines_same l w.words w'.words Cached lines) refl (ap (λ (f : Facts). anchor_in (f.now n)) same)
            (cover_evicts (lines_in l w.words Cached) (lines_in l w.words Durable) (lines_in l w'.words Durable) (anchor_in ((facts w).now n)) (line_number e)
            (lines_evict (terms_of w is.active.1) (ghosts_of w is.holder) w.words word row.whole within row.fits) cover))
            covering.2,
      );
    }
