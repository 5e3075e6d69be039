-- What leaves the search layer and the turns: parties that begin anew, a clock that does, and turns that rest.
use Rattle.std.proofs.Common.{◌≡◌, ℕ, ◌<◌, inl, inr, List, slice_set, Option, sym, ap, ◌∙◌, subst, arith, refl}
use mathlib.Core.Option.{some}
use lib.ListN.{get_elem?}
use Rattle.pm_words.specs.declared.layout.Layout.{Layout}
use Rattle.pm_words.specs.Locations.{Clock, Updater, Volatile, Cached, Durable}
use Rattle.pm_words.proofs.Apart.{at-set_other}
use Rattle.cat_history.specs.Maps.{Map}
use Rattle.cat_history.specs.declared.op.Write.{Write}
use Rattle.data_node.specs.Lists.{anchor_in}
use Rattle.pm_words.specs.Offsets.{stamp_offset}
use Rattle.call_stages.specs.Stages.{Stage, Gone, Idle, Joins, HoldsNode, IsSwitched}
use Rattle.call_stages.specs.Kinds.{clock_address}
use Rattle.call_stages.specs.Lines.{HeldLine}
use Rattle.call_stages.specs.Prevs.{Debt}
use Rattle.call_stages.specs.Watches.{Watching, Watches}
use Rattle.index_law.specs.Facts.{Facts, facts_of}
use Rattle.index_law.specs.Worlds.{Party, World, facts}
use Rattle.index_law.specs.Whole.{IsWhole}
use Rattle.index_law.specs.Footings.{AreTended}
use Rattle.index_law.proofs.Rows.{facts-elsewhere}
use Rattle.updater_law.specs.Covers.{IsCover}
use Rattle.updater_law.specs.Facts.{TurnFacts}
use Rattle.updater_row_law.specs.Columns.{line_field, line_count, line_word, lines_in}
use Rattle.updater_row_law.proofs.RowColumns.{column-alike}
use Rattle.updater_row_law.specs.RowStages.{RowTarget, Resting, HasTarget}
use Rattle.updater_row_law.specs.RowLaw.{RowLawful}
use Rattle.updater_row_law.specs.Turnings.{Turning}
use Rattle.index_layer_law.specs.Turnings.{terms_of, ghosts_of, line_number, SureWatch, IsShown}
use Rattle.index_layer_law.specs.Layers.{Layered, CoversNode, turn_facts, IsLayered}
use Rattle.index_layer_law.specs.Beginnings.{begun_anew, IsIdleOrKept, BeginningKeepsLayer, OtherTurnsMayRest}
use Rattle.index_layer_law.proofs.FactTies.{Rest, known, rest_in, facts_tie, rest_same, rest_layer}
use Rattle.index_layer_law.proofs.Retired.{retiring_lines}
use Rattle.index_layer_law.proofs.Switched.{unready_by, cover_same}
use Rattle.index_layer_law.proofs.CallRows.{row_after}
use Rattle.index_layer_law.proofs.TurnRests.{rests_for}
use Rattle.index_layer_law.proofs.TurnWalks.{watch_same, found_target}
use Rattle.updater_row_law.specs.search_layer.proofs.RowLemmas.{layer_words_stay}

module _ (z : Layered) (clock : ℕ) (parties : List Party) (base : Map) (history : List Write) (lines : List (Option HeldLine)) (debts : List Debt) (is : IsLayered z) where
  abbrev w : World
  w = z.whole.world

  abbrev l : Layout
  l = z.whole.world.layout

  abbrev words' : List ℕ
  words' = slice_set z.whole.world.words (clock_address z.whole.world.layout) clock

  abbrev w' : World
  w' = (begun_anew z.whole clock parties base history lines debts).world

  same_facts : facts w' ≡ facts_of l w.words base history
  same_facts = facts-elsewhere l w.words base history Clock clock tt (λ n offset e. cc, λ n e. cc)

  same_rest : rest_in l words' ≡ rest_in l w.words
  same_rest = rest_same l w.words words' (record {
    stamp = λ n here. at-set_other l w.words Clock (Volatile n stamp_offset) clock tt (here, omega arith) (λ e. cc);
    line = λ j o here small. at-set_other l w.words Clock (Cached (line_word o j)) clock tt (omega arith, omega arith, small) (λ e. cc);
    safe_line = λ j o here small. at-set_other l w.words Clock (Durable (line_word o j)) clock tt (omega arith, omega arith, small) (λ e. cc);
    layer = layer_words_stay l w.words Clock clock tt refl;
  })

  same_known : known l w.generation (facts w') is.holder (rest_in l words') ≡ known l w.generation (facts w) is.holder (rest_in l w.words)
  same_known = λ k. known l w.generation (same_facts k) is.holder (same_rest k)

  same_turn : (u : Turning) → turn_facts w' is.holder u ≡ turn_facts w is.holder u
  same_turn u = facts_tie w' is.holder u ∙ same_known ∙ sym (facts_tie w is.holder u)

  -- what walks rely on, base and history have no part in
  watch : (s : Watching) → SureWatch l w.generation (facts w) s → SureWatch l w.generation (facts w') s
  watch s = watch_same l w.generation (facts w) (facts w') s (ap (λ (f : Facts). f.version) same_facts) (ap (λ (f : Facts). f.now) same_facts) (ap (λ (f : Facts). f.list) same_facts)

  pub begun : IsWhole (begun_anew z.whole clock parties base history lines debts) → AreTended (begun_anew z.whole clock parties base history lines debts) → ((i : ℕ) (p : Party) → get_elem? parties i ≡ some p → IsIdleOrKept z.whole lines i p)
      → IsLayered (record { whole = begun_anew z.whole clock parties base history lines debts; turns = z.turns })
  begun whole tended kept = record {
    whole = whole;
    tended = tended;
    holder = is.holder;
    holders = λ i p n at_p holds. elim (kept i p at_p) [
      | inl idle ↦ absurd (subst (λ (s : Stage). HoldsNode s n) idle holds)
      | inr was ↦ is.holders i was.0 n was.1 (subst (λ (s : Stage). HoldsNode s n) (sym was.2) holds)
    ];
    one = is.one;
    active = is.active;
    lock = λ free. is.lock (sym (at-set_other l w.words Clock Updater clock tt tt (λ e. cc)) ∙ free);
    unlocked = λ rest. at-set_other l w.words Clock Updater clock tt tt (λ e. cc) ∙ is.unlocked rest;
    rows = λ i u at rests. row_after (terms_of w u) (ghosts_of w is.holder) (ghosts_of w' is.holder) w.words words' (rest_layer l w.words words' same_rest)
        (λ j two o small. at_line o small j) u.stage (inl (same_turn u))
        (λ e target has. found_target (terms_of w u) words' base history is.holder whole.joint.lawful.list e.anchor target (shown e.anchor target (is.shown i u e target at has)))
        (is.rows i u at rests);
    stamps = is.stamps;
    watches = λ i u at. watch u.watch (is.watches i u at);
    shown = λ i u e target at has. shown e.anchor target (is.shown i u e target at has);
    retiring = λ i p own u h left right at_p at_own stage. elim (kept i p at_p) [
      | inl idle ↦ absurd (let no : Idle ≡ Joins h left right Gone = sym idle ∙ stage in cc)
      | inr was ↦ retiring_lines (turn_facts w is.holder u) (turn_facts w' is.holder u) own right (ap (λ (f : TurnFacts). f.line) (same_turn u))
          (is.retiring i was.0 own u h left right was.1 (sym was.3 ∙ at_own) (was.2 ∙ stage))
    ];
    switched = λ i p n at_p is_switched. elim (kept i p at_p) [
      | inl idle ↦ absurd (subst (λ (s : Stage). IsSwitched s n) idle is_switched)
      | inr was ↦
          let covering = is.switched i was.0 n was.1 (subst (λ (s : Stage). IsSwitched s n) (sym was.2) is_switched) in
          (covering.0, was.3 ∙ covering.1, covers covering.0 n covering.2)
    ];
  }
    where
      covers : (own : Option HeldLine) (n : ℕ) → CoversNode w own n → CoversNode w' own n
      covers own n = unready_by (IsCover (lines_in l w.words Cached) (lines_in l w.words Durable) (anchor_in ((facts w).now n))) (IsCover (lines_in l words' Cached) (lines_in l words' Durable) (anchor_in ((facts w').now n))) own
          (λ e is_own unready.
          cover_same (lines_in l w.words Cached) (lines_in l words' Cached) (lines_in l w.words Durable) (lines_in l words' Durable) (anchor_in ((facts w).now n)) (anchor_in ((facts w').now n)) (line_number e)
          (ap (λ (r : Rest). r.line) same_rest) (ap (λ (r : Rest). r.safe_line) same_rest) (ap (λ (f : Facts). anchor_in (f.now n)) same_facts))

      at_line : (o : ℕ) → o < 8 → (j : ℕ) → line_field l words' Cached o j ≡ line_field l w.words Cached o j
      at_line o small j = column-alike l w.words words' (line_count l) (λ m. Cached (line_word o m)) j
          (λ here. at-set_other l w.words Clock (Cached (line_word o j)) clock tt (omega arith, omega arith, small) (λ e. cc))

      shown : (key : List ℕ) (target : RowTarget) → IsShown l w.generation (facts w) key target → IsShown l w.generation (facts w') key target
      shown key target is_shown = record { sight = is_shown.sight; sure = watch (Watches target.node target.version is_shown.sight) is_shown.sure; seen = is_shown.seen }

pub beginning_keeps_layer : BeginningKeepsLayer
beginning_keeps_layer z clock parties base history lines debts is whole tended kept = begun z clock parties base history lines debts is whole tended kept

pub other_turns_may_rest : OtherTurnsMayRest
other_turns_may_rest z turns i t is rested rest there =
    let w : World = z.whole.world in
    let active = is.active in
    let row = subst (RowLawful (terms_of w active.1) (ghosts_of w is.holder) w.words) (rested active.0 active.1 active.2) (is.rows active.0 active.1 active.2 active.3) in
    record {
      whole = is.whole;
      tended = is.tended;
      holder = is.holder;
      holders = is.holders;
      one = λ j k u v at_u at_v busy_u busy_v. absurd (busy_u (rest j u at_u).stage);
      active = (i, t, there, λ j u at_u other. (rest j u at_u).stage);
      lock = λ free j u at_u. (rest j u at_u).stage;
      unlocked = λ all_rest. is.unlocked rested;
      rows = λ j u at_u others. subst (RowLawful (terms_of w u) (ghosts_of w is.holder) w.words) (sym (rest j u at_u).stage)
          (rests_for w (ghosts_of w is.holder) w.words active.1 u (rest j u at_u).stamp row);
      stamps = λ j u at_u. (rest j u at_u).stamp;
      watches = λ j u at_u. subst (SureWatch w.layout w.generation (facts w)) (sym (rest j u at_u).watch) tt;
      shown = λ j u e target at_u stage. absurd (let no : Resting ≡ HasTarget e target = sym (rest j u at_u).stage ∙ stage in cc);
      retiring = is.retiring;
      switched = is.switched;
    }
