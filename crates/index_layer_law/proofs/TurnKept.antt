-- What a step of a turn keeps of the index.
use Rattle.std.proofs.Common.{◌≡◌, ◌≢◌, ℕ, ◌/◌, ◌%◌, ◌<◌, ⊎_elim, inl, inr, Bool, true, false, not, List, slice_set, refl, sym, ap, ◌∙◌, subst, arith, ◌⊎◌, cond}
use Rattle.std.specs.Prelude.{Option, Some, None, IfSome}
use Rattle.std.proofs.lemmas.Bool.{cases_eq, eq-eqb, ne_eqb}
use mathlib.Core.Option.{some}
use lib.ListN.{get_elem?}
use Rattle.pm_words.specs.Codes.{free_status, gone_status, ready_state, merge_kind, empty_state}
use Rattle.pm_words.specs.declared.layout.Layout.{Layout}
use Rattle.pm_words.specs.Locations.{Location, Line, Volatile, Cached, Durable}
use Rattle.pm_words.specs.Rows.{IsRow}
use Rattle.pm_words.proofs.Apart.{at-set_other}
use Rattle.version_lock.specs.Versions.{IsFree, is_free_word}
use Rattle.version_lock.proofs.WordTests.{free_word}
use Rattle.data_node.specs.Spots.{Spot}
use Rattle.data_node.specs.Lists.{anchor_in}
use Rattle.pm_words.specs.Offsets.{version_offset, state_offset, kind_offset, line_node_offset, status_offset}
use Rattle.call_stages.specs.Stages.{Held, Grip, Gone, Stage, Joins, IsSwitched}
use Rattle.call_stages.specs.Lines.{HeldLine}
use Rattle.updater_law.specs.Covers.{set_at, IsCover}
use Rattle.updater_law.proofs.Covers.{cover_apart}
use Rattle.updater_law.specs.Lawful.{IsCarried, IsFreeing}
use Rattle.updater_law.proofs.Columns as columns
use Rattle.updater_row_law.specs.Columns.{Ghosts, RowTerms, line_count, line_word, line_field, lines_in, node_field, facts_in}
use Rattle.updater_row_law.specs.Columns as rows
use Rattle.updater_row_law.specs.RowSteps.{line_at, volatile_at}
use Rattle.updater_row_law.proofs.RowColumns.{column-here, column-same}
use Rattle.updater_row_law.proofs.RowStores.{line_emptied}
use Rattle.index_law.specs.Facts.{Facts, version_in, spot_in, list_in, status_in}
use Rattle.index_law.specs.Lines.{line_in}
use Rattle.index_law.specs.Worlds.{Party, facts}
use Rattle.index_law.specs.Lawful.{Sure}
use Rattle.index_law.specs.Whole.{Whole, IsWhole}
use Rattle.index_law.specs.Footings.{AreTended}
use Rattle.index_law.proofs.Locks.{own_of}
use Rattle.index_law.proofs.Noting.{line-here, store_leaves}
use Rattle.index_law.proofs.Rows.{facts-elsewhere, facts-status, status_in-here}
use Rattle.index_law.proofs.Versions.{unfree}
use Rattle.updater_row_law.specs.Turnings.{Turning}
use Rattle.index_layer_law.specs.Turnings.{terms_of, ghosts_of, line_number}
use Rattle.index_layer_law.specs.Layers.{IsRetiring, CoversNode, turn_facts}
use Rattle.index_layer_law.proofs.FactTies.{version_tie, lines_same}
use Rattle.index_layer_law.proofs.Retired.{retiring_lines}
use Rattle.index_layer_law.proofs.CallLines.{line_tie}
use Rattle.index_layer_law.proofs.Switched.{unready_by, cover_same}
use Rattle.index_layer_law.proofs.TurnAside.{KeepsRest, facts_kept, lines_kept, aside_whole, still_tended}
use Rattle.index_layer_law.proofs.TurnFrees.{freed_whole}
use Rattle.index_layer_law.proofs.TurnLines.{line_either, emptied_whole}
use Rattle.index_layer_law.proofs.TurnTouches.{Touches, is_aside, is_emptied, is_freed}

abbrev offset_in : Location → ℕ
offset_in (Cached (Line c j o)) = o
offset_in _ = 0

-- a line's words by its number among all
number_tie : (l : Layout) (words : List ℕ) (j offset : ℕ) → j < line_count l → offset < 8 → line_field l words Cached offset j ≡ line_in l words (j / 8) (j % 8) offset
number_tie l words j offset here small =
    column-here l words (line_count l) (λ k. Cached (line_word offset k)) j here ∙ sym (line-here l words (j / 8) (j % 8) offset (omega arith, omega arith, small))

not_false : (b : Bool) → not b ≡ false → b ≡ true
not_false true is = refl
not_false false is = absurd (let no : true ≡ false = is in cc)

-- a node that isn't held, as the law of turns has it, has a free version word
told_free : (l : Layout) (g : ℕ) (words : List ℕ) (n : ℕ) → not (is_free_word (node_field l words version_offset n) g) ≡ false → IsFree (version_in l words n) g
told_free l g words n is = subst (λ v. IsFree v g) (version_tie l words n) (free_word (node_field l words version_offset n) g (not_false (is_free_word (node_field l words version_offset n) g) is))

-- the index afterwards
pub record Keeps (z : Whole) (holder : ℕ → ℕ) (after : List ℕ) : Type 0 where
  pub whole : IsWhole (record z { world = record (z.world) { words = after } })
  pub tended : AreTended (record z { world = record (z.world) { words = after } })
  pub version : version_in z.world.layout after ≡ version_in z.world.layout z.world.words
  pub now : spot_in z.world.layout after ≡ spot_in z.world.layout z.world.words
  pub list : list_in z.world.layout after ≡ list_in z.world.layout z.world.words
  pub statuses : (n : ℕ) → (status_in z.world.layout after n ≡ status_in z.world.layout z.world.words n) ⊎ (status_in z.world.layout after n ≡ free_status)
  pub retiring : (i : ℕ) (p : Party) (line : Option HeldLine) (u : Turning) (h : Held) (left right : Grip) → get_elem? z.world.parties i ≡ some p → get_elem? z.lines i ≡ some line
      → p.stage ≡ Joins h left right Gone → IsRetiring (turn_facts z.world holder u) line right → IsRetiring (turn_facts (record (z.world) { words = after }) holder u) line right
  pub switched : (i : ℕ) (p : Party) (line : Option HeldLine) (n : ℕ) → get_elem? z.world.parties i ≡ some p → get_elem? z.lines i ≡ some line
      → IsSwitched p.stage n → CoversNode z.world line n → CoversNode (record (z.world) { words = after }) line n

module _ (z : Whole) (holder : ℕ → ℕ) (t : Turning) (whole : IsWhole z) (tended : AreTended z) where
  open z.world use {layout as l, generation as g, words}

  abbrev f : Facts
  f = facts z.world

  abbrev r : RowTerms
  r = terms_of z.world t

  abbrev ghosts : Ghosts
  ghosts = ghosts_of z.world holder

  row : IsRow z.world.layout z.world.words
  row = whole.joint.lawful.row

  -- where lines and anchors stay, so does what covers a node
  covers_kept : (after : List ℕ) → lines_in l after Cached ≡ lines_in l words Cached → lines_in l after Durable ≡ lines_in l words Durable → spot_in l after ≡ spot_in l words
      → (line : Option HeldLine) (n : ℕ) → CoversNode z.world line n → CoversNode (record (z.world) { words = after }) line n
  covers_kept after lines safe_lines now line n = unready_by (IsCover (lines_in l words Cached) (lines_in l words Durable) (anchor_in (spot_in l words n)))
      (IsCover (lines_in l after Cached) (lines_in l after Durable) (anchor_in (spot_in l after n))) line
      (λ e is_own unready.
      cover_same (lines_in l words Cached) (lines_in l after Cached) (lines_in l words Durable) (lines_in l after Durable) (anchor_in (spot_in l words n)) (anchor_in (spot_in l after n)) (line_number e)
      lines safe_lines (ap (λ (now : ℕ → Spot). anchor_in (now n)) now))

  keeps_aside : (after : List ℕ) → IsRow l after → KeepsRest l words after → Keeps z holder after
  keeps_aside after row' same =
      let facts_same = facts_kept l words after same z.world.base z.world.history in
      let lines : (offset : ℕ) → offset < 8 → line_field l after Cached offset ≡ line_field l words Cached offset =
      λ offset small. column-same l words after (line_count l) (λ j. Cached (line_word offset j))
      (λ j lt. same.rest (Cached (line_word offset j)) (omega arith, omega arith, small) (record { lock = λ e. cc; stamp = λ n e. cc; layer = refl })) in
      let safe_lines : (offset : ℕ) → offset < 8 → line_field l after Durable offset ≡ line_field l words Durable offset =
      λ offset small. column-same l words after (line_count l) (λ j. Durable (line_word offset j))
      (λ j lt. same.rest (Durable (line_word offset j)) (omega arith, omega arith, small) (record { lock = λ e. cc; stamp = λ n e. cc; layer = refl })) in
      record {
        whole = aside_whole z after same row' whole;
        tended = still_tended z after (λ c j. inr (lines_kept l words after same c j 0).0) tended;
        version = ap (λ (φ : Facts). φ.version) facts_same;
        now = ap (λ (φ : Facts). φ.now) facts_same;
        list = ap (λ (φ : Facts). φ.list) facts_same;
        statuses = λ n. inl (ap (λ (φ : Facts). φ.status n) facts_same);
        retiring = λ i p line u h left right at_p at_line stage. retiring_lines (turn_facts z.world holder u) (turn_facts (record (z.world) { words = after }) holder u) line right (lines_same l words after Cached lines);
        switched = λ i p line m at_p at_line is_switched. covers_kept after (lines_same l words after Cached lines) (lines_same l words after Durable safe_lines) (ap (λ (φ : Facts). φ.now) facts_same) line m;
      }

  keeps_freed : (n : ℕ) → n < l.nodes → IsFreeing (facts_in r ghosts words) n → IsRow l (slice_set words (volatile_at l n status_offset) 0) → Keeps z holder (slice_set words (volatile_at l n status_offset) 0)
  keeps_freed n here freeing row' =
      let after : List ℕ = slice_set words (volatile_at l n status_offset) 0 in
      let facts_same = facts-status l words z.world.base z.world.history n 0 row.whole here in
      let gone : f.status n ≡ gone_status = status_in-here l words n here ∙ sym (column-here l words l.nodes (λ k. Volatile k status_offset) n here) ∙ freeing.gone in
      let lines : (offset : ℕ) → offset < 8 → line_field l after Cached offset ≡ line_field l words Cached offset =
      λ offset small. column-same l words after (line_count l) (λ j. Cached (line_word offset j))
      (λ j lt. at-set_other l words (Volatile n status_offset) (Cached (line_word offset j)) 0 (here, omega arith) (omega arith, omega arith, small) (λ e. cc)) in
      let safe_lines : (offset : ℕ) → offset < 8 → line_field l after Durable offset ≡ line_field l words Durable offset =
      λ offset small. column-same l words after (line_count l) (λ j. Durable (line_word offset j))
      (λ j lt. at-set_other l words (Volatile n status_offset) (Durable (line_word offset j)) 0 (here, omega arith) (omega arith, omega arith, small) (λ e. cc)) in
      record {
        whole = freed_whole z n here gone (told_free l g words n freeing.free) row row' whole;
        tended = still_tended z after (λ c j. inr (store_leaves l words (Volatile n status_offset) 0 (here, omega arith) (λ d k o. (λ e. cc, λ e. cc)) c j state_offset).0) tended;
        version = ap (λ (φ : Facts). φ.version) facts_same;
        now = ap (λ (φ : Facts). φ.now) facts_same;
        list = ap (λ (φ : Facts). φ.list) facts_same;
        statuses = λ m. elim (cases_eq m n) [
          | inl e ↦ inr (ap (λ (φ : Facts). φ.status m) facts_same ∙ ap (λ b. cond b 0 (f.status m)) (eq-eqb m n e))
          | inr other ↦ inl (ap (λ (φ : Facts). φ.status m) facts_same ∙ ap (λ b. cond b 0 (f.status m)) (ne_eqb m n other))
        ];
        retiring = λ i p line u h left right at_p at_line stage. retiring_lines (turn_facts z.world holder u) (turn_facts (record (z.world) { words = after }) holder u) line right (lines_same l words after Cached lines);
        switched = λ i p line m at_p at_line is_switched. covers_kept after (lines_same l words after Cached lines) (lines_same l words after Durable safe_lines) (ap (λ (φ : Facts). φ.now) facts_same) line m;
      }

  module _ (j : ℕ) (here : j < line_count z.world.layout) (carried : IsCarried (rows.terms_of (terms_of z.world t)) (facts_in (terms_of z.world t) (ghosts_of z.world holder) z.world.words) j) where
    abbrev emptied : List ℕ
    emptied = slice_set words (line_at l j state_offset) 0

    state_set : line_field l emptied Cached state_offset ≡ set_at (line_field l words Cached state_offset) j empty_state
    state_set = ap (λ φ. φ.line.state) (line_emptied r ghosts words j row.whole here).facts

    two : line_in l words (j / 8) (j % 8) state_offset ≡ ready_state
    two = sym (number_tie l words j state_offset here (omega arith)) ∙ ap (line_field l words Cached state_offset) (sym carried.line) ∙ carried.decided.at_hand.state

    -- it is the line of no merge whose right node is held still
    released : (i : ℕ) (p : Party) (e : HeldLine) (h : Held) (left right : Grip) → get_elem? z.world.parties i ≡ some p
        → p.stage ≡ Joins h left right Gone → (line_field l words Cached kind_offset (line_number e) ≡ merge_kind) × (line_field l words Cached line_node_offset (line_number e) ≡ right.node) → line_number e ≢ j
    released i p e h left right at_p stage merge same =
        let at_hand = carried.decided.at_hand in
        let own : carried.entry.line ≡ line_number e = carried.line ∙ sym same in
        let kind : carried.entry.kind ≡ merge_kind =
        sym at_hand.kind ∙ ap (line_field l words Cached kind_offset) own ∙ merge.0 in
        let node : carried.entry.node ≡ right.node =
        sym at_hand.node ∙ ap (line_field l words Cached line_node_offset) own ∙ merge.1 in
        let knows = subst (λ (s : Stage). Sure l g f p.caller p.index p.since s) stage (whole.joint.lawful.sure i p at_p) in
        unfree (f.version right.node) g (own_of l g f p.caller p.index p.since (Joins h left right Gone) right.node (inr refl) knows)
        (told_free l g words right.node (subst (λ m. not (is_free_word (node_field l words version_offset m) g) ≡ false) node (carried.decided.free kind)))

    keeps_emptied : IsRow l emptied → Keeps z holder emptied
    keeps_emptied row' =
        let facts_same = facts-elsewhere l words z.world.base z.world.history (Cached (line_word state_offset j)) 0 (omega arith, omega arith, omega arith) (λ n o d. cc, λ n d. cc) in
        record {
          whole = emptied_whole z (j / 8) (j % 8) (omega arith) (omega arith) row two row' whole;
          tended = still_tended z emptied (λ c k. ⊎_elim (λ empty. inl empty.1) (λ stays. inr stays) (line_either z (j / 8) (j % 8) (omega arith) (omega arith) row c k 0)) tended;
          version = ap (λ (φ : Facts). φ.version) facts_same;
          now = ap (λ (φ : Facts). φ.now) facts_same;
          list = ap (λ (φ : Facts). φ.list) facts_same;
          statuses = λ n. inl (ap (λ (φ : Facts). φ.status n) facts_same);
          retiring = λ i p line u h left right at_p at_line stage was. record {
            alone = λ k state merge. was.alone k (state_was k state) (said k right.node merge);
            waits = still_waits i p line h left right at_p stage was.waits;
          };
          switched = λ i p line n at_p at_line is_switched. unready_by (IsCover (lines_in l words Cached) (lines_in l words Durable) (anchor_in (spot_in l words n)))
              (IsCover (lines_in l emptied Cached) (lines_in l emptied Durable) (anchor_in (spot_in l emptied n))) line
              (λ e is_own unready cover.
              cover_same (record (lines_in l words Cached) { state = set_at (line_field l words Cached state_offset) j empty_state }) (lines_in l emptied Cached) (lines_in l words Durable) (lines_in l emptied Durable)
              (anchor_in (spot_in l words n)) (anchor_in (spot_in l emptied n)) (line_number e)
              (ap (λ φ. φ.line) (line_emptied r ghosts words j row.whole here).facts) (ap (λ φ. φ.safe_line) (line_emptied r ghosts words j row.whole here).facts) (ap (λ (φ : Facts). anchor_in (φ.now n)) facts_same)
              (cover_apart (lines_in l words Cached) (lines_in l words Durable) (anchor_in (spot_in l words n)) (line_number e) j 0 (not_ready i line at_line e is_own unready) cover));
        }
      where
        -- it isn't one that was made READY by nobody
        not_ready : (i : ℕ) (line : Option HeldLine) → get_elem? z.lines i ≡ some line → (e : HeldLine) → line ≡ Some e → e.ready ≡ false → line_number e ≢ j
        not_ready i line at_line e is_own unready same =
            let sure = whole.joint.sure i e (at_line ∙ ap some is_own) in
            sure.unready unready (sym (line_tie l words e sure.here state_offset (omega arith)) ∙ ap (line_field l words Cached state_offset) (same ∙ sym carried.line) ∙ carried.decided.at_hand.state)

        others : (offset : ℕ) → 0 < offset → offset < 8 → line_field l emptied Cached offset ≡ line_field l words Cached offset
        others offset positive small = column-same l words emptied (line_count l) (λ k. Cached (line_word offset k))
            (λ k lt. at-set_other l words (Cached (line_word state_offset j)) (Cached (line_word offset k)) 0 (omega arith, omega arith, omega arith) (omega arith, omega arith, small)
            (λ e. let no : offset ≡ 0 = ap offset_in e in omega arith))

        state_was : (k : ℕ) → line_field l emptied Cached state_offset k ≡ ready_state → line_field l words Cached state_offset k ≡ ready_state
        state_was k state = ⊎_elim
            (λ (e : k ≡ j). absurd (let no : 0 ≡ 2 = sym (columns.here (line_field l words Cached state_offset) j k 0 e) ∙ sym (ap (λ s. s k) state_set) ∙ state in omega arith))
            (λ other. sym (columns.other (line_field l words Cached state_offset) j k 0 other) ∙ sym (ap (λ s. s k) state_set) ∙ state)
            (cases_eq k j)

        -- what a line says beside its state it said
        said : (k node : ℕ) → (line_field l emptied Cached kind_offset k ≡ merge_kind) × (line_field l emptied Cached line_node_offset k ≡ node) → (line_field l words Cached kind_offset k ≡ merge_kind) × (line_field l words Cached line_node_offset k ≡ node)
        said k node merge = (ap (λ s. s k) (sym (others kind_offset (omega arith) (omega arith))) ∙ merge.0, ap (λ s. s k) (sym (others line_node_offset (omega arith) (omega arith))) ∙ merge.1)

        still_waits : (i : ℕ) (p : Party) (line : Option HeldLine) (h : Held) (left right : Grip) → get_elem? z.world.parties i ≡ some p
            → p.stage ≡ Joins h left right Gone → IfSome line (λ e. e.ready ≡ true → (line_field l words Cached kind_offset (line_number e) ≡ merge_kind) × (line_field l words Cached line_node_offset (line_number e) ≡ right.node) → line_field l words Cached state_offset (line_number e) ≡ ready_state)
            → IfSome line (λ e. e.ready ≡ true → (line_field l emptied Cached kind_offset (line_number e) ≡ merge_kind) × (line_field l emptied Cached line_node_offset (line_number e) ≡ right.node) → line_field l emptied Cached state_offset (line_number e) ≡ ready_state)
        still_waits i p None h left right at_p stage waits = tt
        still_waits i p (Some e) h left right at_p stage waits = λ ready merge.
            ap (λ s. s (line_number e)) state_set
            ∙ columns.other (line_field l words Cached state_offset) j (line_number e) 0 (released i p e h left right at_p stage (said (line_number e) right.node merge)) ∙ waits ready (said (line_number e) right.node merge)

  -- each step
  pub touches_keep : (after : List ℕ) → IsRow l after → Touches r ghosts words after → Keeps z holder after
  touches_keep after row' (is_aside same) = keeps_aside after row' same
  touches_keep after row' (is_emptied j here carried is) = subst (Keeps z holder) (sym is) (keeps_emptied j here carried (subst (IsRow l) is row'))
  touches_keep after row' (is_freed n here freeing is) = subst (Keeps z holder) (sym is) (keeps_freed n here freeing (subst (IsRow l) is row'))
