-- What a step of a turn that is alone leaves done.
use Rattle.std.proofs.Common.{◌≡◌, ◌≢◌, ℕ, suc, ◌+◌, ◌<◌, ◌≤◌, ◌⊎◌, ◌==◌, ◌&&◌, not, Bool, true, false, cond, List}
use Rattle.std.proofs.Common.{inl, inr, refl, sym, subst, ap, ◌∙◌, arith}
use Rattle.std.specs.Prelude.{nat_lt, nat_le}
use Rattle.std.proofs.lemmas.Bool.{cases_eq, cases_lt, eq-eqb, ne_eqb, le-leb, lt-leb, ltb-false}
use Rattle.std.proofs.lemmas.List.{set-get_or}
use Rattle.pm_words.specs.Codes.{merge_kind, empty_state, free_status, gone_status, ready_state}
use Rattle.pm_words.specs.declared.layout.Layout.{Layout}
use Rattle.pm_words.specs.declared.action.Action.{Action}
use Rattle.pm_words.specs.declared.action.Action.TheVariants.{Load}
use Rattle.pm_words.specs.Locations.{Volatile, Cached, Node}
use Rattle.pm_words.specs.Rows.{IsRow, acted, got}
use Rattle.pm_words.specs.Offsets.{version_offset, state_offset, left_offset, status_offset, stamp_offset}
use Rattle.version_lock.specs.Versions.{is_worn_word}
use Rattle.index_law.specs.Worlds.{World, facts}
use Rattle.index_layer_law.specs.search_layer.specs.ChangeStages.{Changing, Changed, ChangeStep}
use Rattle.updater_law.specs.Covers.{set_at}
use Rattle.updater_law.specs.Facts.{TurnTerms, TurnFacts}
use Rattle.updater_law.specs.Lawful.{TurnLawful}
use Rattle.updater_law.specs.TurnStages as turns
use Rattle.updater_law.proofs.Columns.{here, other}
use Rattle.index_layer_law.specs.updater_row_law.specs.Columns.{RowTerms, Ghosts, line_count, line_word, line_field}
use Rattle.index_layer_law.specs.updater_row_law.specs.Columns.{node_field, volatile_field, terms_of, facts_in}
use Rattle.index_layer_law.specs.updater_row_law.specs.RowStages.{RowLine, aim_of, RowStage, Resting, Between, Lands}
use Rattle.index_layer_law.specs.updater_row_law.specs.RowStages.{HasTarget, Changes, Stamps, Clears, Sweeps, Counts}
use Rattle.index_layer_law.specs.updater_row_law.specs.RowStages.{after_line, after_node, turn_stage}
use Rattle.index_layer_law.specs.updater_row_law.specs.RowSteps.{line_at, volatile_at, version_at, RowStep}
use Rattle.index_layer_law.specs.updater_row_law.specs.RowSteps.{takes_lock, finds_held, passes, sees, reads}
use Rattle.index_layer_law.specs.updater_row_law.specs.RowSteps.{has_read, walks, is_turned_back, finds, loses}
use Rattle.index_layer_law.specs.updater_row_law.specs.RowSteps.{decides, changes, has_changed, stamps, empties}
use Rattle.index_layer_law.specs.updater_row_law.specs.RowSteps.{passes_node, sees_gone, passes_stamp, sees_stamp}
use Rattle.index_layer_law.specs.updater_row_law.specs.RowSteps.{passes_worn, sees_unworn, unstamps, frees, counts}
use Rattle.index_layer_law.specs.updater_row_law.specs.RowSteps.{leaves_lock}
use Rattle.index_layer_law.specs.updater_row_law.specs.RowLaw.{RowLawful}
use Rattle.index_layer_law.specs.updater_row_law.proofs.RowChanges.{change_kept}
use Rattle.index_layer_law.specs.updater_row_law.proofs.RowColumns.{column-here}
use Rattle.index_layer_law.specs.updater_row_law.proofs.RowStores.{lock_stored, stamp_stored, status_stored}
use Rattle.index_layer_law.specs.updater_row_law.proofs.RowStores.{line_emptied, layer_facts}
use Rattle.lone_updater_law.specs.LoneTurns.{line_state, stamp_in, stamp_then, frees_node}
use Rattle.lone_updater_law.specs.Marks.{Marks, HasEmptied, IsSwept, HasSwept, HasUnstamped, HasDone}

abbrev pub row_marks : Layout → List ℕ → Marks
row_marks l words = record { state = line_field l words Cached state_offset; status = volatile_field l words status_offset; stamp = volatile_field l words stamp_offset }

abbrev marks_of : TurnFacts → Marks
marks_of f = record { state = f.line.state; status = f.status; stamp = f.stamp }

-- it still has the line in hand
abbrev pub IsAtLine : RowStage → Type 0
IsAtLine (Lands e) = Unit {0}
IsAtLine (HasTarget e target) = Unit {0}
IsAtLine (Changes e word s) = Unit {0}
IsAtLine _ = ⊥

-- a step that leaves no line
abbrev pub Handles : RowStage → RowStage → Type 0
Handles (Lands e) t = IsAtLine t
Handles (HasTarget e target) t = IsAtLine t
Handles _ t = Unit {0}

past_no_line : (b : Bool) (j : ℕ) → IsAtLine (cond b (Between (j + 1)) (Sweeps 0)) → ⊥
past_no_line true j is = is
past_no_line false j is = is

module _ (before : World) (stamp : ℕ) where
  -- the stamp of a GONE node, by the one that it had
  then_new : (n : ℕ) → stamp_in before n ≡ 0 → stamp_then before stamp n ≡ stamp
  then_new n none = ap (λ b. cond b stamp (stamp_in before n)) (eq-eqb (stamp_in before n) 0 none)

  then_old : (n : ℕ) → stamp_in before n ≢ 0 → stamp_then before stamp n ≡ stamp_in before n
  then_old n some = ap (λ b. cond b stamp (stamp_in before n)) (ne_eqb (stamp_in before n) 0 some)

  pub then_some : stamp ≢ 0 → (n : ℕ) → stamp_then before stamp n ≢ 0
  then_some some n none = elim (cases_eq (stamp_in before n) 0) [
    | inl had_none ↦ some (sym (then_new n had_none) ∙ none)
    | inr had ↦ had (sym (then_old n had) ∙ none)
  ]

  -- the lines, with one more that wasn't READY
  passed : (m : Marks) (j : ℕ) → (line_state before j ≡ empty_state) ⊎ (line_state before j ≡ ready_state) → m.state j ≢ ready_state → HasEmptied before stamp m j → HasEmptied before stamp m (suc j)
  passed m j either unready lines = record {
    empty = λ k lt. elim (cases_eq k j) [
      | inl e ↦ ap m.state e ∙ elim either [ inl none ↦ lines.rest j (omega arith) ∙ none | inr two ↦ absurd (unready (lines.rest j (omega arith) ∙ two)) ]
      | inr ne ↦ lines.empty k (omega (arith, ne))
    ];
    rest = λ k le. lines.rest k (omega arith);
    statuses = lines.statuses;
    stamps = lines.stamps;
  }

  -- and with one more that is emptied
  emptied : (m : Marks) (j : ℕ) → HasEmptied before stamp m j → HasEmptied before stamp (record m { state = set_at m.state j empty_state }) (suc j)
  emptied m j lines = record {
    empty = λ k lt. elim (cases_eq k j) [ inl e ↦ here m.state j k empty_state e | inr ne ↦ other m.state j k empty_state ne ∙ lines.empty k (omega (arith, ne)) ];
    rest = λ k le. other m.state j k empty_state (λ e. omega arith) ∙ lines.rest k (omega arith);
    statuses = lines.statuses;
    stamps = lines.stamps;
  }

  -- a node that had no stamp has the turn's
  stamped : (m : Marks) (j n : ℕ) → m.stamp n ≡ 0 → HasEmptied before stamp m j → HasEmptied before stamp (record m { stamp = set_at m.stamp n stamp }) j
  stamped m j n bare lines = record {
    empty = lines.empty;
    rest = lines.rest;
    statuses = lines.statuses;
    stamps = λ k. elim (cases_eq k n) [
      | inl e ↦ inr (ap (stamp_in before) e ∙ elim (lines.stamps n) [ inl old ↦ sym old ∙ bare | inr new ↦ new.0 ], here m.stamp n k stamp e)
      | inr ne ↦ elim (lines.stamps k) [
        | inl old ↦ inl (other m.stamp n k stamp ne ∙ old)
        | inr new ↦ inr (new.0, other m.stamp n k stamp ne ∙ new.1)
      ]
    ];
  }

module _ (before : World) (stamp release : ℕ) where
  abbrev status : ℕ → ℕ
  status n = (facts before).status n

  abbrev worn : ℕ → Bool
  worn n = is_worn_word ((facts before).version n) before.generation

  -- which nodes it doesn't free, and which it does
  not_gone : (n : ℕ) → status n ≢ gone_status → frees_node before stamp release n ≡ false
  not_gone n other_status = ap (λ b. b && (nat_le (stamp_then before stamp n) release && not (worn n))) (ne_eqb (status n) gone_status other_status)

  both_gone : (n : ℕ) → status n ≡ gone_status → frees_node before stamp release n ≡ (nat_le (stamp_then before stamp n) release && not (worn n))
  both_gone n gone = ap (λ b. b && (nat_le (stamp_then before stamp n) release && not (worn n))) (eq-eqb (status n) gone_status gone)

  is_late : (n : ℕ) → status n ≡ gone_status → release < stamp_then before stamp n → frees_node before stamp release n ≡ false
  is_late n gone late = both_gone n gone ∙ ap (λ b. b && not (worn n)) (lt-leb (stamp_then before stamp n) release late)

  is_worn : (n : ℕ) → status n ≡ gone_status → stamp_then before stamp n ≤ release → worn n ≡ true → frees_node before stamp release n ≡ false
  is_worn n gone early is = both_gone n gone ∙ ap (λ b. b && not (worn n)) (le-leb (stamp_then before stamp n) release early) ∙ ap not is

  is_free : (n : ℕ) → status n ≡ gone_status → stamp_then before stamp n ≤ release → worn n ≡ false → frees_node before stamp release n ≡ true
  is_free n gone early fresh = both_gone n gone ∙ ap (λ b. b && not (worn n)) (le-leb (stamp_then before stamp n) release early) ∙ ap not fresh

  -- the nodes, with one more that stays
  kept : (m : Marks) (n : ℕ) → frees_node before stamp release n ≡ false → HasSwept before stamp release m n → HasSwept before stamp release m (suc n)
  kept m n stays nodes = record {
    empty = nodes.empty;
    left = λ i lt. elim (cases_eq i n) [
      | inl e ↦ subst (IsSwept before stamp release m) (sym e) (
          let ahead = nodes.ahead n (omega arith) in
          record { status = ahead.status ∙ sym (ap (λ b. cond b 0 (status n)) stays); stamped = ahead.stamped })
      | inr ne ↦ nodes.left i (omega (arith, ne))
    ];
    ahead = λ i le. nodes.ahead i (omega arith);
  }

  -- a node whose stamp is taken away, and that is FREE then
  unstamped : (m : Marks) (n : ℕ) → frees_node before stamp release n ≡ true → HasSwept before stamp release m n → HasUnstamped before stamp release (record m { stamp = set_at m.stamp n 0 }) n
  unstamped m n freed nodes = record {
    empty = nodes.empty;
    left = λ i lt. record { status = (nodes.left i lt).status; stamped = λ gone. other m.stamp n i 0 (λ e. omega arith) ∙ (nodes.left i lt).stamped gone };
    freed = freed;
    ahead = λ i lt. let was = nodes.ahead i (omega arith) in record { status = was.status; stamped = λ gone. other m.stamp n i 0 (λ e. omega arith) ∙ was.stamped gone };
  }

  made_free : (m : Marks) (n : ℕ) → HasUnstamped before stamp release m n → HasSwept before stamp release (record m { status = set_at m.status n free_status }) (suc n)
  made_free m n nodes = record {
    empty = nodes.empty;
    left = λ i lt. elim (cases_eq i n) [
      | inl e ↦ record {
        status = here m.status n i free_status e ∙ sym (ap (λ k. cond (frees_node before stamp release k) 0 (status k)) e ∙ ap (λ b. cond b 0 (status n)) nodes.freed);
        stamped = λ gone. absurd (let zero : set_at m.status n free_status i ≡ free_status = here m.status n i free_status e in let no : 0 ≡ 2 = sym zero ∙ gone in omega arith);
      }
      | inr ne ↦
          let was = nodes.left i (omega (arith, ne)) in
          let same = other m.status n i free_status ne in
          record { status = same ∙ was.status; stamped = λ gone. was.stamped (sym same ∙ gone) }
    ];
    ahead = λ i lt.
        let was = nodes.ahead i (omega arith) in
        let same = other m.status n i free_status (λ e. omega arith) in
        record { status = same ∙ was.status; stamped = λ gone. was.stamped (sym same ∙ gone) };
  }

module _ (before : World) (stamp release : ℕ) (l : Layout) (g : ℕ) (some : stamp ≢ 0) (nodes : l.nodes ≡ before.layout.nodes)
    (states : (j : ℕ) → (line_state before j ≡ empty_state) ⊎ (line_state before j ≡ ready_state)) (beyond : (j : ℕ) → line_count l ≤ j → line_state before j ≡ empty_state) where
  abbrev pub r : RowTerms
  r = record { layout = l; generation = g; stamp = stamp; release = release }

  abbrev pub c : TurnTerms
  c = terms_of (record { layout = l; generation = g; stamp = stamp; release = release })

  abbrev pub Has : List ℕ → RowStage → Type 0
  Has words s = HasDone before stamp release (row_marks l words) s

  -- once all lines are done, each GONE node has its stamp
  lines_done : (f : TurnFacts) → TurnLawful c f (turns.Sweeps 0) → ((n : ℕ) → f.held n ≡ false) → HasEmptied before stamp (marks_of f) (line_count l) → HasSwept before stamp release (marks_of f) 0
  lines_done f law free lines = record {
    empty = empty;
    left = λ i lt. absurd (omega arith);
    ahead = λ n le. record { status = lines.statuses n; stamped = λ gone. has_stamp n gone (lines.stamps n) };
  }
    where
      empty : (k : ℕ) → f.line.state k ≡ empty_state
      empty k = elim (cases_lt k (line_count l)) [ inl below ↦ lines.empty k below | inr above ↦ lines.rest k (omega arith) ∙ beyond k (omega arith) ]

      some_stamp : (n : ℕ) → f.status n ≡ gone_status → f.stamp n ≢ 0
      some_stamp n gone bare = elim (law.owned n gone bare) [
        | inl ready ↦ let none : f.line.state ready.line ≡ empty_state = empty ready.line in let two : f.line.state ready.line ≡ ready_state = ready.state in omega arith
        | inr (inl held) ↦ let no : false ≡ true = sym (free n) ∙ held in absurd cc
        | inr (inr mine) ↦ mine
      ]

      has_stamp : (n : ℕ) → f.status n ≡ gone_status → (f.stamp n ≡ stamp_in before n) ⊎ ((stamp_in before n ≡ 0) × (f.stamp n ≡ stamp)) → f.stamp n ≡ stamp_then before stamp n
      has_stamp n gone (inl old) = old ∙ sym (then_old before stamp n (λ none. some_stamp n gone (old ∙ none)))
      has_stamp n gone (inr new) = new.1 ∙ sym (then_new before stamp n new.0)

  line_done : (f : TurnFacts) (j : ℕ) → j < line_count l → TurnLawful c f (turn_stage (after_line r j)) → ((n : ℕ) → f.held n ≡ false) → HasEmptied before stamp (marks_of f) (suc j)
      → HasDone before stamp release (marks_of f) (after_line r j)
  line_done f j within law free lines =
      elim (nat_lt (j + 1) (line_count l)) as (λ b. nat_lt (j + 1) (line_count l) ≡ b → TurnLawful c f (turn_stage (cond b (Between (j + 1)) (Sweeps 0)))
      → HasDone before stamp release (marks_of f) (cond b (Between (j + 1)) (Sweeps 0))) [
        | true ↦ λ more law. subst (HasEmptied before stamp (marks_of f)) (omega arith) lines
        | false ↦ λ last law. let past = ltb-false (j + 1) (line_count l) last in lines_done f law free (subst (HasEmptied before stamp (marks_of f)) (omega arith) lines)
      ] refl law

  node_done : (m : Marks) (n : ℕ) → n < l.nodes → HasSwept before stamp release m (suc n) → HasDone before stamp release m (after_node r n)
  node_done m n within done =
      elim (nat_lt (n + 1) l.nodes) as (λ b. nat_lt (n + 1) l.nodes ≡ b → HasDone before stamp release m (cond b (Sweeps (n + 1)) (Counts 0 true))) [
        | true ↦ λ more. subst (HasSwept before stamp release m) (omega arith) done
        | false ↦ λ last. let past = ltb-false (n + 1) l.nodes last in subst (HasSwept before stamp release m) (omega (arith, nodes)) done
      ] refl

  module _ (ghosts later : Ghosts) (words : List ℕ) (row : IsRow l words) (worn_same : (n : ℕ) → is_worn_word (node_field l words version_offset n) g ≡ is_worn_word ((facts before).version n) before.generation) where
    abbrev m : Marks
    m = row_marks l words

    -- what a load tells
    state_told : (j x : ℕ) → j < line_count l → x ≡ got l words (Load (line_at l j state_offset)) → m.state j ≡ x
    state_told j x lt told = column-here l words (line_count l) (λ i. Cached (line_word state_offset i)) j lt ∙ sym told

    volatile_told : (n o x : ℕ) → n < l.nodes → x ≡ got l words (Load (volatile_at l n o)) → volatile_field l words o n ≡ x
    volatile_told n o x lt told = column-here l words l.nodes (λ k. Volatile k o) n lt ∙ sym told

    version_told : (n x : ℕ) → n < l.nodes → x ≡ got l words (Load (version_at l n)) → node_field l words version_offset n ≡ x
    version_told n x lt told = column-here l words l.nodes (λ k. Cached (Node k version_offset)) n lt ∙ sym told

    -- a load leaves the row
    loads : (P : Marks → Type 0) (address : ℕ) → P m → P (row_marks l (acted l words (Load address)))
    loads P address done = subst (λ ws. P (row_marks l ws)) (sym (set-get_or words address 0)) done

    -- the marks that a store leaves
    stores : (P : Marks → Type 0) (after : List ℕ) (f : TurnFacts) → facts_in r ghosts after ≡ f → P (marks_of f) → P (row_marks l after)
    stores P after f is done = subst P (sym (ap marks_of is)) done

    abbrev pub Later : List ℕ → RowStage → Type 0
    Later after t = TurnLawful c (facts_in r later after) (turn_stage t) × ((n : ℕ) → (facts_in r later after).held n ≡ false)

    -- a node that is passed by
    skips : (n address : ℕ) → n < l.nodes → frees_node before stamp release n ≡ false → HasSwept before stamp release m n → Has (acted l words (Load address)) (after_node r n)
    skips n address within stays done =
        loads (λ k. HasDone before stamp release k (after_node r n)) address (node_done m n within (kept before stamp release m n stays done))

    change_leaves : (e : RowLine) (word : ℕ) (s t : Changing) (a : Action) → RowLawful r ghosts words (Changes e word s) → ChangeStep l (aim_of e word) s a (got l words a) t
        → HasEmptied before stamp m e.line → HasEmptied before stamp (row_marks l (acted l words a)) e.line
    change_leaves e word s t a is step done =
        let keeps = change_kept r words e word s t a row is.sure step in
        stores (λ k. HasEmptied before stamp k e.line) (acted l words a) _ (layer_facts r ghosts words (acted l words a) keeps.others) done

    -- of a GONE node that it has come to
    gone_was : (n : ℕ) → m.status n ≡ gone_status → HasSwept before stamp release m n → (facts before).status n ≡ gone_status
    gone_was n gone done = sym (done.ahead n (omega arith)).status ∙ gone

    stamp_is : (n : ℕ) → m.status n ≡ gone_status → HasSwept before stamp release m n → m.stamp n ≡ stamp_then before stamp n
    stamp_is n gone done = (done.ahead n (omega arith)).stamped gone

    pub done_after : {s : RowStage} {a : Action} {x : ℕ} {t : RowStage} → RowStep r s a x t → s ≢ Resting → Handles s t → x ≡ got l words a → RowLawful r ghosts words s
        → Later (acted l words a) t → Has words s → Has (acted l words a) t
    done_after (takes_lock free) busy handles told is later_is done = absurd (busy refl)
    done_after (finds_held taken) busy handles told is later_is done = absurd (busy refl)
    done_after (passes {j = j} {x = x} within unready) busy handles told is later_is done =
        line_done (facts_in r later (acted l words (Load (line_at l j state_offset)))) j within later_is.0 later_is.1
        (loads (λ k. HasEmptied before stamp k (suc j)) (line_at l j state_offset) (passed before stamp m j (states j) (λ two. unready (sym (state_told j x within told) ∙ two)) done))
    done_after (sees {j = j} seen within ready size) busy handles told is later_is done = loads (λ k. HasEmptied before stamp k j) (line_at l j state_offset) done
    done_after (reads {j = j} {offset = offset} within positive small named) busy handles told is later_is done = loads (λ k. HasEmptied before stamp k j) (line_at l j offset) done
    done_after (has_read {j = j} within) busy handles told is later_is done = loads (λ k. HasEmptied before stamp k j) (line_at l j left_offset) done
    done_after (walks {e = e} {address = address} within) busy handles told is later_is done = loads (λ k. HasEmptied before stamp k e.line) address done
    done_after (is_turned_back {e = e} within) busy handles told is later_is done = absurd (past_no_line (nat_lt (e.line + 1) (line_count l)) e.line handles)
    done_after (finds {e = e} {address = address} within node free) busy handles told is later_is done = loads (λ k. HasEmptied before stamp k e.line) address done
    done_after (loses {e = e} moved) busy handles told is later_is done = absurd (past_no_line (nat_lt (e.line + 1) (line_count l)) e.line handles)
    done_after (decides {e = e} {target = target} same) busy handles told is later_is done = loads (λ k. HasEmptied before stamp k e.line) (version_at l target.node) done
    done_after (changes {e = e} {word = word} {s = s} {t = t} {a = a} step) busy handles told is later_is done =
        change_leaves e word s t a is (subst (λ y. ChangeStep l (aim_of e word) s a y t) told step) done
    done_after (has_changed {e = e} {word = word} {s = s} {a = a} step) busy handles told is later_is done =
        let lines = change_leaves e word s Changed a is (subst (λ y. ChangeStep l (aim_of e word) s a y Changed) told step) done in
        elim (e.kind == merge_kind) as (λ b. Has (acted l words a) (cond b (Stamps e) (Clears e.line))) [ true ↦ lines | false ↦ lines ]
    done_after (stamps {e = e} within) busy handles told is later_is done =
        let hand = is.law.sure.0.at_hand in
        let merge = is.law.merges e.line hand.state (hand.kind ∙ is.law.sure.1) in
        let bare : m.stamp e.node ≡ 0 = ap m.stamp (sym hand.node) ∙ elim merge.stamp [ inl none ↦ none | inr mine ↦ absurd mine ] in
        stores (λ k. HasEmptied before stamp k e.line) _ _ (stamp_stored r ghosts words e.node stamp row.whole within).facts (stamped before stamp m e.line e.node bare done)
    done_after (empties {j = j} within) busy handles told is later_is done =
        line_done (facts_in r later _) j within later_is.0 later_is.1
        (stores (λ k. HasEmptied before stamp k (suc j)) _ _ (line_emptied r ghosts words j row.whole within).facts (emptied before stamp m j done))
    done_after (passes_node {n = n} {x = x} within other_status) busy handles told is later_is done =
        skips n (volatile_at l n status_offset) within (not_gone before stamp release n (λ gone. other_status (sym (volatile_told n status_offset x within told) ∙ (done.ahead n (omega arith)).status ∙ gone))) done
    done_after (sees_gone {n = n} within gone) busy handles told is later_is done = loads (λ k. HasSwept before stamp release k n) (volatile_at l n status_offset) done
    done_after (passes_stamp {n = n} {x = x} within why) busy handles told is later_is done =
        let stamp_x : stamp_then before stamp n ≡ x = sym (stamp_is n is.law.sure done) ∙ volatile_told n stamp_offset x within told in
        skips n (volatile_at l n stamp_offset) within (is_late before stamp release n (gone_was n is.law.sure done)
        (elim why [ inl none ↦ absurd (then_some before stamp some n (stamp_x ∙ none)) | inr late ↦ subst (λ k. release < k) (sym stamp_x) late ])) done
    done_after (sees_stamp {n = n} within some_stamp early) busy handles told is later_is done = loads (λ k. HasSwept before stamp release k n) (volatile_at l n stamp_offset) done
    done_after (passes_worn {n = n} {x = x} within worn) busy handles told is later_is done =
        let gone = is.law.sure.gone in
        skips n (version_at l n) within (is_worn before stamp release n (gone_was n gone done) (subst (λ k. k ≤ release) (stamp_is n gone done) is.law.sure.release)
        (sym (worn_same n) ∙ ap (λ v. is_worn_word v g) (version_told n x within told) ∙ worn)) done
    done_after (sees_unworn {n = n} within unworn) busy handles told is later_is done = loads (λ k. HasSwept before stamp release k n) (version_at l n) done
    done_after (unstamps {n = n} within) busy handles told is later_is done =
        let gone = is.law.sure.0.gone in
        stores (λ k. HasUnstamped before stamp release k n) _ _ (stamp_stored r ghosts words n 0 row.whole within).facts
        (unstamped before stamp release m n
        (is_free before stamp release n (gone_was n gone done) (subst (λ k. k ≤ release) (stamp_is n gone done) is.law.sure.0.release) (sym (worn_same n) ∙ is.law.sure.1)) done)
    done_after (frees {n = n} within) busy handles told is later_is done =
        node_done (row_marks l _) n within
        (stores (λ k. HasSwept before stamp release k (suc n)) _ _ (status_stored r ghosts words n 0 row.whole within).facts (made_free before stamp release m n done))
    done_after (counts {n = n} within) busy handles told is later_is done = loads (λ k. HasSwept before stamp release k before.layout.nodes) (volatile_at l n status_offset) done
    done_after (leaves_lock last) busy handles told is later_is done =
        stores (λ k. HasSwept before stamp release k before.layout.nodes) _ _ (lock_stored r ghosts words 0).facts done
