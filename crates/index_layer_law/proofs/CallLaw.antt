-- The steps of calls keep the index with its search layer.
use Rattle.std.proofs.Common.{◌≡◌, ◌≢◌, ℕ, ◌<◌, inr, ⊎_elim, Bool, true, false, List, slice_set, Option, Some, None, refl, sym, ap, ◌∙◌, subst, arith}
use Rattle.std.specs.Prelude.{IfSome}
use Rattle.std.proofs.lemmas.Bool.{cases_eq}
use Rattle.std.proofs.lemmas.List.{set-get_or}
use mathlib.Core.Option.{some, some-injective}
use lib.ListN.{get_elem?}
use Rattle.pm_words.specs.declared.layout.Layout.{Layout}
use Rattle.pm_words.specs.declared.action.Action.{Action}
use Rattle.pm_words.specs.Locations.{Line, Cached, Durable, HasLocation, address_of, at}
use Rattle.pm_words.specs.Rows.{IsRow, acted}
use Rattle.pm_words.proofs.Apart.{at-set_other}
use Rattle.pm_words.proofs.Kept.{action_address-drain}
use Rattle.pm_words.specs.Codes.{free_status, ready_state}
use Rattle.pm_words.specs.Offsets.{state_offset, kind_offset, line_node_offset}
use Rattle.data_node.specs.Lists.{anchor_in}
use Rattle.call_stages.specs.Stages.{Stage, Held, Grip, Gone, Joins, HoldsNode, IsSwitched, counted}
use Rattle.call_stages.specs.Kinds.{Step}
use Rattle.call_stages.specs.Lines.{HeldLine, line_address, Marks, Notes, passes_line, takes, looks_up, notes, keeps_safe}
use Rattle.call_stages.specs.AnySteps.{IsBeside, on_permutation}
use Rattle.call_stages.specs.Footings.{Footing, Minds, Waits, HasLine, IsOfMerge, FootStep}
use Rattle.call_stages.specs.Footings as foot
use Rattle.call_stages.specs.Prevs.{Debt, Prevs}
use Rattle.index_law.specs.Worlds.{Party, World, facts, stepped, moved_on}
use Rattle.index_law.specs.Lines.{line_in, SureLine}
use Rattle.index_law.specs.Whole.{Whole, IsWhole}
use Rattle.index_law.specs.Footings.{AreTended, stepped_whole}
use Rattle.index_law.proofs.AnySteps.{beside_keeps}
use Rattle.index_law.proofs.Footings.{layer_load_stays, foot_keeps}
use Rattle.index_law.proofs.Noting.{marks_unready}
use Rattle.index_law.proofs.Parties.{at_set, set_here, set_else}
use Rattle.updater_law.specs.Covers.{Lines, IsCover}
use Rattle.updater_law.specs.Facts.{TurnFacts}
use Rattle.updater_law.proofs.Columns as columns
use Rattle.updater_row_law.specs.Columns.{line_field, line_count, line_word, lines_in}
use Rattle.updater_row_law.specs.RowStages.{RowTarget}
use Rattle.updater_row_law.proofs.RowColumns.{column-same}
use Rattle.updater_row_law.specs.Turnings.{Turning}
use Rattle.index_layer_law.specs.Turnings.{terms_of, ghosts_of, line_number, SureWatch, IsShown}
use Rattle.index_layer_law.specs.Layers.{Layered, SaysMerge, IsRetiring, CoversNode, turn_facts, IsLayered}
use Rattle.index_layer_law.specs.Laws.{CallStepKeeps}
use Rattle.index_layer_law.proofs.FactTies.{known, rest_in, facts_tie, lines_same}
use Rattle.index_layer_law.proofs.Retired.{retiring_lines}
use Rattle.index_layer_law.proofs.Switched.{HasUnready, unready_by, moved_covers, switched_busy, line_stays}
use Rattle.index_layer_law.proofs.CallMoves.{now_known}
use Rattle.index_layer_law.proofs.CallLines.{line_tie}
use Rattle.index_layer_law.proofs.CallNotes.{stored, field_else, field_other, state_lines}
use Rattle.index_layer_law.proofs.CallRows.{row_after}
use Rattle.index_layer_law.proofs.CallNodes.{moved_along}
use Rattle.index_layer_law.proofs.CallLayered.{nodes_keep}
use Rattle.index_layer_law.proofs.CallBeside.{Besides, marks_ready, own_ready, line_beside, prev_beside, permutation_beside}
use Rattle.index_layer_law.proofs.TurnWalks.{found_target}

-- A step beside nodes leaves the stages of the parties.
module _ (z : Layered) (i : ℕ) (p : Party) (is : IsLayered z) (there : get_elem? z.whole.world.parties i ≡ some p) (a : Action) (line after : Option HeldLine) (debt : Debt) (none : counted p.stage ≡ None) (is_beside : IsBeside z.whole.world.layout a)
    (whole : IsWhole (stepped_whole z.whole i p a (record { stage = p.stage; line = after; debt = debt })) × AreTended (stepped_whole z.whole i p a (record { stage = p.stage; line = after; debt = debt })))
    (besides : Besides z.whole.world is.holder (acted z.whole.world.layout z.whole.world.words a)) where
  abbrev w : World
  w = z.whole.world

  abbrev w' : World
  w' = stepped z.whole.world i p a p.stage

  abbrev l : Layout
  l = z.whole.world.layout

  abbrev words' : List ℕ
  words' = acted z.whole.world.layout z.whole.world.words a

  same_facts : facts w' ≡ facts w
  same_facts = (beside_keeps w i p a is.whole.joint.lawful there none is_beside).facts

  -- a party afterwards is one of before, with the same stage
  pub was_party : (j : ℕ) (q : Party) → get_elem? (slice_set w.parties i (moved_on p p.stage)) j ≡ some q → get_elem? w.parties j ≡ some q
  was_party j q at = ⊎_elim
      (λ (own : (j ≡ i) × (moved_on p p.stage ≡ q)). ap (get_elem? w.parties) own.0 ∙ there ∙ ap some own.1)
      (λ (other : (j ≢ i) × (get_elem? w.parties j ≡ some q)). other.1)
      (at_set w.parties i j (moved_on p p.stage) q at)

  shown' : (key : List ℕ) (target : RowTarget) → IsShown l w.generation (facts w) key target → IsShown l w.generation (facts w') key target
  shown' key target shown = subst (λ φ. IsShown l w.generation φ key target) (sym same_facts) shown

  -- switches that may not be durable yet
  covers_after : (own : Option HeldLine) (n : ℕ) → (facts w).status n ≢ free_status → CoversNode w own n → CoversNode w' own n
  covers_after own n busy = unready_by (IsCover (lines_in l w.words Cached) (lines_in l w.words Durable) (anchor_in ((facts w).now n)))
      (IsCover (lines_in l words' Cached) (lines_in l words' Durable) (anchor_in ((facts w').now n))) own
      (λ e is_own unready cover.
      subst (λ φ. IsCover (lines_in l words' Cached) (lines_in l words' Durable) (anchor_in (φ.now n)) (line_number e)) (sym same_facts)
      (moved_covers (now_known l w.generation (facts w) (rest_in l w.words) is.holder) (known l w.generation (facts w) is.holder (rest_in l words')) besides.moved n (line_number e) busy cover))

  pub beside_layered : get_elem? z.whole.lines i ≡ some line → ((n : ℕ) → IsSwitched p.stage n → (P : ℕ → Type 0) → HasUnready P line → HasUnready P after) → ((j : ℕ) (q : Party) (own : Option HeldLine) (u : Turning) (h : Held) (left right : Grip) → get_elem? w.parties j ≡ some q → get_elem? (slice_set z.whole.lines i after) j ≡ some own → q.stage ≡ Joins h left right Gone
      → IsRetiring (turn_facts w' is.holder u) own right) → IsLayered (record { whole = stepped_whole z.whole i p a (record { stage = p.stage; line = after; debt = debt }); turns = z.turns })
  beside_layered at_line keeps retiring = record {
    whole = whole.0;
    tended = whole.1;
    holder = is.holder;
    holders = λ j q n at held. is.holders j q n (was_party j q at) held;
    one = is.one;
    active = is.active;
    lock = λ free. is.lock (sym besides.lock ∙ free);
    unlocked = λ rest. besides.lock ∙ is.unlocked rest;
    rows = λ j u at rests. row_after (terms_of w u) (ghosts_of w is.holder) (ghosts_of w' is.holder) w.words words' besides.layer besides.lines u.stage
        (moved_along (now_known l w.generation (facts w) (rest_in l w.words) is.holder) (known l w.generation (facts w) is.holder (rest_in l words')) (turn_facts w is.holder u) (turn_facts w' is.holder u) (facts_tie w is.holder u)
        (facts_tie w' is.holder u ∙ (λ n. known l w.generation (same_facts n) is.holder (rest_in l words'))) besides.moved)
        (λ e target has. found_target (terms_of w u) words' w.base w'.history is.holder whole.0.joint.lawful.list e.anchor target (shown' e.anchor target (is.shown j u e target at has)))
        (is.rows j u at rests);
    stamps = is.stamps;
    watches = λ j u at. subst (λ φ. SureWatch l w.generation φ u.watch) (sym same_facts) (is.watches j u at);
    shown = λ j u e target at has. shown' e.anchor target (is.shown j u e target at has);
    retiring = λ j q own u h left right at_q at_own stage. retiring j q own u h left right (was_party j q at_q) at_own stage;
    switched = λ j q n at_q is_switched.
        let was = was_party j q at_q in
        let covering = is.switched j q n was is_switched in
        let busy = switched_busy l w.generation (facts w) q.caller q.index q.since q.stage is.whole.joint.lawful.live (is.whole.joint.lawful.sure j q was) n is_switched in
        ⊎_elim
        (λ (mine : j ≡ i).
        let same : q ≡ p = some-injective _ _ (sym was ∙ ap (get_elem? w.parties) mine ∙ there) in
        let own : covering.0 ≡ line = some-injective _ _ (sym covering.1 ∙ ap (get_elem? z.whole.lines) mine ∙ at_line) in (
          after,
          ap (get_elem? (slice_set z.whole.lines i after)) mine ∙ set_here z.whole.lines i after line at_line,
          covers_after after n busy
              (keeps n (subst (λ (d : Party). IsSwitched d.stage n) same is_switched) (IsCover (lines_in l w.words Cached) (lines_in l w.words Durable) (anchor_in ((facts w).now n)))
              (subst (λ o. CoversNode w o n) own covering.2)),
        ))
        (λ (other : j ≢ i). (covering.0, set_else z.whole.lines i j after other ∙ covering.1, covers_after covering.0 n busy covering.2))
        (cases_eq j i);
  }

  -- where the cached lines stay, so does what is retired, as long as the party's line is the same, but for what is known of it
  pub same_retiring : (lines : (o : ℕ) → o < 8 → line_field l words' Cached o ≡ line_field l w.words Cached o) → get_elem? z.whole.lines i ≡ some line
      → ((right : Grip) (f : TurnFacts) → IsRetiring f line right → IsRetiring f after right)
      → (j : ℕ) (q : Party) (own : Option HeldLine) (u : Turning) (h : Held) (left right : Grip) → get_elem? w.parties j ≡ some q → get_elem? (slice_set z.whole.lines i after) j ≡ some own → q.stage ≡ Joins h left right Gone
      → IsRetiring (turn_facts w' is.holder u) own right
  same_retiring lines at_line own_kept j q own u h left right at_q at_own stage =
      retiring_lines (turn_facts w is.holder u) (turn_facts w' is.holder u) own right (lines_same l w.words words' Cached lines) (⊎_elim
      (λ (mine : (j ≡ i) × (after ≡ own)).
      let same : q ≡ p = some-injective _ _ (sym at_q ∙ ap (get_elem? w.parties) mine.0 ∙ there) in
      subst (λ o. IsRetiring (turn_facts w is.holder u) o right) mine.1
      (own_kept right (turn_facts w is.holder u) (is.retiring i p line u h left right there at_line (ap (λ (d : Party). d.stage) (sym same) ∙ stage))))
      (λ (other : (j ≢ i) × (get_elem? z.whole.lines j ≡ some own)). is.retiring j q own u h left right at_q other.1 stage)
      (at_set z.whole.lines i j after own at_own))

-- What is retired after a store into the party's line.
module _ (z : Layered) (i : ℕ) (p : Party) (is : IsLayered z) (there : get_elem? z.whole.world.parties i ≡ some p) (e : HeldLine) (at_line : get_elem? z.whole.lines i ≡ some (Some e)) (offset y : ℕ) (small : offset < 8)
    (seen : List (ℕ × ℕ)) (ready : Bool) (after : HeldLine) (marks : Marks e offset y seen ready) (is_ready : after.ready ≡ ready) (waits : Waits p.stage (Some e) (Some after)) (number : line_number after ≡ line_number e) where
  abbrev own_sure : SureLine z.whole.world.layout z.whole.world.words e
  own_sure = is.whole.joint.sure i e at_line

  abbrev row : IsRow z.whole.world.layout z.whole.world.words
  row = is.whole.joint.lawful.row

  abbrev put : List ℕ
  put = stored z.whole.world.layout z.whole.world.words row e own_sure offset y small

  unready : e.ready ≡ false
  unready = marks_unready e offset y seen ready marks

  not_ready_before : line_field z.whole.world.layout z.whole.world.words Cached state_offset (line_number e) ≢ ready_state
  not_ready_before two = own_sure.unready unready (sym (line_tie z.whole.world.layout z.whole.world.words e own_sure.here state_offset (omega arith)) ∙ two)

  state_here : offset ≡ state_offset → line_field z.whole.world.layout put Cached state_offset (line_number e) ≡ y
  state_here first = ap (λ (n : Lines). n.state (line_number e)) (state_lines z.whole.world.layout z.whole.world.words row e own_sure offset y small first) ∙ columns.here (line_field z.whole.world.layout z.whole.world.words Cached state_offset) (line_number e) (line_number e) y refl

  -- where the line is READY then, it was made so
  made_ready : line_field z.whole.world.layout put Cached state_offset (line_number e) ≡ ready_state → (offset ≡ state_offset) × (y ≡ ready_state) × (ready ≡ true)
  made_ready two = ⊎_elim (λ made. made)
      (λ not_made. absurd (⊎_elim
      (λ (first : offset ≡ state_offset). not_made.1 first (sym (state_here first) ∙ two))
      (λ (further : offset ≢ state_offset). not_ready_before (ap (λ (s : ℕ → ℕ). s (line_number e)) (sym (field_else z.whole.world.layout z.whole.world.words row e own_sure offset y small 0 (omega arith) (λ zero_offset. further (sym zero_offset)))) ∙ two))
      (cases_eq offset 0)))
      (marks_ready z i p is there e offset y seen ready marks)

  else_was : (o n : ℕ) → o < 8 → n ≢ line_number e → line_field z.whole.world.layout put Cached o n ≡ line_field z.whole.world.layout z.whole.world.words Cached o n
  else_was o n within apart = field_other z.whole.world.layout z.whole.world.words row e own_sure offset y small o n within apart

  own_retiring : (w' : World) (u : Turning) (h : Held) (left right : Grip) → w'.layout ≡ z.whole.world.layout → (turn_facts w' is.holder u).line ≡ lines_in z.whole.world.layout put Cached → p.stage ≡ Joins h left right Gone
      → IsRetiring (turn_facts w' is.holder u) (Some after) right
  own_retiring w' u h left right same_layout lines stage = record {
    alone = λ n two says. ⊎_elim
        (λ (own : n ≡ line_number e).
        let made = made_ready (subst (λ m. line_field z.whole.world.layout put Cached state_offset m ≡ ready_state) own (sym (ap (λ (k : Lines). k.state n) lines) ∙ two)) in
        (is_ready ∙ made.2, own ∙ sym number))
        (λ (apart : n ≢ line_number e). absurd (
        let was = is.retiring i p (Some e) u h left right there at_line stage in
        let mine = was.alone n (sym (else_was state_offset n (omega arith) apart) ∙ sym (ap (λ (k : Lines). k.state n) lines) ∙ two)
        (sym (else_was kind_offset n (omega arith) apart) ∙ sym (ap (λ (k : Lines). k.kind n) lines) ∙ says.0, sym (else_was line_node_offset n (omega arith) apart) ∙ sym (ap (λ (k : Lines). k.node n) lines) ∙ says.1) in
        let no : true ≡ false = sym mine.0 ∙ unready in cc))
        (cases_eq n (line_number e));
    waits = λ now_ready says. ⊎_elim
        (λ made. ap (λ (k : Lines). k.state (line_number after)) lines ∙ ap (line_field z.whole.world.layout put Cached state_offset) number ∙ state_here made.0 ∙ made.1)
        (λ not_made. absurd (let no : true ≡ false = sym now_ready ∙ is_ready ∙ not_made.0 in cc))
        (marks_ready z i p is there e offset y seen ready marks);
  }

  other_retiring : (w' : World) (u : Turning) (j : ℕ) (q : Party) (own : Option HeldLine) (h : Held) (left right : Grip) → (turn_facts w' is.holder u).line ≡ lines_in z.whole.world.layout put Cached → j ≢ i → get_elem? z.whole.world.parties j ≡ some q
      → get_elem? z.whole.lines j ≡ some own → q.stage ≡ Joins h left right Gone → IsRetiring (turn_facts w' is.holder u) own right
  other_retiring w' u j q own h left right lines differ at_q at_own stage =
      let was = is.retiring j q own u h left right at_q at_own stage in
      record {
        alone = λ n two says. ⊎_elim
            (λ (mine : n ≡ line_number e). absurd (
            let made = made_ready (subst (λ m. line_field z.whole.world.layout put Cached state_offset m ≡ ready_state) mine (sym (ap (λ (k : Lines). k.state n) lines) ∙ two)) in
            let beyond : (o : ℕ) → 0 < o → o < 8 → line_field z.whole.world.layout z.whole.world.words Cached o n ≡ line_field z.whole.world.layout put Cached o n =
            λ o positive within. ap (λ (s : ℕ → ℕ). s n) (sym (field_else z.whole.world.layout z.whole.world.words row e own_sure offset y small o within (λ same. let first = made.0 in omega arith))) in
            let kind = beyond 1 (omega arith) (omega arith) ∙ sym (ap (λ (k : Lines). k.kind n) lines) ∙ says.0 in
            let node = beyond 2 (omega arith) (omega arith) ∙ sym (ap (λ (k : Lines). k.node n) lines) ∙ says.1 in
            let merge = own_ready z i p is there e at_line offset y small seen ready after marks is_ready waits made.2 (sym (ap (line_field z.whole.world.layout z.whole.world.words Cached kind_offset) mine) ∙ kind) in
            let its_node = line_tie z.whole.world.layout z.whole.world.words e own_sure.here line_node_offset (omega arith) ∙ merge.4.node (line_in z.whole.world.layout z.whole.world.words e.caller e.number) own_sure.seen in
            let one : merge.2.node ≡ right.node = sym its_node ∙ sym (ap (line_field z.whole.world.layout z.whole.world.words Cached line_node_offset) mine) ∙ node in
            differ (is.whole.joint.lawful.alone j i right.node q p at_q there (subst (λ (s : Stage). HoldsNode s right.node) (sym stage) (inr refl)) (subst (λ (s : Stage). HoldsNode s right.node) (sym merge.3) (inr one)))))
            (λ (apart : n ≢ line_number e). was.alone n (sym (else_was state_offset n (omega arith) apart) ∙ sym (ap (λ (k : Lines). k.state n) lines) ∙ two)
            (sym (else_was kind_offset n (omega arith) apart) ∙ sym (ap (λ (k : Lines). k.kind n) lines) ∙ says.0, sym (else_was line_node_offset n (omega arith) apart) ∙ sym (ap (λ (k : Lines). k.node n) lines) ∙ says.1))
            (cases_eq n (line_number e));
        waits = still own at_own was.waits;
      }
    where
      -- another party's line is another
      apart_line : (d : HeldLine) → get_elem? z.whole.lines j ≡ some (Some d) → line_number d ≢ line_number e
      apart_line d at_d same =
          let theirs = is.whole.joint.owned j d at_d in
          let mine = is.whole.joint.owned i e at_line in
          let sure_d = is.whole.joint.sure j d at_d in
          let low = sure_d.here.1 in
          let own_low = own_sure.here.1 in
          let callers : d.caller ≡ e.caller = omega arith in
          differ (is.whole.joint.callers j i theirs.party mine.party theirs.there mine.there (sym theirs.own ∙ callers ∙ mine.own))

      still : (held : Option HeldLine) → get_elem? z.whole.lines j ≡ some held → IfSome held (λ d. d.ready ≡ true → SaysMerge (turn_facts z.whole.world is.holder u) (line_number d) right.node → (lines_in z.whole.world.layout z.whole.world.words Cached).state (line_number d) ≡ ready_state)
          → IfSome held (λ d. d.ready ≡ true → SaysMerge (turn_facts w' is.holder u) (line_number d) right.node → (turn_facts w' is.holder u).line.state (line_number d) ≡ ready_state)
      still None at_d was = tt
      still (Some d) at_d was = λ d_ready says.
          let apart = apart_line d at_d in
          let n = line_number d in
          ap (λ (k : Lines). k.state n) lines ∙ else_was state_offset n (omega arith) apart
          ∙ was d_ready (sym (else_was kind_offset n (omega arith) apart) ∙ sym (ap (λ (k : Lines). k.kind n) lines) ∙ says.0, sym (else_was line_node_offset n (omega arith) apart) ∙ sym (ap (λ (k : Lines). k.node n) lines) ∙ says.1)

-- a line with other knowledge of the same words, which was made READY as little
with_line : (f : TurnFacts) (right : Grip) (e d : HeldLine) → d.ready ≡ e.ready → line_number d ≡ line_number e → IsRetiring f (Some e) right → IsRetiring f (Some d) right
with_line f right e d ready number is = record {
  alone = λ j two says. let was = is.alone j two says in (ready ∙ was.0, was.1 ∙ sym number);
  waits = λ is_ready says. ap f.line.state number ∙ is.waits (sym ready ∙ is_ready) (ap f.line.kind (sym number) ∙ says.0, ap f.line.node (sym number) ∙ says.1);
}

-- What is retired after each step on a line.
line_retiring : (z : Layered) (i : ℕ) (p : Party) (is : IsLayered z) (there : get_elem? z.whole.world.parties i ≡ some p) (a : Action) (x : ℕ) (line after : Option HeldLine) (debt : Debt) (none : counted p.stage ≡ None)
    (is_beside : IsBeside z.whole.world.layout a)
    (whole : IsWhole (stepped_whole z.whole i p a (record { stage = p.stage; line = after; debt = debt })) × AreTended (stepped_whole z.whole i p a (record { stage = p.stage; line = after; debt = debt })))
    (besides : Besides z.whole.world is.holder (acted z.whole.world.layout z.whole.world.words a)) → get_elem? z.whole.lines i ≡ some line → Notes z.whole.world.layout line a x after → Waits p.stage line after
    → (j : ℕ) (q : Party) (own : Option HeldLine) (u : Turning) (h : Held) (left right : Grip) → get_elem? z.whole.world.parties j ≡ some q → get_elem? (slice_set z.whole.lines i after) j ≡ some own → q.stage ≡ Joins h left right Gone
    → IsRetiring (turn_facts (stepped z.whole.world i p a p.stage) is.holder u) own right
line_retiring z i p is there a x line after debt none is_beside whole besides here_line (passes_line {c = c} {j = k} {offset = o} caller low within) waits j q own u h left right at_q at_own stage =
    let l = z.whole.world.layout in
    same_retiring z i p is there a line after debt none is_beside whole besides
    (λ n small. ap (λ (v : List ℕ). line_field l v Cached n) (set-get_or z.whole.world.words (line_address l c k o) 0)) here_line (λ other f was. was) j q own u h left right at_q at_own stage
line_retiring z i p is there a x line after debt none is_beside whole besides here_line (takes {c = c} {j = k} caller low empty_state) waits j q own u h left right at_q at_own stage =
    let l = z.whole.world.layout in
    same_retiring z i p is there a line after debt none is_beside whole besides
    (λ n small. ap (λ (v : List ℕ). line_field l v Cached n) (set-get_or z.whole.world.words (line_address l c k state_offset) 0)) here_line
    (λ other f was. record { alone = λ n two says. absurd (was.alone n two says); waits = λ ready. absurd (let no : false ≡ true = ready in cc) }) j q own u h left right at_q at_own stage
line_retiring z i p is there a x line after debt none is_beside whole besides here_line (looks_up {x = y} {offset = o} {e = e} {seen = seen} within learnt blind) waits j q own u h left right at_q at_own stage =
    let l = z.whole.world.layout in
    same_retiring z i p is there a line after debt none is_beside whole besides
    (λ n small. ap (λ (v : List ℕ). line_field l v Cached n) (set-get_or z.whole.world.words (line_address l e.caller e.number o) 0)) here_line
    (λ other f was. with_line f other e (record e { seen = seen; hand = Some (o, y) }) refl refl was) j q own u h left right at_q at_own stage
line_retiring z i p is there a x line after debt none is_beside whole besides here_line (keeps_safe {y = y} {offset = o} {e = e} {dirty = dirty} within fits hand cleans) waits j q own u h left right at_q at_own stage =
    let l = z.whole.world.layout in
    let words = z.whole.world.words in
    let sure = is.whole.joint.sure i e here_line in
    let has : HasLocation l (Durable (Line e.caller e.number o)) = (sure.here.0, sure.here.1, within) in
    same_retiring z i p is there a line after debt none is_beside whole besides
    (λ n small. ap (λ (q : ℕ). line_field l (slice_set words q y) Cached n) (action_address-drain l (Line e.caller e.number o) y)
    ∙ column-same l words (slice_set words (address_of l (Durable (Line e.caller e.number o))) y) (line_count l) (λ m. Cached (line_word n m))
    (λ m there_m. at-set_other l words (Durable (Line e.caller e.number o)) (Cached (line_word n m)) y has (omega arith, omega arith, small) (λ d. cc))) here_line
    (λ other f was. with_line f other e (record e { dirty = dirty; hand = None }) refl refl was) j q own u h left right at_q at_own stage
line_retiring z i p is there a x line after debt none is_beside whole besides here_line (notes {y = y} {offset = o} {e = e} {seen = seen} {dirty = dirty} {ready = ready} within fits marks soils told keeps) waits j q own u h left right at_q at_own stage =
    let next : HeldLine = record e { seen = seen; dirty = dirty; hand = None; ready = ready } in
    ⊎_elim
    (λ (mine : (j ≡ i) × (Some next ≡ own)).
    let same : q ≡ p = some-injective _ _ (sym at_q ∙ ap (get_elem? z.whole.world.parties) mine.0 ∙ there) in
    subst (λ d. IsRetiring (turn_facts (stepped z.whole.world i p a p.stage) is.holder u) d right) mine.1
    (own_retiring z i p is there e here_line o y within seen ready next marks refl waits refl (stepped z.whole.world i p a p.stage) u h left right refl refl (ap (λ (d : Party). d.stage) (sym same) ∙ stage)))
    (λ (other : (j ≢ i) × (get_elem? z.whole.lines j ≡ some own)).
    other_retiring z i p is there e here_line o y within seen ready next marks refl waits refl (stepped z.whole.world i p a p.stage) u j q own h left right refl other.0 at_q other.1 stage)
    (at_set z.whole.lines i j (Some next) own at_own)

pub call_step_keeps : CallStepKeeps
call_step_keeps z i p f next a x r is there at owing stage (foot.on_nodes {stage = s} {next = t} {line = line} {after = after} {debt = d} {debt' = d'} minds kept k deals) told room =
    let l = z.whole.world.layout in
    let g = z.whole.world.generation in
    let whole = foot_keeps z.whole i p f next a x r is.whole is.tended there at owing stage (foot.on_nodes minds kept k deals) told room in
    nodes_keep z i p is there line after d' a x t r at (subst (λ (u : Stage). Step l g u a x t r) (sym stage) k) (subst (λ (u : Stage). Minds u t line) (sym stage) minds) kept told whole
call_step_keeps z i p f next a x r is there at owing stage (foot.on_line {stage = s} {line = line} {after = after} {debt = d} waits none is_beside k own) told room =
    let l = z.whole.world.layout in
    let whole = foot_keeps z.whole i p f next a x r is.whole is.tended there at owing stage (foot.on_line waits none is_beside k own) told room in
    let goal : Stage → Type 0 = λ u. IsLayered (record { whole = stepped_whole z.whole i p a (record { stage = u; line = after; debt = d }); turns = z.turns }) in
    let waits' : Waits p.stage line after = subst (λ (u : Stage). Waits u line after) (sym stage) waits in
    let none' : counted p.stage ≡ None = ap counted stage ∙ none in
    let whole' = subst (λ (u : Stage). IsWhole (stepped_whole z.whole i p a (record { stage = u; line = after; debt = d })) × AreTended (stepped_whole z.whole i p a (record { stage = u; line = after; debt = d }))) (sym stage) whole in
    let besides = line_beside z i p is there line after a x at k waits' in
    subst goal stage (beside_layered z i p is there a line after d none' is_beside whole' besides at (λ n is_switched P. line_stays l p.stage n P line after a x is_switched k waits')
    (line_retiring z i p is there a x line after d none' is_beside whole' besides at k waits'))
call_step_keeps z i p f next a x r is there at owing stage (foot.on_prev {stage = s} {line = line} {debt = d} {debt' = d'} none is_beside k) told room =
    let l = z.whole.world.layout in
    let whole = foot_keeps z.whole i p f next a x r is.whole is.tended there at owing stage (foot.on_prev none is_beside k) told room in
    let goal : Stage → Type 0 = λ u. IsLayered (record { whole = stepped_whole z.whole i p a (record { stage = u; line = line; debt = d' }); turns = z.turns }) in
    let none' : counted p.stage ≡ None = ap counted stage ∙ none in
    let whole' = subst (λ (u : Stage). IsWhole (stepped_whole z.whole i p a (record { stage = u; line = line; debt = d' })) × AreTended (stepped_whole z.whole i p a (record { stage = u; line = line; debt = d' }))) (sym stage) whole in
    let both = prev_beside z i p is there d d' a owing (subst (λ (u : Stage). Prevs l u d a d') (sym stage) k) in
    let besides = both.0 in
    subst goal stage (beside_layered z i p is there a line line d' none' is_beside whole' besides at (λ n is_switched P has. has)
    (same_retiring z i p is there a line line d' none' is_beside whole' besides both.1 at (λ right f was. was)))
call_step_keeps z i p f next a x r is there at owing stage (foot.on_layer {stage = s} {line = line} {debt = d} {w = v} none place) told room =
    let stays = layer_load_stays z.whole i p (record { stage = s; line = line; debt = d }) v there at owing stage none in
    subst (λ (whole : Whole). IsLayered (record { whole = whole; turns = z.turns })) (sym stays) is
call_step_keeps z i p f next a x r is there at owing stage (foot.on_permutation {stage = s} {line = line} {debt = d} none on) told room =
    let whole = foot_keeps z.whole i p f next a x r is.whole is.tended there at owing stage (foot.on_permutation none on) told room in
    let goal : Stage → Type 0 = λ u. IsLayered (record { whole = stepped_whole z.whole i p a (record { stage = u; line = line; debt = d }); turns = z.turns }) in
    let none' : counted p.stage ≡ None = ap counted stage ∙ none in
    let whole' = subst (λ (u : Stage). IsWhole (stepped_whole z.whole i p a (record { stage = u; line = line; debt = d })) × AreTended (stepped_whole z.whole i p a (record { stage = u; line = line; debt = d }))) (sym stage) whole in
    let both = permutation_beside z i p is there a on in
    subst goal stage (beside_layered z i p is there a line line d none' (on_permutation on) whole' both.0 at (λ n is_switched P has. has)
    (same_retiring z i p is there a line line d none' (on_permutation on) whole' both.0 both.1 at (λ right f was. was)))
