-- A step of a call on its log line is, for the law of turns, a step of another party, or none.
use Rattle.std.proofs.Common.{◌≡◌, ◌≢◌, ℕ, ◌/◌, ◌%◌, ◌<◌, ◌≤◌, inr, ⊎_elim, Bool, true, false, List, slice_set, refl}
use Rattle.std.proofs.Common.{◌+◌}
use Rattle.std.proofs.Common.{sym, ap, ◌∙◌, subst, arith}
use Rattle.std.proofs.lemmas.Bool.{cases_eq}
use Rattle.pm_words.specs.declared.layout.Layout.{Layout}
use Rattle.pm_words.specs.Locations.{Word, Location, Line, Cached, Durable, Volatile, HasWord, address_of}
use Rattle.pm_words.specs.Rows.{IsRow}
use Rattle.pm_words.proofs.Apart.{at-set_other}
use Rattle.data_node.specs.Lists.{anchor_in}
use Rattle.pm_words.specs.Offsets.{anchor_offset, state_offset, kind_offset, line_node_offset, stamp_offset}
use Rattle.pm_words.specs.Codes.{empty_state, merge_kind, open_state, ready_state}
use Rattle.call_stages.specs.Stages.{IsAmong}
use Rattle.call_stages.specs.Lines.{HeldLine, Marks, fills, opens, readies}
use Rattle.index_law.specs.Facts.{Facts}
use Rattle.index_law.specs.Lines.{line_in, safe_line, SureLine}
use Rattle.layer_map.specs.Keys.{key_of}
use Rattle.updater_law.specs.Covers.{set_at, Lines}
use Rattle.updater_law.specs.Facts.{TurnFacts}
use Rattle.updater_law.specs.OtherSteps.{OtherStep, IsRipe}
use Rattle.updater_law.specs.OtherSteps as others
use Rattle.updater_law.proofs.Columns.{here, other}
use Rattle.updater_row_law.specs.Columns.{line_field, line_count, line_word, lines_in, volatile_field}
use Rattle.updater_row_law.proofs.RowColumns.{column-alike, column-same, column-set}
use Rattle.index_layer_law.specs.Turnings.{line_number}
use Rattle.index_layer_law.proofs.FactTies.{rest_in, known, lines_same}
use Rattle.index_layer_law.proofs.CallMoves.{Moved, now_known}
use Rattle.index_layer_law.proofs.CallLines.{line_tie, safe_tie, anchor_line_tie, anchor_safe_tie}
use Rattle.updater_row_law.specs.search_layer.specs.Rows.{HasSameLayer}
use Rattle.updater_row_law.specs.search_layer.proofs.RowLemmas.{layer_words_stay}
use Rattle.index_law.proofs.Places.{caller_at, number_at, offset_at}

-- one word of a line is another
module _ (l : Layout) (words : List ℕ) (row : IsRow l words) (e : HeldLine) (sure : SureLine l words e) (offset y : ℕ) (small : offset < 8) where
  abbrev pub number : ℕ
  number = line_number e

  pub number_within : number < line_count l
  number_within = let caller = sure.here.0 in let index = sure.here.1 in omega arith

  -- a line of this number and no other is this line
  pub same_number : (j : ℕ) → j / 8 ≡ e.caller → j % 8 ≡ e.number → j ≡ number
  same_number j caller index = let small_index = sure.here.1 in omega arith

  pub own_place : (twin : Word → Location) → twin (line_word offset number) ≡ twin (Line e.caller e.number offset)
  own_place twin =
      let caller : number / 8 ≡ e.caller = let index = sure.here.1 in omega arith in
      let index : number % 8 ≡ e.number = let index = sure.here.1 in omega arith in
      λ k. twin (Line (caller k) (index k) offset)

  pub line_there : HasWord l (Line e.caller e.number offset)
  line_there = (sure.here.0, sure.here.1, small)

  -- in the cached row
  abbrev p : Location
  p = Cached (Line e.caller e.number offset)

  abbrev pub stored : List ℕ
  stored = slice_set words (address_of l p) y

  pub field_else : (o : ℕ) → o < 8 → o ≢ offset → line_field l stored Cached o ≡ line_field l words Cached o
  field_else o within apart = column-same l words stored (line_count l) (λ j. Cached (line_word o j)) (λ j there. at-set_other l words p (Cached (line_word o j)) y line_there (omega arith, omega arith, within) (λ same. apart (ap offset_at same)))

  pub field_other : (o j : ℕ) → o < 8 → j ≢ number → line_field l stored Cached o j ≡ line_field l words Cached o j
  field_other o j within apart = column-alike l words stored (line_count l) (λ i. Cached (line_word o i)) j (λ there. at-set_other l words p (Cached (line_word o j)) y line_there (omega arith, omega arith, within) (λ same. apart (same_number j (ap caller_at same) (ap number_at same))))

  field_here : line_field l stored Cached offset ≡ set_at (line_field l words Cached offset) number y
  field_here = column-set l words p y line_there (line_count l) (λ j. Cached (line_word offset j)) number row.whole number_within (own_place (λ w. Cached w)) (λ j there. (omega arith, omega arith, small))
      (λ j there same. same_number j (ap caller_at same) (ap number_at same))

  safe_same : (o : ℕ) → o < 8 → line_field l stored Durable o ≡ line_field l words Durable o
  safe_same o within = column-same l words stored (line_count l) (λ j. Durable (line_word o j)) (λ j there. at-set_other l words p (Durable (line_word o j)) y line_there (omega arith, omega arith, within) (λ same. cc))

  stamp_same : volatile_field l stored stamp_offset ≡ volatile_field l words stamp_offset
  stamp_same = column-same l words stored l.nodes (λ n. Volatile n stamp_offset) (λ n there. at-set_other l words p (Volatile n stamp_offset) y line_there (there, omega arith) (λ same. cc))

  pub layer_same : HasSameLayer l words stored
  layer_same = layer_words_stay l words p y line_there refl

  -- the rest, but for what the cached lines say
  rest_path : (lines : Lines) → lines_in l stored Cached ≡ lines → rest_in l stored ≡ record (rest_in l words) { line = lines }
  rest_path lines is =
      λ k. record {
        stamp = stamp_same k;
        line = is k;
        safe_line = lines_same l words stored Durable safe_same k;
        layer = layer_same.cached k;
        safe_layer = layer_same.durable k;
        marks = layer_same.marks k;
        root = layer_same.root k;
      }

  abbrev lines : Lines
  lines = lines_in l words Cached

  -- where none of the anchor's words is stored
  plain_lines : (state kind node : ℕ → ℕ) → line_field l stored Cached state_offset ≡ state → line_field l stored Cached kind_offset ≡ kind → line_field l stored Cached line_node_offset ≡ node → offset < 3
      → lines_in l stored Cached ≡ record { state = state; kind = kind; node = node; anchor = lines.anchor }
  plain_lines state kind node is_state is_kind is_node low =
      let l3 = field_else anchor_offset (omega arith) (λ same. omega arith) in
      let l4 = field_else (anchor_offset + 1) (omega arith) (λ same. omega arith) in
      let l5 = field_else (anchor_offset + 2) (omega arith) (λ same. omega arith) in
      λ k. record { state = is_state k; kind = is_kind k; node = is_node k; anchor = λ j. key_of (l3 k j) (l4 k j) (l5 k j) }

  pub state_lines : offset ≡ state_offset → lines_in l stored Cached ≡ record lines { state = set_at lines.state number y }
  state_lines is = plain_lines (set_at lines.state number y) lines.kind lines.node (subst (λ o. line_field l stored Cached o ≡ set_at (line_field l words Cached o) number y) is field_here)
      (field_else kind_offset (omega arith) (λ same. omega arith)) (field_else line_node_offset (omega arith) (λ same. omega arith)) (omega arith)

  kind_lines : offset ≡ kind_offset → lines_in l stored Cached ≡ record lines { kind = set_at lines.kind number y }
  kind_lines is = plain_lines lines.state (set_at lines.kind number y) lines.node (field_else state_offset (omega arith) (λ same. omega arith))
      (subst (λ o. line_field l stored Cached o ≡ set_at (line_field l words Cached o) number y) is field_here) (field_else line_node_offset (omega arith) (λ same. omega arith)) (omega arith)

  node_lines : offset ≡ line_node_offset → lines_in l stored Cached ≡ record lines { node = set_at lines.node number y }
  node_lines is = plain_lines lines.state lines.kind (set_at lines.node number y) (field_else state_offset (omega arith) (λ same. omega arith)) (field_else kind_offset (omega arith) (λ same. omega arith))
      (subst (λ o. line_field l stored Cached o ≡ set_at (line_field l words Cached o) number y) is field_here) (omega arith)

  anchor_lines : 3 ≤ offset → lines_in l stored Cached ≡ record lines { anchor = set_at lines.anchor number ((lines_in l stored Cached).anchor number) }
  anchor_lines high =
      let l0 = field_else state_offset (omega arith) (λ same. omega arith) in
      let l1 = field_else kind_offset (omega arith) (λ same. omega arith) in
      let l2 = field_else line_node_offset (omega arith) (λ same. omega arith) in
      let anchor : (j : ℕ) → (lines_in l stored Cached).anchor j ≡ set_at lines.anchor number ((lines_in l stored Cached).anchor number) j = λ j. ⊎_elim
      (λ (same : j ≡ number). ap (lines_in l stored Cached).anchor same ∙ sym (here lines.anchor number j ((lines_in l stored Cached).anchor number) same))
      (λ (apart : j ≢ number).
      (λ k. key_of (field_other anchor_offset j (omega arith) apart k) (field_other (anchor_offset + 1) j (omega arith) apart k) (field_other (anchor_offset + 2) j (omega arith) apart k))
      ∙ sym (other lines.anchor number j ((lines_in l stored Cached).anchor number) apart))
      (cases_eq j number) in
      λ k. record { state = l0 k; kind = l1 k; node = l2 k; anchor = λ j. anchor j k }

  -- the store of a field, of an EMPTY line, or of a state
  module _ (g : ℕ) (f : Facts) (holder : ℕ → ℕ) where
    abbrev F : TurnFacts
    F = now_known l g f (rest_in l words) holder

    abbrev after : TurnFacts
    after = known l g f holder (rest_in l stored)

    path : (changed : Lines) → lines_in l stored Cached ≡ changed → after ≡ record F { line = changed }
    path changed is = ap (known l g f holder) (rest_path changed is)

    fills_moved : offset ≢ state_offset → lines.state number ≡ empty_state → Moved F after
    fills_moved some_offset is_empty = ⊎_elim
        (λ (one : offset ≡ kind_offset). inr (subst (OtherStep F) (sym (path (record lines { kind = set_at lines.kind number y }) (kind_lines one))) (others.notes_kind number y is_empty)))
        (λ (not_one : offset ≢ kind_offset). ⊎_elim
        (λ (two : offset ≡ line_node_offset). inr (subst (OtherStep F) (sym (path (record lines { node = set_at lines.node number y }) (node_lines two))) (others.notes_node number y is_empty)))
        (λ (not_two : offset ≢ line_node_offset). inr (subst (OtherStep F) (sym (path (record lines { anchor = set_at lines.anchor number ((lines_in l stored Cached).anchor number) }) (anchor_lines (omega arith))))
        (others.notes_anchor number ((lines_in l stored Cached).anchor number) is_empty)))
        (cases_eq offset line_node_offset))
        (cases_eq offset kind_offset)

    state_moved : offset ≡ state_offset → OtherStep F (record F { line = record lines { state = set_at lines.state number y } }) → Moved F after
    state_moved is step = inr (subst (OtherStep F) (sym (path (record lines { state = set_at lines.state number y }) (state_lines is))) step)

-- A mark on a line is such a step. A line that becomes READY is of a merge only once that is ripe.
pub marks_moved : (l : Layout) (words : List ℕ) (row : IsRow l words) (e : HeldLine) (sure : SureLine l words e) (offset y : ℕ) (small : offset < 8) (seen : List (ℕ × ℕ)) (ready : Bool) → Marks e offset y seen ready
    → (g : ℕ) (f : Facts) (holder : ℕ → ℕ) → (ready ≡ true → (lines_in l words Cached).kind (line_number e) ≡ merge_kind → IsRipe (now_known l g f (rest_in l words) holder) (line_number e))
    → Moved (now_known l g f (rest_in l words) holder) (known l g f holder (rest_in l (stored l words row e sure offset y small)))
marks_moved l words row e sure offset y small seen ready (fills some_offset unready is_empty) g f holder ripe =
    fills_moved l words row e sure offset y small g f holder some_offset (line_tie l words e sure.here state_offset (omega arith) ∙ is_empty (line_in l words e.caller e.number) sure.seen)
marks_moved l words row e sure offset y small seen ready (opens unready is_empty) g f holder ripe =
    state_moved l words row e sure state_offset open_state small g f holder refl (others.opens (line_number e) (line_tie l words e sure.here state_offset (omega arith) ∙ is_empty (line_in l words e.caller e.number) sure.seen))
marks_moved l words row e sure offset y small seen ready (readies unready durable is_open blind) g f holder ripe =
    let now = line_in l words e.caller e.number in
    let safe = safe_line l words e.caller e.number in
    let spared : (o : ℕ) → IsAmong e.dirty o → ⊥ = λ o among. subst (λ (dirty : List (ℕ × ℕ)). IsAmong dirty o) durable among in
    let clean : safe ≡ now = λ k o. sure.clean o (spared o) (λ given. absurd (let no : true ≡ false = sym given.ready ∙ unready in cc)) k in
    let safe_state : (lines_in l words Durable).state (line_number e) ≡ open_state = safe_tie l words e sure.here state_offset (omega arith) ∙ (λ k. clean k 0) ∙ is_open now sure.seen in
    state_moved l words row e sure state_offset ready_state small g f holder refl (others.readies (line_number e) (line_tie l words e sure.here state_offset (omega arith) ∙ is_open now sure.seen)
    (λ none. let one = sym safe_state ∙ none in omega arith) (anchor_safe_tie l words e sure.here ∙ ap anchor_in clean ∙ sym (anchor_line_tie l words e sure.here)) (ripe refl))
