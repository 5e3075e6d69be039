-- What a lone call leaves of the log lines and of the search layer, step by step.
use Rattle.std.proofs.Common.{◌≡◌, ◌≢◌, ℕ, ◌<◌, ◌⊎◌, inl, inr, ⊎_elim, Bool, true, false, List, [], ◌∷◌, ◌++◌, length}
use Rattle.std.proofs.Common.{refl, sym, ap, ◌∙◌, subst, arith, slice_set}
use Rattle.std.specs.Prelude.{Option, Some, None, IfSome}
use Rattle.std.proofs.lemmas.Bool.{cases_eq}
use Rattle.std.proofs.lemmas.List.{set-get_or, length-append}
use mathlib.Core.Option.{some}
use lib.ListN.{get_elem?}
use Rattle.pm_words.specs.Codes.{ready_state, empty_state, open_state}
use Rattle.pm_words.specs.declared.layout.Layout.{Layout}
use Rattle.pm_words.specs.declared.action.Action.{Action}
use Rattle.pm_words.specs.Locations.{Line, Cached, at, address_of}
use Rattle.pm_words.specs.Rows.{IsRow, acted, got}
use Rattle.pm_words.proofs.Kept.{action_address-drain}
use Rattle.pm_words.specs.declared.again.Again.TheVariants as again
use Rattle.pm_words.specs.Offsets.{state_offset}
use Rattle.cat_history.specs.declared.op.Change.{Change}
use Rattle.data_node.specs.Spots.{Spot}
use Rattle.call_stages.specs.declared.once.Once.{Once}
use Rattle.call_stages.specs.declared.once.Once.TheVariants as once
use Rattle.call_stages.specs.declared.once.Placed.{Placed}
use Rattle.call_stages.specs.Stages.{Grip, Stage, Idle, Tells, counted, placed_in}
use Rattle.call_stages.specs.Kinds.{Step}
use Rattle.call_stages.specs.Lines.{HeldLine, line_address, Marks, fills, opens, readies, Notes, passes_line, takes}
use Rattle.call_stages.specs.Lines.{looks_up, notes, keeps_safe}
use Rattle.call_stages.specs.Footings.{IsOpenOf, Minds, HasLine, IsKnownEmpty, IsLeftToTurn, KeepsOrLetsGo}
use Rattle.call_stages.specs.Footings.{Waits}
use Rattle.call_stages.specs.Footings as foot
use Rattle.call_stages.specs.Prevs.{Prevs, IsSwitch, IsJoin}
use Rattle.index_law.specs.Lines.{line_in, SureLine}
use Rattle.index_law.specs.LoneShapes.{has_merged, IsOut}
use Rattle.index_law.specs.Worlds.{Party, World, facts, stepped, moved_on, written}
use Rattle.index_law.proofs.Loose.{out_unmerged, out_unplaced}
use Rattle.index_law.proofs.MergedOnce.{step_merges_once}
use Rattle.index_law.proofs.Noting.{line-here}
use Rattle.index_law.proofs.Own.{allow_law, sure_within}
use Rattle.index_layer_law.specs.search_layer.specs.Rows.{LayerWords}
use Rattle.index_layer_law.specs.search_layer.specs.Kept.{layer_of, kept}
use Rattle.updater_law.specs.Covers.{Lines, set_at}
use Rattle.updater_law.proofs.Columns.{here, other}
use Rattle.index_layer_law.specs.updater_row_law.specs.Columns.{line_field}
use Rattle.index_layer_law.specs.Turnings.{line_number}
use Rattle.index_layer_law.specs.Layers.{Layered, IsLayered}
use Rattle.index_layer_law.proofs.FactTies.{Rest, rest_in, node_rest}
use Rattle.index_layer_law.proofs.CallBeside.{line_beside, prev_beside, permutation_beside}
use Rattle.index_layer_law.proofs.CallDrains.{drained, drained_path}
use Rattle.index_layer_law.proofs.CallLines.{line_tie}
use Rattle.index_layer_law.proofs.CallNotes.{stored, field_else, state_lines}
use Rattle.lone_call_law.specs.Merging.{HasKeptList}
use Rattle.lone_call_law.specs.Tries.{Trying, HasShape, is_same, was_cut, was_joined, Says, is_cut}
use Rattle.lone_call_law.proofs.Cuts.{cut_unmerged}
use Rattle.lone_updater_law.specs.CallLogs.{KeepsLayer, KeepsLines, MakesReady, HasSwitched, HasNotSwitched}
use Rattle.lone_updater_law.specs.CallLogs.{IsOwnLine, StandsSo, LeavesLines, IsInStep, LogGoes, LogEnds}
use Rattle.lone_updater_law.specs.LoneTurns.{line_state}
use Rattle.lone_updater_law.proofs.Switching.{cut_moves, Told, answer_told}

-- ---- whether the switch was made

both : {b : Bool} → b ≡ true → b ≡ false → ⊥
both is isnt = cc

switched_or_not : (s : Stage) → HasNotSwitched s ⊎ HasSwitched s
switched_or_not s = at (is_cut s) (has_merged s) refl refl
  where
    at : (b c : Bool) → is_cut s ≡ b → has_merged s ≡ c → HasNotSwitched s ⊎ HasSwitched s
    at true c cut merged = inr (inl cut)
    at false true cut merged = inr (inr merged)
    at false false cut merged = inl (cut, merged)

not_both : (s : Stage) → HasNotSwitched s → HasSwitched s → ⊥
not_both s before = ⊎_elim (λ (cut : is_cut s ≡ true). both cut before.0) (λ (merged : has_merged s ≡ true). both merged before.1)

-- a call that has merged has its place
merged_placed : {name : List ℕ} {own : Option Change} {w0 w : World} {s : Stage} → HasShape name own w0 w s → has_merged s ≡ true → placed_in s ≢ None
merged_placed (is_same uncut unmerged list) merged = absurd (both merged unmerged)
merged_placed {s = s} (was_cut cut halved history) merged = absurd (cut_unmerged s cut merged)
merged_placed (was_joined uncut merged given deletes joined) is = given

-- ---- the lines, at another moment

-- with the same states
moment : (caller : ℕ) (w0 w w' : World) (s : Stage) (line : Option HeldLine) → line_state w' ≡ line_state w → StandsSo caller w0 w s line → StandsSo caller w0 w' s line
moment caller w0 w w' s None same = ⊎_elim
    (λ (is : HasNotSwitched s × KeepsLines w0 w). inl (is.0, same ∙ is.1))
    (λ (is : HasSwitched s × MakesReady caller w0 w). inr (is.0, record { line = is.1.line; within = is.1.within; own = is.1.own; was_empty = is.1.was_empty; is = same ∙ is.1.is }))
moment caller w0 w w' s (Some e) same = λ o. record {
  own = o.own;
  was_empty = o.was_empty;
  others = λ j apart. ap (λ (f : ℕ → ℕ). f j) same ∙ o.others j apart;
  readied = λ ready. (ap (λ (f : ℕ → ℕ). f (line_number e)) same ∙ (o.readied ready).0, (o.readied ready).1);
  opened = λ unready past. ap (λ (f : ℕ → ℕ). f (line_number e)) same ∙ o.opened unready past;
}

-- Where a stage leads, as far as the switch is meant.
record LeadsOn (w : World) (line : Option HeldLine) (s t : Stage) : Type 0 where
  past : HasSwitched s → HasSwitched t
  before : HasNotSwitched s → HasNotSwitched t ⊎ (HasSwitched t × HasLine line (λ e. (e.ready ≡ false) × (line_state w (line_number e) ≡ open_state)))

restaged : (caller : ℕ) (w0 w : World) (s t : Stage) (line : Option HeldLine) → LeadsOn w line s t → StandsSo caller w0 w s line → StandsSo caller w0 w t line
restaged caller w0 w s t None leads = ⊎_elim
    (λ (is : HasNotSwitched s × KeepsLines w0 w). ⊎_elim (λ (still : HasNotSwitched t). inl (still, is.1)) (λ (made : HasSwitched t × ⊥). absurd made.1) (leads.before is.0))
    (λ (is : HasSwitched s × MakesReady caller w0 w). inr (leads.past is.0, is.1))
restaged caller w0 w s t (Some e) leads = λ o. record {
  own = o.own;
  was_empty = o.was_empty;
  others = o.others;
  readied = λ ready. ((o.readied ready).0, leads.past (o.readied ready).1);
  opened = λ unready past. ⊎_elim
      (λ (not_yet : HasNotSwitched s). ⊎_elim
      (λ (still : HasNotSwitched t). absurd (not_both t still past))
      (λ (made : HasSwitched t × ((e.ready ≡ false) × (line_state w (line_number e) ≡ open_state))). made.1.1)
      (leads.before not_yet))
      (λ (was : HasSwitched s). o.opened unready was)
      (switched_or_not s);
}

-- and with the line let go
module _ (caller : ℕ) (w0 w : World) (s next : Stage) (layout : w.layout ≡ w0.layout) where
  state_is : (e : HeldLine) → SureLine w.layout w.words e → (x : ℕ) → ((t : Spot) → Tells e.seen t → t state_offset ≡ x) → line_state w (line_number e) ≡ x
  state_is e sure x tells = line_tie w.layout w.words e sure.here state_offset (omega arith) ∙ tells (line_in w.layout w.words e.caller e.number) sure.seen

  let_go : (line after : Option HeldLine) → KeepsOrLetsGo next line after → ((e : HeldLine) → line ≡ Some e → SureLine w.layout w.words e) → StandsSo caller w0 w s line → StandsSo caller w0 w s after
  let_go line after kept sure stands = ⊎_elim
      (λ (same : after ≡ line). subst (StandsSo caller w0 w s) (sym same) stands)
      (λ (left : (after ≡ None) × IfSome line (λ e. IsKnownEmpty e ⊎ IsLeftToTurn next e)). subst (StandsSo caller w0 w s) (sym left.0) (of line left.1 sure stands))
      kept
    where
      of : (line : Option HeldLine) → IfSome line (λ e. IsKnownEmpty e ⊎ IsLeftToTurn next e) → ((e : HeldLine) → line ≡ Some e → SureLine w.layout w.words e) → StandsSo caller w0 w s line → StandsSo caller w0 w s None
      of None left sure stands = stands
      of (Some e) left sure o = ⊎_elim
          (λ (known : IsKnownEmpty e).
          let zero_state : line_state w (line_number e) ≡ empty_state = state_is e (sure e refl) empty_state known in
          let never : HasSwitched s → ⊥ = λ past. open_or_ready past zero_state in
          let same : (j : ℕ) → line_state w j ≡ line_state w0 j = λ j. ⊎_elim
          (λ (own : j ≡ line_number e). ap (line_state w) own ∙ zero_state ∙ sym o.was_empty ∙ ap (line_state w0) (sym own))
          (λ (apart : j ≢ line_number e). o.others j apart)
          (cases_eq j (line_number e)) in
          inl (⊎_elim (λ (before : HasNotSwitched s). before) (λ (past : HasSwitched s). absurd (never past)) (switched_or_not s), λ k j. same j k))
          (λ (given : IsLeftToTurn next e).
          let caller_small = (sure e refl).here.0 in
          let number_small = (sure e refl).here.1 in
          let callers : w.layout.callers ≡ w0.layout.callers = ap (λ (l : Layout). l.callers) layout in
          let own_is = o.own in
          let is : (j : ℕ) → line_state w j ≡ set_at (line_state w0) (line_number e) ready_state j = λ j. ⊎_elim
          (λ (own : j ≡ line_number e). ap (line_state w) own ∙ (o.readied given.ready).0 ∙ sym (here (line_state w0) (line_number e) j ready_state own))
          (λ (apart : j ≢ line_number e). o.others j apart ∙ sym (other (line_state w0) (line_number e) j ready_state apart))
          (cases_eq j (line_number e)) in
          inr ((o.readied given.ready).1, record { line = line_number e; within = omega arith; own = omega arith; was_empty = o.was_empty; is = λ k j. is j k }))
          left
        where
          open_or_ready : HasSwitched s → line_state w (line_number e) ≡ empty_state → ⊥
          open_or_ready past zero_state = at e.ready refl
            where
              at : (b : Bool) → e.ready ≡ b → ⊥
              at true ready = let two = (o.readied ready).0 in omega arith
              at false unready = let one = o.opened unready past in omega arith

-- ---- the steps

module _ (name : List ℕ) (own : Option Change) (w0 : World) (z : Layered) (i : ℕ) (p : Party) (is : IsLayered z) (o : Trying name own w0 i z.whole.world p) where
  open z.whole.world use {layout as l, words}

  abbrev w : World
  w = z.whole.world

  abbrev row : IsRow z.whole.world.layout z.whole.world.words
  row = is.whole.joint.lawful.row

  layer_on : (words' : List ℕ) → (rest_in l words').layer ≡ (rest_in l words).layer → KeepsLayer w0 w → layer_of l words' ≡ layer_of w0.layout w0.words
  layer_on words' same before = ap (λ (v : LayerWords). kept l v) same ∙ before

  -- ---- on nodes
  module _ (a : Action) (x : ℕ) (t : Stage) where
    nodes_rest : (r : Option (Once Placed)) → Step l w.generation p.stage a x t r → rest_in l (acted l words a) ≡ rest_in l words
    nodes_rest r k = node_rest l words p.stage a (allow_law l w.generation p.stage a x t r (sure_within l w.generation (facts w) p.caller p.index p.since p.stage (o.lawful.sure i p o.there)) k)

    nodes_lines : (r : Option (Once Placed)) → Step l w.generation p.stage a x t r → line_state (stepped w i p a t) ≡ line_state w
    nodes_lines r k = ap (λ (rest : Rest). rest.line.state) (nodes_rest r k)

    nodes_layer : (r : Option (Once Placed)) → Step l w.generation p.stage a x t r → KeepsLayer w0 w → KeepsLayer w0 (stepped w i p a t)
    nodes_layer r k = layer_on (acted l words a) (ap (λ (rest : Rest). rest.layer) (nodes_rest r k))

    -- a call that has merged holds its node as long as it isn't answered
    holds_on : has_merged p.stage ≡ true → IsOut t → Trying name own w0 i (stepped w i p a t) (moved_on p t) → ⊥
    holds_on merged out o' = ⊎_elim
        (λ (none : (placed_in p.stage ≡ None) × (w.history ≡ w0.history)). merged_placed o.shape merged none.0)
        (λ (was : (change : Change) × (w.history ≡ w0.history ++ written p.caller p.index (Some change)) × (placed_in p.stage ≢ None) × (own ≡ Some change)). ⊎_elim
        (λ (none : (placed_in t ≡ None) × (w.history ++ written p.caller p.index (counted p.stage) ≡ w0.history)).
        let first = ap length was.1 ∙ length-append w0.history (written p.caller p.index (Some was.0)) in
        let then = sym (ap length none.1) ∙ length-append w.history (written p.caller p.index (counted p.stage)) in
        omega arith)
        (λ (other : (change : Change) × (w.history ++ written p.caller p.index (counted p.stage) ≡ w0.history ++ written p.caller p.index (Some change)) × (placed_in t ≢ None) × (own ≡ Some change)). other.2 (out_unplaced t out))
        o'.written)
        o.written

    has_open : (line : Option HeldLine) (node : Grip) → ((e : HeldLine) → line ≡ Some e → SureLine l words e) → HasLine line (λ e. IsOpenOf e node) → HasLine line (λ e. (e.ready ≡ false) × (line_state w (line_number e) ≡ open_state))
    has_open None node sure none = absurd none
    has_open (Some e) node sure is_open = (is_open.unready, state_is p.caller w0 w p.stage t o.start.layout e (sure e refl) open_state is_open.open_state)

    of_merge : (line : Option HeldLine) (P Q : HeldLine → Type 0) → HasLine line (λ e. P e × Q e) → HasLine line P
    of_merge None P Q none = absurd none
    of_merge (Some e) P Q has = has.0

    leads_on : (line : Option HeldLine) → ((e : HeldLine) → line ≡ Some e → SureLine l words e) → Step l w.generation p.stage a x t None → Minds p.stage t line → Trying name own w0 i (stepped w i p a t) (moved_on p t) → LeadsOn w line p.stage t
    leads_on line sure k minds o' = record {
      past = ⊎_elim
          (λ (cut : is_cut p.stage ≡ true). ⊎_elim
          (λ (same : is_cut t ≡ is_cut p.stage). inl (same ∙ cut))
          (λ (switch : IsSwitch p.stage t). absurd (both cut (ap is_cut switch.was)))
          (cut_moves k refl))
          (λ (merged : has_merged p.stage ≡ true). ⊎_elim
          (λ (out : IsOut t). absurd (holds_on merged out o'))
          (λ held. ⊎_elim
          (λ (same : (IsJoin p.stage t → ⊥) × (has_merged t ≡ has_merged p.stage)). inr (same.1 ∙ merged))
          (λ (join : IsJoin p.stage t × (has_merged p.stage ≡ false) × (has_merged t ≡ true)). inr join.2)
          held)
          (step_merges_once w i p a x t None o.lawful o.there k));
      before = λ before. ⊎_elim
          (λ (same : is_cut t ≡ is_cut p.stage). ⊎_elim
          (λ (out : IsOut t). inl (same ∙ before.0, out_unmerged t out))
          (λ held. ⊎_elim
          (λ (still : (IsJoin p.stage t → ⊥) × (has_merged t ≡ has_merged p.stage)). inl (same ∙ before.0, still.1 ∙ before.1))
          (λ (join : IsJoin p.stage t × (has_merged p.stage ≡ false) × (has_merged t ≡ true)).
          inr (inr join.2, has_open line join.0.right sure (of_merge line _ _ (subst (λ (q : Stage × Stage). Minds q.0 q.1 line) (λ n. (join.0.was n, join.0.is n)) minds))))
          held)
          (step_merges_once w i p a x t None o.lawful o.there k))
          (λ (switch : IsSwitch p.stage t).
          inr (inl (ap is_cut switch.is), has_open line switch.fresh sure (subst (λ (q : Stage × Stage). Minds q.0 q.1 line) (λ n. (switch.was n, switch.is n)) minds)))
          (cut_moves k refl);
    }

  -- ---- on its line
  one_more : (e : HeldLine) (words' : List ℕ) (t : Stage) (state : ℕ) → line_field l words' Cached state_offset ≡ set_at (line_field l words Cached state_offset) (line_number e) state → (j : ℕ) → j ≢ line_number e → line_field l words' Cached state_offset j ≡ line_field l words Cached state_offset j
  one_more e words' t state changed j apart = ap (λ (f : ℕ → ℕ). f j) changed ∙ other (line_field l words Cached state_offset) (line_number e) j state apart

  false_true : {b : Bool} → b ≡ true → b ≡ false → ⊥
  false_true is isnt = cc

  readied_past : (s : Stage) (e : HeldLine) → e.ready ≡ true → IsInStep s (Some e) → HasSwitched s
  readied_past s e ready = ⊎_elim
      (λ (past : (e.ready ≡ true) × HasSwitched s). past.1)
      (λ other. ⊎_elim
      (λ (not_yet : (e.ready ≡ false) × HasNotSwitched s). absurd (false_true ready not_yet.0))
      (λ (opened : (e.ready ≡ false) × ((t : Spot) → Tells e.seen t → t state_offset ≡ open_state)). absurd (false_true ready opened.0))
      other)

  marked : (e : HeldLine) (sure : SureLine l words e) (offset y : ℕ) (small : offset < 8) (seen dirty : List (ℕ × ℕ)) (ready : Bool) → Marks e offset y seen ready
      → IsInStep p.stage (Some (record e { seen = seen; dirty = dirty; hand = None; ready = ready })) → IsOwnLine p.caller w0 w p.stage e
      → (w' : World) → line_state w' ≡ line_field l (stored l words row e sure offset y small) Cached state_offset → IsOwnLine p.caller w0 w' p.stage (record e { seen = seen; dirty = dirty; hand = None; ready = ready })
  marked e sure offset y small seen dirty ready (fills some_offset unready empty) in_step q w' state =
      let same : line_state w' ≡ line_state w = state ∙ field_else l words row e sure offset y small 0 (omega arith) (λ first. some_offset (sym first)) in
      record {
        own = q.own;
        was_empty = q.was_empty;
        others = λ j apart. ap (λ (f : ℕ → ℕ). f j) same ∙ q.others j apart;
        readied = λ ready. absurd (both ready refl);
        opened = λ _ past. ap (λ (f : ℕ → ℕ). f (line_number e)) same ∙ q.opened unready past;
      }
  marked e sure offset y small seen dirty ready (opens unready empty) in_step q w' state =
      let changed : line_state w' ≡ set_at (line_state w) (line_number e) open_state = state ∙ ap (λ (n : Lines). n.state) (state_lines l words row e sure state_offset open_state small refl) in
      record {
        own = q.own;
        was_empty = q.was_empty;
        others = λ j apart. ap (λ (f : ℕ → ℕ). f j) changed ∙ other (line_state w) (line_number e) j open_state apart ∙ q.others j apart;
        readied = λ ready. absurd (both ready refl);
        opened = λ _ past. ap (λ (f : ℕ → ℕ). f (line_number e)) changed ∙ here (line_state w) (line_number e) (line_number e) open_state refl;
      }
  marked e sure offset y small seen dirty ready (readies unready durable was_open blind) in_step q w' state =
      let changed : line_state w' ≡ set_at (line_state w) (line_number e) ready_state = state ∙ ap (λ (n : Lines). n.state) (state_lines l words row e sure state_offset ready_state small refl) in
      record {
        own = q.own;
        was_empty = q.was_empty;
        others = λ j apart. ap (λ (f : ℕ → ℕ). f j) changed ∙ other (line_state w) (line_number e) j ready_state apart ∙ q.others j apart;
        readied = λ _. (ap (λ (f : ℕ → ℕ). f (line_number e)) changed ∙ here (line_state w) (line_number e) (line_number e) ready_state refl, readied_past p.stage (record { caller = e.caller; number = e.number; seen = seen; dirty = dirty; hand = None; ready = true }) refl in_step);
        opened = λ unready_now. absurd (both refl unready_now);
      }

  abbrev taken_line : ℕ → ℕ → ℕ → HeldLine
  taken_line c j x = record { caller = c; number = j; seen = (0, x) ∷ []; dirty = (0, 8) ∷ []; hand = None; ready = false }

  -- the line that it takes was EMPTY from the beginning
  took : (c j x : ℕ) → c < l.callers → j < 8 → x ≡ empty_state → x ≡ at l words (Cached (Line c j state_offset)) → c ≡ p.caller → (e : HeldLine) → e ≡ taken_line c j x
      → IsInStep p.stage (Some e) → StandsSo p.caller w0 w p.stage None → (w' : World) → line_state w' ≡ line_state w → IsOwnLine p.caller w0 w' p.stage e
  took c j x caller low zero told mine e is in_step stands w' same = subst (IsOwnLine p.caller w0 w' p.stage) (sym is) (⊎_elim
      (λ (q : HasNotSwitched p.stage × KeepsLines w0 w).
      let state : line_state w (line_number (taken_line c j x)) ≡ empty_state = line_tie l words (taken_line c j x) (caller, low) state_offset (omega arith) ∙ line-here l words c j state_offset (caller, low, omega arith) ∙ sym told ∙ zero in
      record {
        own = mine;
        was_empty = sym (ap (λ (f : ℕ → ℕ). f (line_number (taken_line c j x))) q.1) ∙ state;
        others = λ k apart. ap (λ (f : ℕ → ℕ). f k) (same ∙ q.1);
        readied = λ ready. absurd (both ready refl);
        opened = λ unready past. absurd (not_both p.stage q.0 past);
      })
      (λ (q : HasSwitched p.stage × MakesReady p.caller w0 w). absurd (never q.0 (subst (λ (e : HeldLine). IsInStep p.stage (Some e)) is in_step)))
      stands)
    where
      never : HasSwitched p.stage → IsInStep p.stage (Some (taken_line c j x)) → ⊥
      never past = ⊎_elim
          (λ (ready : (false ≡ true) × HasSwitched p.stage). both ready.0 refl)
          (λ unready. ⊎_elim
          (λ (not_yet : (false ≡ false) × HasNotSwitched p.stage). not_both p.stage not_yet.1 past)
          (λ (opened : (false ≡ false) × ((t : Spot) → Tells ((state_offset, x) ∷ []) t → t state_offset ≡ open_state)). let no : 0 ≡ 1 = opened.1 (λ _. 0) (sym zero, tt) in omega arith)
          unready)

  line_goes : (line after : Option HeldLine) (a : Action) (x : ℕ) → get_elem? z.whole.lines i ≡ some line → Notes l line a x after → x ≡ got l words a → IfSome after (λ e. e.caller ≡ p.caller) → IsInStep p.stage after
      → StandsSo p.caller w0 w p.stage line → StandsSo p.caller w0 (stepped w i p a p.stage) p.stage after
  line_goes line after a x at_line (passes_line {c = c} {j = j} {offset = n} caller low within) told mine in_step stands =
      moment p.caller w0 w (stepped w i p a p.stage) p.stage None (ap (λ (v : List ℕ). line_field l v Cached state_offset) (set-get_or words (line_address l c j n) 0)) stands
  line_goes line after a x at_line (takes {c = c} {j = j} caller low zero) told mine in_step stands =
      took c j x caller low zero told mine _ refl in_step stands (stepped w i p a p.stage) (ap (λ (v : List ℕ). line_field l v Cached state_offset) (set-get_or words (line_address l c j state_offset) 0))
  line_goes line after a x at_line (looks_up {offset = n} {e = e} {seen = seen} within learnt blind) told mine in_step stands =
      let q : IsOwnLine p.caller w0 (stepped w i p a p.stage) p.stage e =
      moment p.caller w0 w (stepped w i p a p.stage) p.stage (Some e) (ap (λ (v : List ℕ). line_field l v Cached state_offset) (set-get_or words (line_address l e.caller e.number n) 0)) stands in
      record { own = q.own; was_empty = q.was_empty; others = q.others; readied = q.readied; opened = q.opened }
  line_goes line after a x at_line (notes {y = y} {offset = n} {e = e} {seen = seen} {dirty = dirty} {ready = ready} within fits marks soils tells keeps) told mine in_step stands =
      marked e (is.whole.joint.sure i e at_line) n y within seen dirty ready marks in_step stands (stepped w i p a p.stage) refl
  line_goes line after a x at_line (keeps_safe {y = y} {offset = n} {e = e} {dirty = dirty} within fits hand cleans) told mine in_step stands =
      let sure = is.whole.joint.sure i e at_line in
      let same : acted l words a ≡ drained l words row e sure n y within = ap (λ (q : ℕ). slice_set words q y) (action_address-drain l (Line e.caller e.number n) y) in
      let q : IsOwnLine p.caller w0 (stepped w i p a p.stage) p.stage e =
      moment p.caller w0 w (stepped w i p a p.stage) p.stage (Some e) (ap (λ (v : List ℕ). line_field l v Cached state_offset) same ∙ ap (λ (rest : Rest). rest.line.state) (drained_path l words row e sure n y within)) stands in
      record { own = q.own; was_empty = q.was_empty; others = q.others; readied = q.readied; opened = q.opened }

  -- ---- all steps
  sure_of : (line : Option HeldLine) → get_elem? z.whole.lines i ≡ some line → (e : HeldLine) → line ≡ Some e → SureLine l words e
  sure_of line at_line e same = is.whole.joint.sure i e (at_line ∙ ap some same)

  nodes_go : (t : Stage) (line after : Option HeldLine) (a : Action) (x : ℕ) → get_elem? z.whole.lines i ≡ some line → Minds p.stage t line → KeepsOrLetsGo t line after → Step l w.generation p.stage a x t None
      → Trying name own w0 i (stepped w i p a t) (moved_on p t) → StandsSo p.caller w0 w p.stage line → StandsSo p.caller w0 (stepped w i p a t) t after
  nodes_go t line after a x at_line minds kept k o' stands =
      moment p.caller w0 w (stepped w i p a t) t after (nodes_lines a x t None k)
      (let_go p.caller w0 w t t o.start.layout line after kept (sure_of line at_line) (restaged p.caller w0 w p.stage t line (leads_on a x t line (sure_of line at_line) k minds o') stands))

  nodes_end : (after : Option HeldLine) (line : Option HeldLine) (a : Action) (x : ℕ) (answer : Once Placed) → get_elem? z.whole.lines i ≡ some line → KeepsOrLetsGo Idle line None → Step l w.generation p.stage a x Idle (Some answer)
      → StandsSo p.caller w0 w p.stage line → Says w0 (stepped w i p a Idle) name own p.stage answer → LeavesLines name p.caller w0 (stepped w i p a Idle) answer
  nodes_end after line a x answer at_line kept k stands says =
      left answer (answer_told k (merged_placed o.shape) answer refl) says
      (moment p.caller w0 w (stepped w i p a Idle) p.stage None (nodes_lines a x Idle (Some answer) k) (let_go p.caller w0 w p.stage Idle o.start.layout line None kept (sure_of line at_line) stands))
    where
      kept_so : HasNotSwitched p.stage → StandsSo p.caller w0 (stepped w i p a Idle) p.stage None → KeepsLines w0 (stepped w i p a Idle)
      kept_so before = ⊎_elim
          (λ (q : HasNotSwitched p.stage × KeepsLines w0 (stepped w i p a Idle)). q.1)
          (λ (q : HasSwitched p.stage × MakesReady p.caller w0 (stepped w i p a Idle)). absurd (not_both p.stage before q.0))

      made_so : HasSwitched p.stage → StandsSo p.caller w0 (stepped w i p a Idle) p.stage None → MakesReady p.caller w0 (stepped w i p a Idle)
      made_so past = ⊎_elim
          (λ (q : HasNotSwitched p.stage × KeepsLines w0 (stepped w i p a Idle)). absurd (not_both p.stage q.0 past))
          (λ (q : HasSwitched p.stage × MakesReady p.caller w0 (stepped w i p a Idle)). q.1)

      left : (r : Once Placed) → Told r p.stage → Says w0 (stepped w i p a Idle) name own p.stage r → StandsSo p.caller w0 (stepped w i p a Idle) p.stage None → LeavesLines name p.caller w0 (stepped w i p a Idle) r
      left (once.Done placed) told says stands_so = ⊎_elim
          (λ (q : (has_merged p.stage ≡ false) × HasKeptList w0 (stepped w i p a Idle)). inl (q.1, kept_so (told, q.0) stands_so))
          (λ q. inr (q.3, made_so (inr q.0) stands_so))
          says.2
      left (once.Spent clock) told says stands_so = kept_so told stands_so
      left (once.Worn node word) told says stands_so = kept_so told stands_so
      left (once.Again (again.NeedsSplit n)) told says stands_so = made_so (inl told) stands_so
      left (once.Again (again.Locked n word)) told says stands_so = kept_so told stands_so
      left (once.Again (again.Moved n first second)) told says stands_so = kept_so told stands_so
      left (once.Again (again.Hops count)) told says stands_so = kept_so told stands_so
      left (once.Again again.LogFull) told says stands_so = kept_so told stands_so
      left (once.Again again.NoFree) told says stands_so = kept_so told stands_so
      left (once.Again (again.Held word)) told says stands_so = kept_so told stands_so
      left (once.Again (again.Epoch first second)) told says stands_so = kept_so told stands_so

pub log_goes : LogGoes
log_goes name own w0 z i p f next a x is o o' at_line owing stage stands (foot.on_nodes {stage = s} {next = t} {line = line} {after = after} minds kept k deals) told in_step =
    let l = z.whole.world.layout in
    let g = z.whole.world.generation in
    let k' : Step l g p.stage a x t None = subst (λ (u : Stage). Step l g u a x t None) (sym stage) k in
    record {
      layer = nodes_layer name own w0 z i p is o a x t None k' stands.layer;
      lines = nodes_go name own w0 z i p is o t line after a x at_line (subst (λ (u : Stage). Minds u t line) (sym stage) minds) kept k' o' (subst (λ (u : Stage). StandsSo p.caller w0 z.whole.world u line) (sym stage) stands.lines);
    }
log_goes name own w0 z i p f next a x is o o' at_line owing stage stands (foot.on_line {stage = s} {line = line} {after = after} waits none is_beside k mine) told in_step =
    let l = z.whole.world.layout in
    let waits' : Waits p.stage line after = subst (λ (u : Stage). Waits u line after) (sym stage) waits in
    record {
      layer = layer_on name own w0 z i p is o (acted l z.whole.world.words a) (line_beside z i p is o.there line after a x at_line k waits').layer.cached stands.layer;
      lines = subst (λ (u : Stage). StandsSo p.caller w0 (stepped z.whole.world i p a u) u after) stage
          (line_goes name own w0 z i p is o line after a x at_line k told mine (subst (λ (u : Stage). IsInStep u after) (sym stage) in_step) (subst (λ (u : Stage). StandsSo p.caller w0 z.whole.world u line) (sym stage) stands.lines));
    }
log_goes name own w0 z i p f next a x is o o' at_line owing stage stands (foot.on_prev {stage = s} {line = line} {debt = d} {debt' = d'} none is_beside k) told in_step =
    let l = z.whole.world.layout in
    let both_so = prev_beside z i p is o.there d d' a owing (subst (λ (u : Stage). Prevs l u d a d') (sym stage) k) in
    record {
      layer = layer_on name own w0 z i p is o (acted l z.whole.world.words a) both_so.0.layer.cached stands.layer;
      lines = moment p.caller w0 z.whole.world (stepped z.whole.world i p a s) s line (both_so.1 0 (omega arith)) stands.lines;
    }
log_goes name own w0 z i p f next a x is o o' at_line owing stage stands (foot.on_layer {stage = s} {line = line} {w = v} none place) told in_step =
    let l = z.whole.world.layout in
    let words = z.whole.world.words in
    let same : acted l words a ≡ words = set-get_or words (address_of l (Cached v)) 0 in
    record {
      layer = layer_on name own w0 z i p is o (acted l words a) (ap (λ (ws : List ℕ). (rest_in l ws).layer) same) stands.layer;
      lines = moment p.caller w0 z.whole.world (stepped z.whole.world i p a s) s line (ap (λ (ws : List ℕ). line_field l ws Cached state_offset) same) stands.lines;
    }
log_goes name own w0 z i p f next a x is o o' at_line owing stage stands (foot.on_permutation {stage = s} {line = line} none on) told in_step =
    let l = z.whole.world.layout in
    let both = permutation_beside z i p is o.there a on in
    record {
      layer = layer_on name own w0 z i p is o (acted l z.whole.world.words a) both.0.layer.cached stands.layer;
      lines = moment p.caller w0 z.whole.world (stepped z.whole.world i p a s) s line (both.1 0 (omega arith)) stands.lines;
    }

pub log_ends : LogEnds
log_ends name own w0 z i p f debt a x answer is o at_line stage stands (foot.on_nodes {stage = s} {line = line} minds kept k deals) says =
    let l = z.whole.world.layout in
    let g = z.whole.world.generation in
    let k' : Step l g p.stage a x Idle (Some answer) = subst (λ (u : Stage). Step l g u a x Idle (Some answer)) (sym stage) k in (
      nodes_layer name own w0 z i p is o a x Idle (Some answer) k' stands.layer,
      nodes_end name own w0 z i p is o None line a x answer at_line kept k' (subst (λ (u : Stage). StandsSo p.caller w0 z.whole.world u line) (sym stage) stands.lines) says,
    )
