-- A step of a call on nodes keeps the index with its search layer.
use Rattle.std.proofs.Common.{◌≡◌, ◌≢◌, ℕ, ◌<◌, ◌⊎◌, inl, inr, ⊎_elim, true, false, List, slice_set, Option, Some, None, sym, ap, ◌∙◌, subst, arith}
use Rattle.std.specs.Prelude.{IfSome}
use mathlib.Core.Option.{some, some-injective}
use lib.ListN.{get_elem?}
use Rattle.pm_words.specs.declared.action.Action.{Action}
use Rattle.pm_words.specs.Locations.{Updater, Cached, Durable, at}
use Rattle.pm_words.specs.Rows.{acted, got}
use Rattle.pm_words.specs.Codes.{free_status, live_status, merge_kind, ready_state, empty_state}
use Rattle.pm_words.specs.Offsets.{state_offset, kind_offset, line_node_offset}
use Rattle.data_node.specs.Spots.{Spot, updated}
use Rattle.data_node.specs.Lists.{anchor_in}
use Rattle.data_node.proofs.SpotLemmas.{updated-same}
use Rattle.call_stages.specs.declared.once.Once.{Once}
use Rattle.call_stages.specs.declared.once.Placed.{Placed}
use Rattle.call_stages.specs.Stages.{Stage, Held, Grip, Gone, Joins, HoldsNode, IsSwitched, Tells}
use Rattle.call_stages.specs.Kinds.{Step}
use Rattle.call_stages.specs.Lines.{HeldLine}
use Rattle.call_stages.specs.Footings.{Minds, IsKnownEmpty, IsLeftToTurn, KeepsOrLetsGo, HasLine, IsOfMerge}
use Rattle.call_stages.specs.Prevs.{Debt}
use Rattle.index_law.specs.Facts.{Facts}
use Rattle.index_law.specs.Worlds.{Party, World, facts, stepped, moved_on}
use Rattle.index_law.specs.Lawful.{Sure, Lawful}
use Rattle.index_law.specs.Laws.{Allowed}
use Rattle.index_law.specs.Lines.{line_in, SureLine}
use Rattle.index_law.specs.Whole.{IsWhole}
use Rattle.index_law.specs.Footings.{AreTended, stepped_whole}
use Rattle.index_law.proofs.Bystanders.{IsLater, IsCalm}
use Rattle.index_law.proofs.Beside.{nodes_leave_others}
use Rattle.index_law.proofs.Locks.{goes_on, calm, own_of}
use Rattle.index_law.proofs.Moves.{fact_after, Gives, gives, facts_step}
use Rattle.index_law.proofs.Own.{allow_law, sure_within, mine}
use Rattle.index_law.proofs.Parties.{at_set, set_here, set_else}
use Rattle.index_law.proofs.Versions.{unfree}
use Rattle.updater_law.specs.Covers.{IsCover}
use Rattle.updater_law.specs.Facts.{HasReadyMerge}
use Rattle.updater_law.proofs.Columns.{other}
use Rattle.updater_row_law.specs.Columns.{line_field, line_count, line_word, lines_in}
use Rattle.updater_row_law.specs.RowStages.{RowTarget}
use Rattle.updater_row_law.proofs.RowColumns.{column-alike}
use Rattle.updater_row_law.specs.Turnings.{Turning}
use Rattle.index_layer_law.specs.Turnings.{terms_of, ghosts_of, line_number, SureWatch, IsShown}
use Rattle.index_layer_law.specs.Layers.{Layered, SaysMerge, IsRetiring, CoversNode, turn_facts, IsLayered}
use Rattle.index_layer_law.proofs.FactTies.{Rest, known, rest_in, facts_tie, node_rest, rest_layer}
use Rattle.index_layer_law.proofs.Retired.{retiring_lines}
use Rattle.index_layer_law.proofs.Switched.{unready_by, moved_covers, cover_same, switched_busy, arrives, held_on}
use Rattle.index_layer_law.proofs.CallMoves.{Moved, now_known}
use Rattle.index_layer_law.proofs.CallLines.{line_tie}
use Rattle.index_layer_law.proofs.CallSteps.{holder_after, Context, GivesReady, moved}
use Rattle.index_layer_law.proofs.CallRows.{row_after}
use Rattle.index_layer_law.proofs.CallWalks.{watch_stays, shown_stays}
use Rattle.index_layer_law.proofs.TurnWalks.{found_target}
use Rattle.index_layer_law.proofs.CallNodes.{mine_after, others_after, Comes, was_gone, retired, comes, moved_along, merged, context}

-- a step on nodes
module _ (z : Layered) (i : ℕ) (p : Party) (is : IsLayered z) (there : get_elem? z.whole.world.parties i ≡ some p) (line after : Option HeldLine) (debt : Debt) (a : Action) (x : ℕ) (t : Stage) (r : Option (Once Placed))
    (at_line : get_elem? z.whole.lines i ≡ some line) (k : Step z.whole.world.layout z.whole.world.generation p.stage a x t r) (minds : Minds p.stage t line) (kept : KeepsOrLetsGo t line after)
    (told : x ≡ got z.whole.world.layout z.whole.world.words a)
    (whole : IsWhole (stepped_whole z.whole i p a (record { stage = t; line = after; debt = debt })) × AreTended (stepped_whole z.whole i p a (record { stage = t; line = after; debt = debt }))) where
  open z.whole.world use {layout as l, generation as g, words}

  abbrev w : World
  w = z.whole.world

  abbrev w' : World
  w' = stepped z.whole.world i p a t

  abbrev words' : List ℕ
  words' = acted l words a

  abbrev f : Facts
  f = facts z.whole.world

  abbrev law : Lawful z.whole.world
  law = is.whole.joint.lawful

  abbrev before : Context l g words w.base w.history law.row p.caller p.index p.since i is.holder p.stage
  before = context z i p is there

  given : Gives k f
  given = gives words w.base w.history p.caller p.index p.since k law.clock told (law.sure i p there)

  abbrev f' : Facts
  f' = fact_after k f p.caller p.index

  same_facts : facts w' ≡ f'
  same_facts = facts_step words w.base w.history p.caller p.index p.since k law.row law.list told (law.sure i p there)

  abbrev holder' : ℕ → ℕ
  holder' = holder_after k is.holder i

  allowed : Allowed l p.stage a
  allowed = allow_law l g p.stage a x t r (sure_within l g f p.caller p.index p.since p.stage (law.sure i p there)) k

  same_rest : rest_in l words' ≡ rest_in l words
  same_rest = node_rest l words p.stage a allowed

  same_lines : (j o : ℕ) → o < 8 → line_field l words' Cached o j ≡ line_field l words Cached o j
  same_lines j o small = column-alike l words words' (line_count l) (λ n. Cached (line_word o n)) j
      (λ within. nodes_leave_others l words p.stage a (Cached (line_word o j)) (omega arith, omega arith, small) (record { clock = λ e. cc; status = λ m e. cc; cached = λ m o e. cc; durable = λ m o e. cc }) allowed)

  sure_line : IfSome line (SureLine l words)
  sure_line = of line at_line
    where
      of : (held : Option HeldLine) → get_elem? z.whole.lines i ≡ some held → IfSome held (SureLine l words)
      of None there_none = tt
      of (Some e) there_e = is.whole.joint.sure i e there_e

  -- what the party's line says, by what it knows of that
  says : (e : HeldLine) (right : Grip) → SureLine l words e → IsOfMerge e right → ((lines_in l words Cached).kind (line_number e) ≡ merge_kind) × ((lines_in l words Cached).node (line_number e) ≡ right.node)
  says e right sure of_merge = (
    line_tie l words e sure.here kind_offset (omega arith) ∙ of_merge.kind (line_in l words e.caller e.number) sure.seen,
    line_tie l words e sure.here line_node_offset (omega arith) ∙ of_merge.node (line_in l words e.caller e.number) sure.seen,
  )

  gives_ready : GivesReady l g words w.base w.history law.row p.caller p.index p.since i is.holder p.stage t
  gives_ready h held left right n lock was next = of line at_line sure_line (subst (λ (u : Stage × Stage). Minds u.0 u.1 line) (λ k. (was k, next k)) minds)
    where
      of : (own : Option HeldLine) → get_elem? z.whole.lines i ≡ some own → IfSome own (SureLine l words) → HasLine own (λ e. (e.ready ≡ true) × IsOfMerge e right) → HasReadyMerge (now_known l g f (rest_in l words) is.holder) right.node
      of None at sure has = absurd has
      of (Some e) at sure has =
          let said = says e right sure has.1 in
          let waits = (is.retiring i p (Some e) (is.active.1) h left right there at was).waits has.0 said in
          record { line = line_number e; state = waits; kind = said.0; node = said.1 }

  moves : Moved (now_known l g f (rest_in l words) is.holder) (known l g f' holder' (rest_in l words))
  moves = moved l g words w.base w.history law.row p.caller p.index p.since i is.holder k given before line sure_line minds gives_ready

  turn_moves : (u : Turning) → Moved (turn_facts w is.holder u) (turn_facts w' holder' u)
  turn_moves u = moved_along (now_known l g f (rest_in l words) is.holder) (known l g f' holder' (rest_in l words)) (turn_facts w is.holder u) (turn_facts w' holder' u) (facts_tie w is.holder u)
      (facts_tie w' holder' u ∙ (λ n. known l g (same_facts n) holder' (same_rest n))) moves

  is_calm : IsCalm l g f f'
  is_calm = calm f p.caller p.index p.since k given law.list (law.sure i p there) (mine f p.caller p.index p.since (law.begun i p there) law.versions law.list law.live law.settled k given (law.sure i p there))

  later : IsLater f f'
  later = goes_on f p.caller p.index p.since k

  shown' : (u : Turning) (key : List ℕ) (target : RowTarget) → IsShown l g f key target → IsShown l g (facts w') key target
  shown' u key target shown = subst (λ φ. IsShown l g φ key target) (sym same_facts) (shown_stays l g f f' later law.list is_calm key target shown)

  -- holders
  holds_after : (j : ℕ) (q : Party) (n : ℕ) → get_elem? (slice_set w.parties i (moved_on p t)) j ≡ some q → HoldsNode q.stage n → holder' n ≡ j
  holds_after j q n at held = ⊎_elim
      (λ (own : (j ≡ i) × (moved_on p t ≡ q)). mine_after l g f is.holder i p.caller p.index p.since k (λ m was. is.holders i p m there was) n (subst (λ (d : Party). HoldsNode d.stage n) (sym own.1) held) ∙ sym own.0)
      (λ (other : (j ≢ i) × (get_elem? w.parties j ≡ some q)).
      others_after l g f is.holder i p.caller p.index p.since k given (law.sure i p there) n
      (unfree (f.version n) g (own_of l g f q.caller q.index q.since q.stage n held (law.sure j q other.1))) ∙ is.holders j q n other.1 held)
      (at_set w.parties i j (moved_on p t) q at)

  -- merges that are to give their right nodes back
  blind_empty : (e : HeldLine) → SureLine l words e → e.ready ≡ true → ((s : Spot) → Tells e.seen s → s state_offset ≡ empty_state) → ⊥
  blind_empty e sure is_ready is_empty =
      let now = line_in l words e.caller e.number in
      let none : updated now state_offset ready_state state_offset ≡ empty_state = is_empty (updated now state_offset ready_state) ((sure.waits is_ready).blind now ready_state sure.seen) in
      let two : updated now state_offset ready_state state_offset ≡ ready_state = updated-same now state_offset ready_state in
      absurd (omega arith)

  own_retiring : (u : Turning) (h : Held) (left right : Grip) → t ≡ Joins h left right Gone → IsRetiring (turn_facts w is.holder u) after right
  own_retiring u h left right next = of (comes k line minds h left right next) kept
    where
      was_one : (other : Grip) → other.node ≡ right.node → IsRetiring (turn_facts w is.holder u) line other → IsRetiring (turn_facts w is.holder u) line right
      was_one other same was = record { alone = λ j two said. was.alone j two (said.0, said.1 ∙ sym same); waits = keep line was.waits }
        where
          keep : (own : Option HeldLine) → IfSome own (λ e. e.ready ≡ true → SaysMerge (turn_facts w is.holder u) (line_number e) other.node → (lines_in l words Cached).state (line_number e) ≡ ready_state)
              → IfSome own (λ e. e.ready ≡ true → SaysMerge (turn_facts w is.holder u) (line_number e) right.node → (lines_in l words Cached).state (line_number e) ≡ ready_state)
          keep None waits = tt
          keep (Some e) waits = λ is_ready said. waits is_ready (said.0, said.1 ∙ sym same)

      -- a line that is let go is EMPTY, since the node is held still
      let_go : (own : Option HeldLine) → IfSome own (SureLine l words) → IfSome own (λ e. IsKnownEmpty e ⊎ IsLeftToTurn t e) → IsRetiring (turn_facts w is.holder u) own right → IsRetiring (turn_facts w is.holder u) None right
      let_go None sure goes was = was
      let_go (Some e) sure (inl empty) was = record { alone = λ j two said. absurd (blind_empty e sure (was.alone j two said).0 empty); waits = tt }
      let_go (Some e) sure (inr left_so) was = absurd (left_so.given_back right (h, left, next))

      of_line : KeepsOrLetsGo t line after → IsRetiring (turn_facts w is.holder u) line right → IsRetiring (turn_facts w is.holder u) after right
      of_line (inl same) was = subst (λ own. IsRetiring (turn_facts w is.holder u) own right) (sym same) was
      of_line (inr gone) was = subst (λ own. IsRetiring (turn_facts w is.holder u) own right) (sym gone.0) (let_go line sure_line gone.1 was)

      -- a node that becomes GONE was LIVE
      fresh : (own : Option HeldLine) → HasLine own (λ e. e.ready ≡ false) → (other : Grip) → other.node ≡ right.node → f.status other.node ≡ live_status → IsRetiring (turn_facts w is.holder u) own right
      fresh None unready other same bright = absurd unready
      fresh (Some e) unready other same bright = record {
        alone = λ j two said. absurd (let gone = merged z i p is there j two said.0 in let node = ap f.status (said.1 ∙ sym same) in omega arith);
        waits = λ is_ready said. absurd (let no : true ≡ false = sym is_ready ∙ unready in cc);
      }

      of : Comes p.stage line right → KeepsOrLetsGo t line after → IsRetiring (turn_facts w is.holder u) after right
      of (was_gone h' left' other was same) how = of_line how (was_one other same (is.retiring i p line u h' left' other there at_line was))
      of (retired h' left' other was same unready) how =
          let sure = subst (λ (s : Stage). Sure l g f p.caller p.index p.since s) was (law.sure i p there) in
          of_line how (fresh line unready other same sure.at.bright)

  -- switches that may not be durable yet
  covers_after : (own : Option HeldLine) (n : ℕ) → f.status n ≢ free_status → CoversNode w own n → CoversNode w' own n
  covers_after own n busy = unready_by (IsCover (lines_in l words Cached) (lines_in l words Durable) (anchor_in (f.now n))) (IsCover (lines_in l words' Cached) (lines_in l words' Durable) (anchor_in ((facts w').now n))) own
      (λ e is_own unready cover.
      cover_same (lines_in l words Cached) (lines_in l words' Cached) (lines_in l words Durable) (lines_in l words' Durable) (anchor_in (f'.now n)) (anchor_in ((facts w').now n)) (line_number e)
      (ap (λ (rest : Rest). rest.line) same_rest) (ap (λ (rest : Rest). rest.safe_line) same_rest) (ap (λ (φ : Facts). anchor_in (φ.now n)) same_facts)
      (moved_covers (now_known l g f (rest_in l words) is.holder) (known l g f' holder' (rest_in l words)) moves n (line_number e) busy cover))

  own_switched : (n : ℕ) → IsSwitched t n → CoversNode w' after n
  own_switched n is_switched = ⊎_elim
      (λ (was : IsSwitched p.stage n). kept_on (switched_busy l g f p.caller p.index p.since p.stage law.live (law.sure i p there) n was) (was_covered n was))
      (λ (comes_so : (f.status n ≢ free_status) × CoversNode w line n). kept_on comes_so.0 comes_so.1)
      (arrives l g words w.base w.history law.row p.caller p.index p.since i is.holder k before line sure_line minds n is_switched)
    where
      was_covered : (m : ℕ) → IsSwitched p.stage m → CoversNode w line m
      was_covered m was = let covering = is.switched i p m there was in subst (λ o. CoversNode w o m) (some-injective _ _ (sym covering.1 ∙ at_line)) covering.2

      kept_on : f.status n ≢ free_status → CoversNode w line n → CoversNode w' after n
      kept_on busy covers = covers_after after n busy (held_on l g words w.base w.history law.row p.caller p.index p.since i is.holder t line after (anchor_in (f.now n)) sure_line kept covers)

  lines_path : (u : Turning) → (turn_facts w' holder' u).line ≡ (turn_facts w is.holder u).line
  lines_path u = ap (λ (rest : Rest). rest.line) same_rest

  pub nodes_keep : IsLayered (record { whole = stepped_whole z.whole i p a (record { stage = t; line = after; debt = debt }); turns = z.turns })
  nodes_keep = record {
    whole = whole.0;
    tended = whole.1;
    holder = holder';
    holders = holds_after;
    one = is.one;
    active = is.active;
    lock = λ free. is.lock (sym (nodes_leave_others l words p.stage a Updater tt (record { clock = λ e. cc; status = λ m e. cc; cached = λ m o e. cc; durable = λ m o e. cc }) allowed) ∙ free);
    unlocked = λ rest. nodes_leave_others l words p.stage a Updater tt (record { clock = λ e. cc; status = λ m e. cc; cached = λ m o e. cc; durable = λ m o e. cc }) allowed ∙ is.unlocked rest;
    rows = λ j u at rests. row_after (terms_of w u) (ghosts_of w is.holder) (ghosts_of w' holder') words words' (rest_layer l words words' same_rest)
        (λ number two o small. same_lines number o small) u.stage (turn_moves u)
        (λ e target has. found_target (terms_of w u) words' w.base w'.history holder' whole.0.joint.lawful.list e.anchor target (shown' u e.anchor target (is.shown j u e target at has)))
        (is.rows j u at rests);
    stamps = is.stamps;
    watches = λ j u at. subst (λ φ. SureWatch l g φ u.watch) (sym same_facts) (watch_stays l g f f' later law.list is_calm u.watch (is.watches j u at));
    shown = λ j u e target at has. shown' u e.anchor target (is.shown j u e target at has);
    retiring = λ j q own u h left right at_q at_own stage. retiring_lines (turn_facts w is.holder u) (turn_facts w' holder' u) own right (lines_path u) (⊎_elim
        (λ (mine_ : (j ≡ i) × (moved_on p t ≡ q)).
        let next : t ≡ Joins h left right Gone = ap (λ (d : Party). d.stage) mine_.1 ∙ stage in
        let its : after ≡ own = some-injective _ _ (sym (set_here z.whole.lines i after line at_line) ∙ ap (get_elem? (slice_set z.whole.lines i after)) (sym mine_.0) ∙ at_own) in
        subst (λ o. IsRetiring (turn_facts w is.holder u) o right) its (own_retiring u h left right next))
        (λ (other : (j ≢ i) × (get_elem? w.parties j ≡ some q)). is.retiring j q own u h left right other.1 (sym (set_else z.whole.lines i j after other.0) ∙ at_own) stage)
        (at_set w.parties i j (moved_on p t) q at_q));
    switched = λ j q n at_q is_switched. ⊎_elim
        (λ (mine_ : (j ≡ i) × (moved_on p t ≡ q)). (
          after,
          ap (get_elem? (slice_set z.whole.lines i after)) mine_.0 ∙ set_here z.whole.lines i after line at_line,
          own_switched n (subst (λ (d : Party). IsSwitched d.stage n) (sym mine_.1) is_switched),
        ))
        (λ (other : (j ≢ i) × (get_elem? w.parties j ≡ some q)).
        let covering = is.switched j q n other.1 is_switched in (
          covering.0,
          set_else z.whole.lines i j after other.0 ∙ covering.1,
          covers_after covering.0 n (switched_busy l g f q.caller q.index q.since q.stage law.live (law.sure j q other.1) n is_switched) covering.2,
        ))
        (at_set w.parties i j (moved_on p t) q at_q);
  }
