-- Each step of a turn of the updater keeps the index.
use Rattle.std.proofs.Common.{◌≡◌, ◌≢◌, ℕ, ◌+◌, ◌/◌, ◌<◌, ◌≤◌, ◌^◌, inl, inr, ⊎_elim, true, List, [], ◌∷◌, set, map}
use Rattle.std.proofs.Common.{refl, sym, ap, ◌∙◌, subst, arith}
use Rattle.std.specs.Prelude.{Option, Some, IfSome}
use mathlib.Core.Option.{some}
use lib.ListN.{get_elem?}
use Rattle.pm_words.specs.Codes.{gone_status, free_status, untaken_lock}
use Rattle.pm_words.specs.declared.layout.Layout.{Layout}
use Rattle.pm_words.specs.declared.action.Action.{Action}
use Rattle.pm_words.specs.declared.machine.Turn.{Turn}
use Rattle.pm_words.specs.declared.machine.Turn.TheVariants.{Go, Done}
use Rattle.pm_words.specs.Rows.{CanAct, acted}
use Rattle.pm_words.specs.Locations.{Volatile}
use Rattle.pm_words.specs.Offsets.{status_offset}
use Rattle.call_stages.specs.Stages.{Stage, Idle, Saw, Wears, Reads, Holds, Eyes, Splits, Leaves, Meets, Joins}
use Rattle.cat_history.specs.Maps.{map_of}
use Rattle.call_stages.specs.Watches.{Nothing}
use Rattle.index_law.specs.Facts.{Facts}
use Rattle.index_law.specs.Worlds.{Party, World, facts}
use Rattle.index_law.specs.InUse.{AreInUse}
use Rattle.index_law.specs.Weights.{gone_weight, index_weight, lowered_in, lowered_sum, weight_sum}
use Rattle.index_law.proofs.Weights.{gone_less}
use Rattle.index_law.proofs.Parties.{set_here}
use Rattle.permutation_law.proofs.Columns.{IsLeft, left_by, left_same}
use Rattle.updater.specs.updater_row_law.specs.Columns.{RowTerms, volatile_field}
use Rattle.updater.specs.updater_row_law.specs.RowStages.{RowStage, Resting, IsUnworn, Frees, Counts}
use Rattle.updater.specs.updater_row_law.specs.RowLaw.{RowLawful}
use Rattle.updater.specs.updater_row_law.proofs.RowColumns.{column-here}
use Rattle.index_law.proofs.Rows.{status_in-here}
use Rattle.lone_hops_law.specs.lone_updater_law.specs.LoneTurns.{stamp_in}
use Rattle.updater.specs.updater_row_law.specs.Turnings.{Turning, TurnFoot}
use Rattle.updater.specs.declared.making.MakeTurn.{MakeTurn}
use Rattle.updater.specs.declared.making.MakeTurn.TheVariants.{Taking, Working}
use Rattle.updater.specs.declared.making.TurnReply.{TurnReply}
use Rattle.updater.specs.declared.terms.Terms.{Terms}
use Rattle.updater.specs.Works.{work_from}
use Rattle.updater.specs.Steps.{row_terms}
use Rattle.updater.specs.Watches.{turning_at}
use Rattle.updater.specs.Makings.{IsMaking, making_terms, making_asks, making_turned, making_takes, making_turning}
use Rattle.updater.specs.Makings.{turning_made, MakingStays, making_from}
use Rattle.updater.proofs.MakingLaw.{makings_stay_sound, makings_are_feet}
use Rattle.lone_hops_law.specs.lone_updater_law.specs.Laws.{terms_in}
use Rattle.lone_hops_law.specs.lone_updater_law.proofs.Acting.{turns_act}
use Rattle.lone_hops_law.specs.lone_updater_law.proofs.Told.{told_any}
use Rattle.index_image_law.specs.index_layer_law.specs.Turnings.{terms_of, ghosts_of}
use Rattle.index_image_law.specs.index_layer_law.specs.Layers.{Layered, IsLayered}
use Rattle.index_image_law.specs.index_layer_law.specs.Laws.{turned, LeavesNodes}
use Rattle.index_image_law.specs.index_layer_law.proofs.TurnSteps.{turn_step_keeps, turn_step_leaves, others_rest}
use Rattle.index_image_law.specs.index_layer_law.proofs.TurnVolatile.{turn_step_leaves_volatile}
use Rattle.index_image_law.specs.index_layer_law.proofs.TurnRests.{turn_start_keeps}
use Rattle.index_image_law.specs.index_layer_law.proofs.TurnTerms.{terms_may_begin}
use Rattle.index_core.specs.declared.party.PartyState.{PartyState}
use Rattle.index_core.specs.PartyStates.{party_of, resting, turning_of, turn_after, IsTurnOf}
use Rattle.index_core.specs.Indexes.{Index, IsIndex, world, footed, layered}
use Rattle.index_core.specs.Turns.{turn_told, turned_index, FindsNoneFree, FreesReleased, TurnLaw, TurnKeeps}
use Rattle.index_core.specs.Turns.{TurnBegins, TermsMayBeSet}
use Rattle.index_core.proofs.Beside.{beside_index}
use Rattle.index_core.proofs.Checks.{checks_set}
use Rattle.index_core.proofs.Footings.{line_of, debt_of}
use Rattle.index_core.proofs.Freeing.{AboutToFree, only_frees, comes_from}
use Rattle.index_core.proofs.InUse.{ends_counting, counted_none, in_use_weighs}
use Rattle.index_core.proofs.Layering.{turn_of, map_own}
use Rattle.index_core.proofs.Lists.{map_there, map_set, set_twice}
use Rattle.index_core.proofs.Permuting.{row_by_facts}

-- The parties, of which one may have another turn.
module _ (s : Index) (i : ℕ) (state : PartyState) (turn : Option MakeTurn) (there : get_elem? s.states i ≡ some state) where
  abbrev now : PartyState
  now = record state { turn = turn }

  abbrev states : List PartyState
  states = set s.states i now

  pub parties_same : map party_of states ≡ map party_of s.states
  parties_same = map_own party_of s.states i state now there refl

  pub lines_same : map line_of states ≡ map line_of s.states
  lines_same = map_own line_of s.states i state now there refl

  pub debts_same : map debt_of states ≡ map debt_of s.states
  debts_same = map_own debt_of s.states i state now there refl

  -- with its search layer
  pub layered_is : (words : List ℕ) → Path Layered (record { whole = record (footed s) { world = record (world s) { words = words } }; turns = set (layered s).turns i (turning_of turn) }) (layered (record s { words = words; states = states }))
  layered_is words = λ k. record {
    whole = record {
      world = record (world s) { words = words; parties = sym parties_same k };
      lines = sym lines_same k;
      debts = sym debts_same k;
    };
    turns = sym (map_set turn_of s.states i now) k;
  }

  -- an index with these words is one with this turn
  pub with_turn : (words : List ℕ) → IsIndex s → IsLayered (record { whole = record (footed s) { world = record (world s) { words = words } }; turns = set (layered s).turns i (turning_of turn) })
      → LeavesNodes (facts (world s)) (facts (record (world s) { words = words })) → ((n : ℕ) → n < s.layout.nodes → IsLeft s.layout s.words words n)
      → IfSome turn (IsTurnOf s.layout s.generation) → IsIndex (record s { words = words; states = states })
  with_turn words is law leaves left own_turn =
      beside_index s i state turn state.recheck there words is (subst IsLayered (layered_is words) law)
      (row_by_facts s.layout s.words words (map_of s.base) s.history (ap (λ (f : Facts). f.version) leaves.nodes) (ap (λ (f : Facts). f.now) leaves.nodes) (ap (λ (f : Facts). f.list) leaves.nodes) left)
      own_turn (checks_set s.layout s.generation s.history s.history (omega arith) s.states i state now there refl is.rechecks)

-- What the calls have lowered the weight by reads no status.
lowered_same : (l : Layout) (f : Facts) (status : ℕ → ℕ) (parties : List Party) → lowered_sum l (record f { status = status }) parties ≡ lowered_sum l f parties
lowered_same l f status [] = refl
lowered_same l f status (p ∷ parties) = λ k. one p.stage k + lowered_same l f status parties k
  where
    one : (stage : Stage) → lowered_in l (record f { status = status }) stage ≡ lowered_in l f stage
    one Idle = refl
    one (Saw n v w k) = refl
    one (Wears n v) = refl
    one (Reads n v sight told) = refl
    one (Holds n w h) = refl
    one (Eyes n w h m v u free) = refl
    one (Splits left fresh phase) = refl
    one (Leaves left) = refl
    one (Meets n w h right) = refl
    one (Joins h left right pace) = refl

-- With fewer GONE nodes the index weighs no more.
weighs_no_more : (w v : World) → v.layout ≡ w.layout → v.parties ≡ w.parties → LeavesNodes (facts w) (facts v) → weight_sum v ≤ weight_sum w
weighs_no_more w v layout parties leaves =
    let l = w.layout in
    let f = facts w in
    let status = (facts v).status in
    let fewer : gone_weight (l.slots / 2) status l.nodes ≤ gone_weight (l.slots / 2) f.status l.nodes =
    gone_less (l.slots / 2) f.status status l.nodes (λ n here gone. elim (leaves.frees n) [
      | inl same ↦ sym same ∙ gone
      | inr free ↦ absurd (let no : free_status ≡ gone_status = sym free ∙ gone in omega arith)
    ]) in
    let calls = lowered_same l f status w.parties in
    let less : index_weight l (record f { status = status }) + lowered_sum l (record f { status = status }) w.parties ≤ weight_sum w = omega arith in
    subst (λ (q : Layout × (Facts × List Party)). index_weight q.0 q.1.0 + lowered_sum q.0 q.1.0 q.1.1 ≤ weight_sum w) (λ k. (sym layout k, (sym leaves.nodes k, sym parties k))) less

stamp_is : (making : MakeTurn) → (making_turning making).stamp ≡ (making_terms making).stamp
stamp_is (Taking terms) = refl
stamp_is (Working work) = refl

release_is : (making : MakeTurn) → (making_turning making).release ≡ (making_terms making).release
release_is (Taking terms) = refl
release_is (Working work) = refl

module _ (s : Index) (i : ℕ) (state : PartyState) (making : MakeTurn) (is : IsIndex s) (there : get_elem? s.states i ≡ some state) (turns : state.turn ≡ Some making) where
  own : IsTurnOf s.layout s.generation making
  own = subst (λ (o : Option MakeTurn). IfSome o (IsTurnOf s.layout s.generation)) turns (is.states i state there).turn

  layer : IsLayered (layered s)
  layer = is.layered

  at_turn : get_elem? (layered s).turns i ≡ some (making_turning making)
  at_turn = map_there turn_of s.states i state there ∙ ap (λ (o : Option MakeTurn). some (turning_of o)) turns

  abbrev x : ℕ
  x = turn_told s making

  abbrev action : Action
  action = making_asks making

  -- the terms of the turn are those of this index
  terms_are : row_terms (making_terms making) ≡ terms_of (world s) (making_turning making)
  terms_are = λ k. record { layout = own.layout k; generation = own.generation k; stamp = sym (stamp_is making) k; release = sym (release_is making) k }

  takes : making_takes making (turn_told s making)
  takes = by_machine making refl
    where
      by_machine : (m : MakeTurn) → making ≡ m → making_takes m (turn_told s m)
      by_machine (Taking terms) same = (subst IsMaking same own.sound, (told_any (world s) (making_asks (Taking terms)) is.lawful).fits)
      by_machine (Working work) same =
          let layout : work.terms.layout ≡ s.layout = ap (λ (m : MakeTurn). (making_terms m).layout) (sym same) ∙ own.layout in
          let generation : work.terms.generation ≡ s.generation = ap (λ (m : MakeTurn). (making_terms m).generation) (sym same) ∙ own.generation in
          let terms : work.terms ≡ terms_in (world s) work.terms.stamp work.terms.release = λ k. record { layout = layout k; generation = generation k; stamp = work.terms.stamp; release = work.terms.release } in
          (turns_act (layered s) i work (turn_told s (Working work)) layer (at_turn ∙ ap (λ (m : MakeTurn). some (making_turning m)) same) terms
          (subst (λ (m : MakeTurn). (making_terms m).stamp < 2 ^ 64) same own.stamp) (subst IsMaking same own.sound) refl).takes

  abbrev turn : Turn MakeTurn TurnReply
  turn = making_turned making x

  abbrev next : Turning
  next = turning_made (making_terms making) turn

  foot : TurnFoot (terms_of (world s) (making_turning making)) (making_turning making) action x next
  foot = subst (λ (r : RowTerms). TurnFoot r (making_turning making) action x next) terms_are (makings_are_feet making x takes)

  small : (making_turning making).stamp < 2 ^ 64
  small = subst (λ n. n < 2 ^ 64) (sym (stamp_is making)) own.stamp

  steps : CanAct s.layout s.words action × IsLayered (turned (layered s) i action next)
  steps = turn_step_keeps (layered s) i (making_turning making) next action x layer at_turn small foot refl

  leaves : LeavesNodes (facts (world s)) (facts (turned (layered s) i action next).whole.world)
  leaves = turn_step_leaves (layered s) i (making_turning making) next action x layer at_turn small foot refl

  -- nor does it touch a permutation
  left : (n : ℕ) → n < s.layout.nodes → IsLeft s.layout s.words (acted s.layout s.words action) n
  left n here = left_by s.layout s.words (acted s.layout s.words action) n
      (λ offset low least most. turn_step_leaves_volatile (layered s) i (making_turning making) next action x n offset layer at_turn foot refl here most (λ e. omega arith) (λ e. omega arith))

  -- a turn that is done rests, as one that was never begun
  rests_then : (t : Turn MakeTurn TurnReply) → IsLayered (turned (layered s) i action (turning_made (making_terms making) t))
      → IsLayered (record { whole = (turned (layered s) i action next).whole; turns = set (layered s).turns i (turning_of (turn_after t)) })
  rests_then (Go m) law = law
  rests_then (Done reply) law =
      let done : Turning = turning_at (row_terms (making_terms making)) Resting Nothing in
      let begun = turn_start_keeps (turned (layered s) i action done) i done 1 0 law (set_here (layered s).turns i done (making_turning making) at_turn) refl (λ no. omega arith) in
      subst (λ (ts : List Turning). IsLayered (record { whole = (turned (layered s) i action next).whole; turns = ts })) (set_twice (layered s).turns i done resting) begun

  own_after : (t : Turn MakeTurn TurnReply) → MakingStays (making_terms making) t → IfSome (turn_after t) (IsTurnOf s.layout s.generation)
  own_after (Go m) stays = record {
    sound = stays.0;
    layout = ap (λ (t : Terms). t.layout) stays.1 ∙ own.layout;
    generation = ap (λ (t : Terms). t.generation) stays.1 ∙ own.generation;
    stamp = subst (λ (t : Terms). t.stamp < 2 ^ 64) (sym stays.1) own.stamp;
  }
  own_after (Done reply) stays = tt

  -- the row is lawful for the turn, once it has the lock
  row_is : (making_turning making).stage ≢ Resting → RowLawful (terms_of (world s) (making_turning making)) (ghosts_of (world s) layer.holder) s.words (making_turning making).stage
  row_is busy = layer.rows i (making_turning making) at_turn (others_rest (layered s) i (making_turning making) layer at_turn busy)

  row_at : (stage : RowStage) → (making_turning making).stage ≡ stage → stage ≢ Resting → RowLawful (terms_of (world s) (making_turning making)) (ghosts_of (world s) layer.holder) s.words stage
  row_at stage is_at busy =
      subst (RowLawful (terms_of (world s) (making_turning making)) (ghosts_of (world s) layer.holder) s.words) is_at (row_is (λ rests. busy (sym is_at ∙ rests)))

  status_is : (n : ℕ) → n < s.layout.nodes → (facts (world s)).status n ≡ volatile_field s.layout s.words status_offset n
  status_is n here = status_in-here s.layout s.words n here ∙ sym (column-here s.layout s.words s.layout.nodes (λ k. Volatile k status_offset) n here)

  -- which node it makes FREE, and from when on it may
  frees_so : FreesReleased s making (turned_index s i state making)
  frees_so = record {
    frees = λ n free. ⊎_elim
        (λ (same : (facts (world (turned_index s i state making))).status n ≡ (facts (world s)).status n). inl (sym same ∙ free))
        (λ (about : AboutToFree (terms_of (world s) (making_turning making)) (making_turning making).stage n).
        let freeing = (row_at (Frees n) about.0 (λ e. cc)).law.sure in
        inr (status_is n about.1 ∙ freeing.gone, about.0))
        (only_frees (terms_of (world s) (making_turning making)) (ghosts_of (world s) layer.holder) s.words is.lawful.row n foot.row refl row_is);
    comes = λ next_making n goes to_free.
        let from = comes_from (terms_of (world s) (making_turning making)) foot.row n (ap (λ (t : Turn MakeTurn TurnReply). (turning_made (making_terms making) t).stage) goes ∙ to_free) in
        let sure = (row_at (IsUnworn n) from.0 (λ e. cc)).law.sure in
        record {
          gone = status_is n from.1 ∙ sure.0.gone;
          some_stamp = sure.0.some_stamp;
          release = subst (λ k. stamp_in (world s) n ≤ k) (release_is making) sure.0.release;
        };
  }

  -- as it gives back the lock, no node is FREE where it answers so
  none_free : FindsNoneFree turn → AreInUse (world s)
  none_free finds =
      let ends = ends_counting making x finds in
      counted_none s layer i (making_turning making) at_turn (ends ∙ ap (λ (l : Layout). Counts l.nodes true) own.layout)

  pub turn_law : TurnLaw s i state making
  turn_law =
      let words = acted s.layout s.words action in
      let kept = with_turn s i state (turn_after turn) there words is (rests_then turn steps.1) leaves left (own_after turn (makings_stay_sound making x takes)) in
      let same = parties_same s i state (turn_after turn) there in
      let keeps : LeavesNodes (facts (world s)) (facts (world (turned_index s i state making))) = record { nodes = leaves.nodes; frees = leaves.frees } in
      record {
        can = steps.0;
        takes = takes;
        kept = kept;
        keeps = keeps;
        freed = frees_so;
        weighs = weighs_no_more (world s) (world (turned_index s i state making)) refl same keeps;
        in_use = λ none. in_use_weighs s is (none_free none);
      }

pub turns_keep : TurnKeeps
turns_keep s i state making is there turns = turn_law s i state making is there turns

pub turn_begins : TurnBegins
turn_begins s i state stamp release is there none some_stamp fits =
    let making : MakeTurn = making_from s.layout s.generation stamp release in
    with_turn s i state (Some making) there s.words is
    (let layer = is.layered in
    let at_turn : get_elem? (layered s).turns i ≡ some resting = map_there turn_of s.states i state there ∙ ap (λ (o : Option MakeTurn). some (turning_of o)) none in
    turn_start_keeps (layered s) i resting stamp release layer at_turn refl (λ no. omega (arith, no, some_stamp)))
    (record { nodes = refl; frees = λ n. inl refl })
    (λ n here. left_same s.layout s.words s.words n refl)
    (record { sound = record { layout = is.lawful.row.layout; stamp = some_stamp }; layout = refl; generation = refl; stamp = fits })

pub terms_may_be_set : TermsMayBeSet
terms_may_be_set s i state a b stamp release is there turns some_stamp fits =
    let old : MakeTurn = Working (work_from s.layout s.generation a b) in
    let making : MakeTurn = Working (work_from s.layout s.generation stamp release) in
    let terms : Terms = record { layout = s.layout; generation = s.generation; stamp = stamp; release = release } in
    let sound = makings_stay_sound (Taking terms) untaken_lock (record { layout = is.lawful.row.layout; stamp = some_stamp }, omega arith) in
    let at_turn : get_elem? (layered s).turns i ≡ some (making_turning old) = map_there turn_of s.states i state there ∙ ap (λ (o : Option MakeTurn). some (turning_of o)) turns in
    let weight = ap (λ (ps : List Party). weight_sum (record (world s) { parties = ps })) (parties_same s i state (Some making) there) in
    record {
      kept = with_turn s i state (Some making) there s.words is
          (terms_may_begin (layered s) i 0 (making_turning old) stamp release is.layered at_turn refl (λ no. omega (arith, no, some_stamp)))
          (record { nodes = refl; frees = λ n. inl refl })
          (λ n here. left_same s.layout s.words s.words n refl)
          (record { sound = sound.0; layout = refl; generation = refl; stamp = fits });
      weighs = weight;
    }
