-- The index within budgets, up to a call that is cut off, as a map of names.
use Rattle.std.proofs.Common.{◌≡◌, ◌≢◌, ℕ, zero, suc, ◌+◌, ◌-◌, ◌<◌, ◌≤◌, ◌==◌, cond, Bool, true, false, List, []}
use Rattle.std.proofs.Common.{◌∷◌, ◌++◌, length, ◌⊎◌, ⊎_elim, inl, inr, refl, sym, ap, subst, ◌∙◌, arith, append-nil}
use Rattle.std.proofs.Common.{length-append}
use Rattle.std.specs.Prelude.{min, ◌^◌, ◌||◌, slice_set, Option, Some, None, IfSome, IsSome, Result, Ok, Err, nat_lt}
use Rattle.std.specs.Option.{is_some}
use Rattle.std.specs.FinMap.{len}
use Rattle.std.proofs.lemmas.Bool.{cases_eq, eq-eqb, false≢true, le-ltb, lt-ltb}
use Rattle.std.proofs.Math.Nat.{min-le_right}
use Rattle.version_lock.specs.declared.TheConstants.{LAST_COUNT}
use Rattle.pm_words.specs.Codes.{free_status, gone_status}
use Rattle.pm_words.specs.declared.layout.Layout.{Layout}
use Rattle.cat_history.specs.Maps.{Map, map_of}
use Rattle.cat_history.specs.Records.{as_op, change_of}
use Rattle.cat_history.specs.Writes.{after_all, changed}
use Rattle.cat_history.specs.declared.op.NameOp.{NameOp}
use Rattle.cat_history.specs.declared.op.NameOp.TheVariants as op
use Rattle.cat_history.specs.declared.op.Change.{Change}
use Rattle.cat_history.specs.declared.op.Write.{Write}
use Rattle.call_stages.specs.Stages.{placed_in}
use Rattle.call_stages.specs.declared.once.Once.{Once}
use Rattle.call_stages.specs.declared.once.Once.TheVariants as once
use Rattle.call_stages.specs.declared.once.Placed.{Placed}
use Rattle.pm_words.specs.declared.again.Again.{Again}
use Rattle.core_rounds.specs.node_ops.specs.declared.part.PartWords.{PartWords}
use Rattle.core_rounds.specs.node_ops.specs.declared.running.Running.{Running}
use Rattle.core_rounds.specs.node_ops.specs.Asked.{op_in}
use Rattle.core_rounds.specs.node_ops.specs.CallStages.{stage_of}
use Rattle.shapes.specs.Anchors.{Anchors, put_anchors, del_anchors}
use Rattle.shapes.specs.ShapeRounds.{PutsFull}
use Rattle.shapes.specs.Weights.{IsShape}
use Rattle.shapes.specs.declared.map.Full.{Full}
use Rattle.index_law.specs.Anchors.{anchors_of, anchors_in, gone_nodes, members_most}
use Rattle.index_law.proofs.Maps.{after_all-push}
use Rattle.index_law.specs.Weights.{weight_sum}
use Rattle.index_law.specs.Worlds.{Party, World, facts, written}
use Rattle.core_rounds.specs.lone_call_law.specs.Locks.{fewest_locks, locks_of}
use Rattle.core_rounds.specs.index_core.specs.declared.party.CoreCall.{CoreCall}
use Rattle.core_rounds.specs.index_core.specs.declared.party.CoreCall.TheVariants as call
use mathlib.Core.Option.{some, some-injective}
use Rattle.version_lock.specs.Versions.{IsFree}
use Rattle.data_node.specs.Spots.{Spot, Means}
use Rattle.call_stages.specs.Stages.{pended, Held, Grip, Pace, Gathered, Joined, Gone, Stage, Idle, Saw, Wears, Reads}
use Rattle.call_stages.specs.Stages.{Holds, Eyes, Splits, Leaves, Meets, Joins, HoldsNode}
use Rattle.index_law.specs.Facts.{Facts, map_now, range_of, IsListed}
use Rattle.index_law.specs.Lawful.{IsAtPace, IsHeld, Sure, SureHolds}
use Rattle.index_law.proofs.Holding.{idle_has_shape, nodes_hold_shape}
use Rattle.index_law.proofs.Starts.{listed_within}
use Rattle.core_rounds.specs.index_core.specs.PartyStates.{machine_stage, party_of}
use Rattle.core_rounds.specs.index_core.proofs.Lists.{map_from}
use lib.ListN.{get_elem?}
use Rattle.core_rounds.specs.index_core.specs.declared.party.PartyState.{PartyState}
use Rattle.core_rounds.specs.index_core.specs.declared.party.Whole.{Whole}
use Rattle.core_rounds.specs.index_core.specs.declared.party.Whole.TheVariants as whole
use Rattle.core_rounds.specs.index_core.specs.CoreCalls.{op_of}
use Rattle.core_rounds.specs.index_core.specs.Crashes.{cut_change, cut_changes, unplaced}
use Rattle.core_rounds.specs.index_core.specs.Fulls.{HasLowStamps}
use Rattle.core_rounds.specs.index_core.specs.Indexes.{Index, IsIndex, map_of_index, world}
use Rattle.core_rounds.specs.index_core.specs.Weights.{put_count}
use Rattle.core_rounds.specs.index_core.specs.Lone.{FindsNoRoom, HasNoCalls, IsQuiet, IsStill, RunsAlone}
use Rattle.core_rounds.specs.index_core.specs.Lone.{state_done, whole_of}
use Rattle.core_rounds.specs.index_core.specs.Withins.{CutsOff, CutsTurnOff, RanAlone, HasWritten, flight_place}
use Rattle.core_rounds.specs.index_core.specs.Turns.{TurnsAlone}
use Rattle.core_rounds.specs.updater.specs.declared.terms.Turned.{Turned}
use Rattle.core_rounds.specs.index_core.proofs.MachineLaw.{none_weigh}
use Rattle.core_rounds.specs.index_core.proofs.Alone.{target_has}
use Rattle.core_rounds.specs.index_core.proofs.Quiet.{idle_parties, quiet_is_still, rests}
use Rattle.index_law.proofs.Parties.{set_else, set_here}
use Rattle.index_law.proofs.Sizes.{nodes_are_counted}
use Rattle.core_rounds.specs.lone_call_law.proofs.Shapes.{no_room_is_full}
use Rattle.core_rounds.specs.lone_updater_law.specs.LoneTurns.{stamp_in}
use Rattle.shapes.specs.Anchors.{IsFullPut}
use Rattle.cat_key.specs.Names.{IsName}
use Rattle.core_rounds.specs.node_ops.specs.Asked.{name_asked}
use Rattle.core_rounds.specs.index_core.proofs.CutCrashes.{cut_leaves_one, cut_turn_leaves_none}
use Rattle.stopped_rounds.specs.Bounded.{MapState, IsSame, put_added}
use Rattle.stopped_rounds.specs.declared.bounded_map.Bounded.{Bounded}
use Rattle.stopped_rounds.specs.declared.bounded_map.Bounded.TheVariants as bounded
use Rattle.stopped_rounds.specs.MoreCuts.{AreAmong}
use Rattle.core_rounds.specs.CoreMaps.{calls_left_of, writes_left_of, IsUnlimited, anchors_made}
use Rattle.core_rounds.proofs.CoreMaps.{full_exactly, full_same, no_put_adds, part_weighs, stays_low, told_full}
use Rattle.core_rounds.proofs.CoreMaps.{told_map, told_placed, told_weighs, turned_map}
use Rattle.core_crashes.specs.CrashMaps.{Gave, WasCutBy, added_within, Stoppable, CanTurn, IsGoing, IsStoppable}
use Rattle.core_crashes.specs.CrashMaps.{anchors_by, anchors_changed, anchors_left, calls_of, writes_of, members_by}
use Rattle.core_crashes.specs.CrashMaps.{members_of, state_of}

clash : {A : Type 0} {x : A} → None ≡ Some x → ⊥
clash e = false≢true (ap is_some e)

none_unplaced : (place : Option ℕ) → unplaced place None ≡ []
none_unplaced None = refl
none_unplaced (Some place) = refl

-- no node has more locks than a fresh one
fewest_few : (g : ℕ) (version : ℕ → ℕ) (nodes : ℕ) → fewest_locks g version nodes ≤ LAST_COUNT
fewest_few g version zero = omega arith
fewest_few g version (suc n) =
    let least : fewest_locks g version (suc n) ≤ fewest_locks g version n = min-le_right (locks_of g (version n)) (fewest_locks g version n) in
    let few = fewest_few g version n in
    omega (arith, least, few)

few_calls : (s : Index) → calls_left_of s ≤ LAST_COUNT
few_calls s = let few = fewest_few s.generation (facts (world s)).version s.layout.nodes in omega (arith, few)

pub few_writes_left : (s : Index) → writes_left_of s ≤ 2 ^ 62
few_writes_left s = let least = min-le_right s.spare (2 ^ 62 - length s.history) in omega (arith, least)

-- where layout, base and history stay, so do the map and where its members begin
module _ (first : Anchors) (s new : Index) (layout : new.layout ≡ s.layout) (base : new.base ≡ s.base) (history : new.history ≡ s.history) where
  pub same_map : map_of_index new ≡ map_of_index s
  same_map = λ k. after_all (map_of (base k)) (history k)

  pub same_members : members_by first new ≡ members_by first s
  same_members = λ k. anchors_by (layout k).slots (map_of (base k)) first (history k)

abbrev ShapeIn : Layout → Map → Anchors → Type 0
ShapeIn l m anchors = IsShape l.slots l.nodes m anchors

shape_on : (l l' : Layout) (m m' : Map) (a a' : Anchors) → l ≡ l' → m ≡ m' → a ≡ a' → ShapeIn l m a → ShapeIn l' m' a'
shape_on l l' m m' a a' layout contents anchors is =
    subst (λ (x : Anchors). ShapeIn l' m' x) anchors (subst (λ (x : Map). ShapeIn l' x a) contents (subst (λ (x : Layout). ShapeIn x m a) layout is))

none_cut_in : (l : List PartyState) → ((i : ℕ) (e : PartyState) → get_elem? l i ≡ some e → e.machine ≡ None) → cut_changes l ≡ []
none_cut_in [] quiet = refl
none_cut_in (e ∷ es) quiet = ap (λ (m : Option Running). cut_change m ++ cut_changes es) (quiet 0 e refl) ∙ none_cut_in es (λ i x at. quiet (suc i) x at)

-- with no call in flight no change is cut off
pub none_cut_off : (s : Index) → HasNoCalls s → cut_changes s.states ≡ []
none_cut_off s none = none_cut_in s.states none

-- and the members are of a shape that they can have
calls_shape : (s : Index) → IsIndex s → HasNoCalls s → ShapeIn s.layout (map_of_index s) (anchors_in (world s))
calls_shape s index none =
    let shape = (idle_has_shape (world s) index.lawful (idle_parties s none)).0 in
    let few = shape.few in
    record { ordered = shape.ordered; few = omega (arith, few); fits = shape.fits }

-- behind a call that was answered nothing is in flight only if nothing was before
was_quiet : (s new : Index) (caller : ℕ) (c : CoreCall) (r : Whole) → RunsAlone s caller c new r → HasNoCalls s → IsQuiet new → IsQuiet s
was_quiet s new caller c r runs none quiet = record {
  calls = none;
  turns = kept (λ (d : PartyState). d.turn) refl quiet.turns;
  rechecks = kept (λ (d : PartyState). d.recheck) refl quiet.rechecks;
}
  where
    done : PartyState
    done = state_done runs.state (length s.history)

    -- what the answer leaves of each party was nothing before if it is nothing then
    kept : {A : Type 0} (part : PartyState → Option A) → part done ≡ part runs.state → ((i : ℕ) (e : PartyState) → get_elem? new.states i ≡ some e → part e ≡ None) →
        (i : ℕ) (e : PartyState) → get_elem? s.states i ≡ some e → part e ≡ None
    kept part stays nothing i e at = ⊎_elim
        (λ (mine : i ≡ caller).
        let same : runs.state ≡ e = some-injective runs.state e (sym runs.there ∙ ap (get_elem? s.states) (sym mine) ∙ at) in
        sym (ap part same) ∙ sym stays ∙ nothing caller done (ap (λ (l : List PartyState). get_elem? l caller) runs.states ∙ set_here s.states caller done runs.state runs.there))
        (λ (other : i ≢ caller). nothing i e (ap (λ (l : List PartyState). get_elem? l i) runs.states ∙ set_else s.states caller i done other ∙ at))
        (cases_eq i caller)

-- ---- while none is cut off

module _ (first : Anchors) (s : Index) (stopped turning placed_so : Bool) (was : IsStoppable first (record { index = s; stopped = stopped; turning = turning; placed = placed_so })) (going : stopped ≡ false) where
  abbrev old : Stoppable
  old = record { index = s; stopped = stopped; turning = turning; placed = placed_so }

  pub plain : (n : Index) → members_of first (record { index = n; stopped = stopped; turning = turning; placed = placed_so }) ≡ members_by first n
  plain n = ap (λ (b : Bool). members_of first (record { index = n; stopped = stopped; turning = turning; placed = b })) (was.unplaced going)

  pub goes : IsGoing first s
  goes = was.going going

  -- there is a caller, and so no call is in flight
  pub no_calls : HasNoCalls s
  no_calls = let callers = was.index.lawful.row.layout.callers in (goes.still 0 (omega (arith, callers.0))).calls

  pub anchors_are : anchors_in (world s) ≡ members_of first old
  anchors_are = goes.anchors ∙ sym (plain s)

  pub some_calls : 0 < calls_of old → 0 < calls_left_of s
  some_calls = subst (λ (b : Bool). 0 < calls_of (record { index = s; stopped = b; turning = turning; placed = placed_so })) going

  pub calls_are : calls_of old ≡ calls_left_of s
  calls_are = ap (λ (b : Bool). calls_of (record { index = s; stopped = b; turning = turning; placed = placed_so })) going

  pub few_are_left : (seen : Stoppable) → old ≡ seen → calls_of seen ≤ LAST_COUNT
  few_are_left seen is = subst (λ (m : Stoppable). calls_of m ≤ LAST_COUNT) is (subst (λ n. n ≤ LAST_COUNT) (sym calls_are) (few_calls s))

  pub writes_are : writes_of old ≡ writes_left_of s
  writes_are = ap (λ (b : Bool). writes_of (record { index = s; stopped = b; turning = turning; placed = placed_so })) going

  -- a cut that has written nothing leaves the members
  pub stops : (new : Index) → new.layout ≡ s.layout → new.base ≡ s.base → new.history ≡ s.history → IsIndex new →
      IsStoppable first (record { index = new; stopped = true; turning = turning; placed = placed_so })
  stops new layout base history index = record {
    index = index;
    going = λ e. absurd (false≢true (sym e));
    can_turn = λ e none. absurd (false≢true (sym e));
    turns = λ e some quiet. false≢true (sym e);
    unplaced = λ e. absurd (false≢true (sym e));
    shape = shape_on s.layout new.layout (map_of_index s) (map_of_index new) (members_of first old) (members_of first (record { index = new; stopped = true; turning = turning; placed = placed_so }))
        (sym layout) (sym (same_map first s new layout base history)) (plain s ∙ sym (same_members first s new layout base history) ∙ sym (plain new)) was.shape;
  }

  pub stops_same : (new : Index) → new.layout ≡ s.layout → new.base ≡ s.base → new.history ≡ s.history → cut_changes new.states ≡ [] → cut_changes s.states ≡ [] →
      IsSame (state_of first old) (state_of first (record { index = new; stopped = true; turning = turning; placed = placed_so }))
  stops_same new layout base history none before =
      (same_map first s new layout base history, ap (λ (b : Bool). members_of first (record { index = new; stopped = true; turning = turning; placed = b })) (was.unplaced going) ∙ same_members first s new layout base history ∙ sym (plain s), none ∙ sym before)

  -- and one that was answered, whose members begin where the writes say, goes on
  pub goes_on : (new : Index) (c : CoreCall) (caller : ℕ) (r : Whole) → RanAlone s caller c new r → IsIndex new → anchors_in (world new) ≡ members_by first new →
      IsStoppable first (record { index = new; stopped = stopped; turning = turning; placed = placed_so })
  goes_on new c caller r ran index anchors =
      let same = ran.runs.layout in
      let callers = index.lawful.row.layout.callers in
      let stills : (party : ℕ) → party < new.layout.callers → IsStill party new = λ party here. ran.still party (goes.still party (subst (λ (l : Layout). party < l.callers) same here)) in
      record {
        index = index;
        going = λ _. record { still = stills; anchors = anchors };
        can_turn = λ _ none. (let rests = was.can_turn going none in record { quiet = ran.quiet rests.quiet; stamps = stays_low s caller c new r ran.runs rests.stamps });
        turns = λ _ some quiet. was.turns going some (was_quiet s new caller c r ran.runs no_calls quiet);
        unplaced = was.unplaced;
        shape = subst (λ (a : Anchors). ShapeIn new.layout (map_of_index new) a) (anchors ∙ sym (plain new))
            (calls_shape new index (stills 0 (omega (arith, callers.0))).calls);
      }

  -- a part that is cut off
  pub part_cut : (new : Index) (caller : ℕ) (low : List ℕ) (count : ℕ) (cuts : CutsOff s caller (call.Part low count) new) → caller < s.layout.callers → (new.history ≡ s.history) × (cut_changes new.states ≡ [])
  part_cut new caller low count cuts here = (part_wrote cuts.writes, cut_leaves_one s new caller (call.Part low count) (goes.still caller here) cuts ∙ reads cuts.cut.machine cuts.makes)
    where
      part_wrote : HasWritten s cuts.state.caller cuts.state.index (call.Part low count) cuts.cut.machine new → new.history ≡ s.history
      part_wrote (inl nothing) = nothing.1
      part_wrote (inr wrote) = absurd (clash wrote.1)

      reads : (m : Option Running) → IfSome m (λ machine. op_in machine ≡ op_of (call.Part low count)) → cut_change m ≡ []
      reads None makes = refl
      reads (Some machine) makes = ap (λ o. unplaced (placed_in (stage_of machine)) (change_of o)) makes ∙ none_unplaced (placed_in (stage_of machine))

-- ---- room

-- a node that is GONE is counted
some_gone : (n : ℕ) (f : Facts) (k : ℕ) → k < n → f.status k ≡ gone_status → 0 < gone_nodes n f
some_gone zero f k below is = absurd (omega (arith, below))
some_gone (suc n) f k below is = ⊎_elim
    (λ (same : k ≡ n). let here : cond (f.status n == gone_status) 1 0 + gone_nodes n f ≡ 1 + gone_nodes n f =
    ap (λ b. cond b 1 0 + gone_nodes n f) (eq-eqb (f.status n) gone_status (ap f.status (sym same) ∙ is)) in omega (arith, here))
    (λ (other : k ≢ n). let before = some_gone n f k (omega (arith, below, other)) is in omega (arith, before))
    (cases_eq k n)

-- where each node is listed, none comes FREE
full_put_finds : (s : Index) (name : List ℕ) (value limit : ℕ) → IsIndex s → HasNoCalls s → IsName name → IsFullPut s.layout.slots s.layout.nodes (map_of_index s) (anchors_in (world s)) name → FindsNoRoom (call.Put name value limit) s
full_put_finds s name value limit is none named full =
    let rest = rests s is none in
    let same = target_has s rest name in
    let counts = nodes_are_counted (world s) is.lawful in
    let few = counts.few in
    let whole = full.no_node in
    let no_gone : gone_nodes s.layout.nodes (facts (world s)) ≡ 0 = omega (arith, few, whole) in
    let most : s.layout.nodes ≡ members_most (world s) = omega (arith, no_gone) in
    let was = no_room_is_full (world s) name value rest named (subst (λ (n : ℕ). IsFullPut s.layout.slots n (map_of_index s) (anchors_in (world s)) name) most full) in (
      (was.0, sym same ∙ was.1),
      (λ k below comes. ⊎_elim
          (λ (free : (facts (world s)).status k ≡ free_status). absurd (was.2 k below free))
          (λ (gone : ((facts (world s)).status k ≡ gone_status) × (stamp_in (world s) k ≤ 1)). absurd (let some = some_gone s.layout.nodes (facts (world s)) k below gone.0 in omega (arith, some, no_gone)))
          comes),
    )

full_is_no_room : (s : Index) (c : CoreCall) → IsIndex s → HasNoCalls s → IsName (name_asked (op_of c)) → PutsFull s.layout.slots s.layout.nodes (map_of_index s) (anchors_in (world s)) (as_op (op_of c)) → FindsNoRoom c s
full_is_no_room s (call.Put name value limit) is none named full = full_put_finds s name value limit is none named full
full_is_no_room s (call.Get name) is none named full = full
full_is_no_room s (call.Del name limit) is none named full = full
full_is_no_room s (call.Part low count) is none named full = full
full_is_no_room s (call.Recheck node version) is none named full = full
full_is_no_room s (call.Turn stamp release) is none named full = full

-- ---- calls on a name

abbrev anchors_pended : ℕ → Map → Anchors → Option Change → Anchors
anchors_pended slots m anchors None = anchors
anchors_pended slots m anchors (Some change) = anchors_changed slots m anchors change

-- the members behind one write more
by_push : (slots : ℕ) (m : Map) (anchors : Anchors) (history : List Write) (w : Write) →
    anchors_by slots m anchors (history ++ w ∷ []) ≡ anchors_changed slots (after_all m history) (anchors_by slots m anchors history) w.change
by_push slots m anchors [] w = refl
by_push slots m anchors (x ∷ xs) w = by_push slots (changed m x.change) (anchors_changed slots m anchors x.change) xs w

by_pended : (slots : ℕ) (m : Map) (anchors : Anchors) (history : List Write) (caller index : ℕ) (o : Option Change) →
    anchors_by slots m anchors (history ++ written caller index o) ≡ anchors_pended slots (after_all m history) (anchors_by slots m anchors history) o
by_pended slots m anchors history caller index None = ap (anchors_by slots m anchors) (append-nil history)
by_pended slots m anchors history caller index (Some change) = by_push slots m anchors history (record { caller = caller; index = index; change = change })

-- what a call makes of the members, in the words of the writes
made_is : (s : Index) (c : CoreCall) (anchors : Anchors) → IsUnlimited c → anchors_in (world s) ≡ anchors →
    anchors_made s c ≡ anchors_pended s.layout.slots (map_of_index s) anchors (change_of (op_of c))
made_is s (call.Put name value limit) anchors unlimited is = ap (λ a. put_anchors s.layout.slots (map_of_index s) a name) is
made_is s (call.Get name) anchors unlimited is = is
made_is s (call.Del name limit) anchors unlimited is = ap (λ a. del_anchors s.layout.slots (map_of_index s) a name) is
made_is s (call.Part low count) anchors unlimited is = absurd unlimited
made_is s (call.Recheck node version) anchors unlimited is = absurd unlimited
made_is s (call.Turn stamp release) anchors unlimited is = absurd unlimited

left_is : (slots : ℕ) (state : MapState) (o : Option Change) → anchors_left slots state o ≡ anchors_pended slots state.contents state.anchors o
left_is slots state None = refl
left_is slots state (Some change) = refl

module _ (first : Anchors) (s : Index) (stopped turning placed_so : Bool) (was : IsStoppable first (record { index = s; stopped = stopped; turning = turning; placed = placed_so })) (going : stopped ≡ false) where
  abbrev then : Stoppable
  then = record { index = s; stopped = stopped; turning = turning; placed = placed_so }

  module _ (new : Index) (c : CoreCall) (caller : ℕ) (r : Whole) (ran : RanAlone s caller c new r) (index : IsIndex new) (unlimited : IsUnlimited c) (calls : 0 < calls_of then) (uncut : cut_changes s.states ≡ []) where
    abbrev now : Stoppable
    now = record { index = new; stopped = stopped; turning = turning; placed = placed_so }

    left : 0 < calls_left_of s
    left = some_calls first s stopped turning placed_so was going calls

    none_cut : cut_changes new.states ≡ []
    none_cut =
        let callers = was.index.lawful.row.layout.callers in
        none_cut_off new (ran.still 0 ((goes first s stopped turning placed_so was going).still 0 (omega (arith, callers.0)))).calls

    full_finds : PutsFull s.layout.slots s.layout.nodes (map_of_index s) (members_of first then) (as_op (op_of c)) → FindsNoRoom c s
    full_finds full = full_is_no_room s c was.index (no_calls first s stopped turning placed_so was going) ran.runs.named
        (subst (λ a. PutsFull s.layout.slots s.layout.nodes (map_of_index s) a (as_op (op_of c))) (sym (anchors_are first s stopped turning placed_so was going)) full)

    -- beside a turn that has stopped no call finds that there is none
    finds_full : IsQuiet s → FindsNoRoom c s → PutsFull s.layout.slots s.layout.nodes (map_of_index s) (members_of first then) (as_op (op_of c))
    finds_full quiet none = subst (λ a. PutsFull s.layout.slots s.layout.nodes (map_of_index s) a (as_op (op_of c))) (anchors_are first s stopped turning placed_so was going)
        ((full_exactly s c was.index quiet ran.runs.named left low).0 none)
      where
        low : HasLowStamps s
        low = elim turning as (λ (b : Bool). turning ≡ b → HasLowStamps s) [
          | true ↦ λ some. absurd (was.turns going some quiet)
          | false ↦ λ none. (was.can_turn going none).stamps
        ] refl

    -- it took place
    module _ (placed : Placed) (is : r ≡ whole.Placed placed) where
      run : RunsAlone s caller c new (whole.Placed placed)
      run = subst (RunsAlone s caller c new) is ran.runs

      both : (FindsNoRoom c s → ⊥) × (anchors_in (world new) ≡ anchors_made s c)
      both = told_placed s c new r placed was.index unlimited left is ran.runs

      members_now : members_by first new ≡ anchors_pended s.layout.slots (map_of_index s) (members_by first s) (change_of (op_of c))
      members_now = (λ k. anchors_by (run.layout k).slots (map_of (run.base k)) first (run.history k))
          ∙ by_pended s.layout.slots (map_of s.base) first s.history caller run.state.index (change_of (op_of c))

      listed_now : anchors_in (world new) ≡ members_by first new
      listed_now = both.1 ∙ made_is s c (members_by first s) unlimited (goes first s stopped turning placed_so was going).anchors ∙ sym members_now

      pub took_goes_on : IsStoppable first now
      took_goes_on = goes_on first s stopped turning placed_so was going new c caller r ran index listed_now

      pub took : Gave s.layout.slots s.layout.nodes (state_of first then) c (Ok placed.old) (state_of first now)
      took = (
        (λ full. both.0 (full_finds full)),
        run.answer.2,
        told_map s c new r placed is ran.runs,
        plain first s stopped turning placed_so was going new ∙ members_now
            ∙ sym (ap (λ a. anchors_pended s.layout.slots (map_of_index s) a (change_of (op_of c))) (plain first s stopped turning placed_so was going s))
            ∙ sym (left_is s.layout.slots (state_of first then) (change_of (op_of c))),
        none_cut ∙ sym uncut,
      )

    -- it found no room
    module _ (is : r ≡ whole.Full) where
      run_full : RunsAlone s caller c new whole.Full
      run_full = subst (RunsAlone s caller c new) is ran.runs

      history_full : new.history ≡ s.history
      history_full = run_full.history ∙ append-nil s.history

      told : FindsNoRoom c s × (anchors_in (world new) ≡ anchors_in (world s))
      told = told_full s c new r is ran.runs

      same_full : members_by first new ≡ members_by first s
      same_full = same_members first s new run_full.layout run_full.base history_full

      pub full_goes_on : IsStoppable first now
      full_goes_on = goes_on first s stopped turning placed_so was going new c caller r ran index (told.1 ∙ (goes first s stopped turning placed_so was going).anchors ∙ sym same_full)

      pub was_full : Gave s.layout.slots s.layout.nodes (state_of first then) c (Err (record {})) (state_of first now)
      was_full = (
        finds_full (ran.full is) told.0,
        (
          same_map first s new run_full.layout run_full.base history_full,
          plain first s stopped turning placed_so was going new ∙ same_full ∙ sym (plain first s stopped turning placed_so was going s),
          none_cut ∙ sym uncut,
        ),
      )

    -- either way
    pub gave : (o : Once Placed) → r ≡ whole_of o → (result : Result (Option ℕ) Full) →
        ((placed : Placed) × (o ≡ once.Done placed) × (result ≡ Ok placed.old)) ⊎ ((why : Again) × (o ≡ once.Again why) × (result ≡ Err (record {}))) →
        IsStoppable first now × Gave s.layout.slots s.layout.nodes (state_of first then) c result (state_of first now)
    gave o is result (inl done) = (
      took_goes_on done.0 (is ∙ ap whole_of done.1),
      subst (λ (x : Result (Option ℕ) Full). Gave s.layout.slots s.layout.nodes (state_of first then) c x (state_of first now)) (sym done.2) (took done.0 (is ∙ ap whole_of done.1)),
    )
    gave o is result (inr full) = (
      full_goes_on (is ∙ ap whole_of full.1),
      subst (λ (x : Result (Option ℕ) Full). Gave s.layout.slots s.layout.nodes (state_of first then) c x (state_of first now)) (sym full.2) (was_full (is ∙ ap whole_of full.1)),
    )

-- a part of a scan that lists its words
module _ (first : Anchors) (s : Index) (stopped turning placed_so : Bool) (was : IsStoppable first (record { index = s; stopped = stopped; turning = turning; placed = placed_so })) (going : stopped ≡ false) (new : Index) (caller : ℕ) (low_name : List ℕ) (count : ℕ) (r : Whole) (words : PartWords) (is : r ≡ whole.Part words) (ran : RanAlone s caller (call.Part low_name count) new r) where
  run_part : RunsAlone s caller (call.Part low_name count) new (whole.Part words)
  run_part = subst (RunsAlone s caller (call.Part low_name count) new) is ran.runs

  history_part : new.history ≡ s.history
  history_part = run_part.history ∙ append-nil s.history

  same_part : members_by first new ≡ members_by first s
  same_part = same_members first s new run_part.layout run_part.base history_part

  pub part_goes_on : IsIndex new → IsStoppable first (record { index = new; stopped = stopped; turning = turning; placed = placed_so })
  part_goes_on index = goes_on first s stopped turning placed_so was going new (call.Part low_name count) caller r ran index
      (ap anchors_of run_part.list ∙ (goes first s stopped turning placed_so was going).anchors ∙ sym same_part)

  pub part_same : cut_changes s.states ≡ [] → IsSame (state_of first (record { index = s; stopped = stopped; turning = turning; placed = placed_so })) (state_of first (record { index = new; stopped = stopped; turning = turning; placed = placed_so }))
  part_same uncut = (
    same_map first s new run_part.layout run_part.base history_part,
    plain first s stopped turning placed_so was going new ∙ same_part ∙ sym (plain first s stopped turning placed_so was going s),
    (let callers = was.index.lawful.row.layout.callers in
        none_cut_off new (ran.still 0 ((goes first s stopped turning placed_so was going).still 0 (omega (arith, callers.0)))).calls ∙ sym uncut),
  )

-- ---- a call on a name that is cut off

-- where it has written nothing, a crash may find its change, or nothing
abbrev AreAtMost : List Change → Option Change → Type 0
AreAtMost cuts None = cuts ≡ []
AreAtMost cuts (Some change) = AreAmong cuts (change ∷ [])

none_at_most : (o : Option Change) (cuts : List Change) → cuts ≡ [] → AreAtMost cuts o
none_at_most None cuts none = none
none_at_most (Some change) cuts none = subst (λ (l : List Change). AreAmong l (change ∷ [])) (sym none) (λ c has. absurd (let small = has.1 in omega (arith, small)))

own_at_most : (o : Option Change) (cuts : List Change) → cuts ≡ unplaced None o → AreAtMost cuts o
own_at_most None cuts is = is
own_at_most (Some change) cuts is = subst (λ (l : List Change). AreAmong l (change ∷ [])) (sym is) (λ c has. has)

at_most : (c : CoreCall) (m : Option Running) → IfSome m (λ machine. op_in machine ≡ op_of c) → flight_place m ≡ None → AreAtMost (cut_change m) (change_of (op_of c))
at_most c None makes none = none_at_most (change_of (op_of c)) [] refl
at_most c (Some machine) makes none = own_at_most (change_of (op_of c)) (cut_change (Some machine))
    (ap (λ (p : Option ℕ). unplaced p (change_of (op_in machine))) none ∙ ap (λ (o : NameOp). unplaced None (change_of o)) makes)

-- behind its place it finds none more
none_more : (m : Option Running) (place : ℕ) → flight_place m ≡ Some place → cut_change m ≡ []
none_more None place is = refl
none_more (Some machine) place is = ap (λ (p : Option ℕ). unplaced p (change_of (op_in machine))) is

cut_open : (state new : MapState) (o : Option Change) → new.contents ≡ state.contents → new.anchors ≡ state.anchors → state.cut ≡ [] → AreAtMost new.cut o → WasCutBy state o false new
cut_open state new None contents anchors before cut = (contents, anchors, cut ∙ sym before)
cut_open state new (Some change) contents anchors before cut = (contents, cut)

-- ---- the shape while a write is in flight that has its place

narrow : (slots : ℕ) (one other : List ℕ → Bool) (spot : Spot) (m : Map) → Means slots (λ name. one name || other name) spot m → Means slots one spot m
narrow slots one other spot m means = record { tidy = means.tidy; agrees = λ name named inside. means.agrees name named (ap (λ (b : Bool). b || other name) inside) }

module _ (l : Layout) (g : ℕ) (f : Facts) (caller index since place : ℕ) where
  abbrev MeansHere : ℕ → Type 0
  MeansHere n = Means l.slots (range_of l f n) (f.now n) (map_now f)

  -- what has its place isn't pending any more
  own_means : (n w : ℕ) (h : Held) → SureHolds l g f caller index since n w h → h.placed ≡ Some place → MeansHere n
  own_means n w h sure is = go h.pending sure.means sure.shown
    where
      go : (o : Option Change) → Means l.slots (range_of l f n) (f.now n) (pended o (map_now f)) → IfSome o (λ c. (h.placed ≡ None) × IsSome h.old) → MeansHere n
      go None means shown = means
      go (Some c) means shown = absurd (clash (sym shown.0 ∙ is))

  paced : (left right : Grip) (pace : Pace) → IsAtPace l f left right pace → (n : ℕ) → (left.node ≡ n) ⊎ (right.node ≡ n) → IsListed f n → MeansHere n
  paced left right Gathered at n (inl e) listed = subst MeansHere e (narrow l.slots (range_of l f left.node) (range_of l f right.node) (f.now left.node) (map_now f) at.linked.means)
  paced left right Gathered at n (inr e) listed = subst MeansHere e at.linked.settled.means
  paced left right Joined at n (inl e) listed = subst MeansHere e at.settled.means
  paced left right Joined at n (inr e) listed = absurd (at.unlisted (subst (IsListed f) (sym e) listed))
  paced left right Gone at n (inl e) listed = subst MeansHere e at.settled.means
  paced left right Gone at n (inr e) listed = absurd (at.unlisted (subst (IsListed f) (sym e) listed))

  held_means : (stage : Stage) → Sure l g f caller index since stage → placed_in stage ≡ Some place → (n : ℕ) → HoldsNode stage n → IsListed f n → MeansHere n
  held_means Idle sure is n holds listed = absurd holds
  held_means (Saw m v w k) sure is n holds listed = absurd holds
  held_means (Holds m w h) sure is n holds listed = subst MeansHere holds (own_means m w h sure is)
  held_means (Splits left fresh phase) sure is n holds listed = absurd (clash is)
  held_means (Eyes m w h k v u free) sure is n holds listed = subst MeansHere holds (own_means m w h sure.0 is)
  held_means (Leaves left) sure is n holds listed = absurd (clash is)
  held_means (Meets m w h right) sure is n (inl e) listed = subst MeansHere e (own_means m w h sure.0 is)
  held_means (Meets m w h right) sure is n (inr e) listed = subst MeansHere e sure.1.settled.means
  held_means (Joins h left right pace) sure is n holds listed = paced left right pace sure.at n holds listed
  held_means (Wears m v) sure is n holds listed = absurd holds
  held_means (Reads m v k h) sure is n holds listed = absurd holds

set_from : (states : List PartyState) (i : ℕ) (x e : PartyState) (j : ℕ) → get_elem? (slice_set states i x) j ≡ some e → (x ≡ e) ⊎ (get_elem? states j ≡ some e)
set_from [] i x e j at = inr at
set_from (y ∷ ys) zero x e zero at = inl (some-injective x e at)
set_from (y ∷ ys) zero x e (suc j) at = inr at
set_from (y ∷ ys) (suc i) x e zero at = inr at
set_from (y ∷ ys) (suc i) x e (suc j) at = set_from ys i x e j at

flight_stage : (m : Option Running) → placed_in (machine_stage m) ≡ flight_place m
flight_stage None = refl
flight_stage (Some machine) = refl

module _ (s new : Index) (caller : ℕ) (c : CoreCall) (cuts : CutsOff s caller c new) (none : HasNoCalls s) (index : IsIndex new) (place : ℕ) (placed : flight_place cuts.cut.machine ≡ Some place) where
  abbrev w : World
  w = world new

  held_so : (n : ℕ) → IsListed (facts w) n → IsHeld w.parties n → MeansHere new.layout new.generation (facts w) 0 0 0 0 n
  held_so n listed held =
      let from = map_from party_of new.states held.number held.party held.there in
      let at = subst (λ (l : List PartyState). get_elem? l held.number ≡ some from.0) cuts.states from.1 in
      let stage : machine_stage from.0.machine ≡ held.party.stage = ap (λ (p : Party). p.stage) from.2 in
      ⊎_elim
      (λ (own : cuts.cut ≡ from.0).
      let is : placed_in held.party.stage ≡ Some place = sym (ap placed_in (ap (λ (e : PartyState). machine_stage e.machine) own ∙ stage)) ∙ flight_stage cuts.cut.machine ∙ placed in
      held_means new.layout new.generation (facts w) held.party.caller held.party.index held.party.since place held.party.stage (index.lawful.sure held.number held.party held.there) is n held.holds listed)
      (λ (other : get_elem? s.states held.number ≡ some from.0).
      let idle : held.party.stage ≡ Idle = sym stage ∙ ap machine_stage (none held.number from.0 other) in
      absurd (subst (λ (g : Stage). HoldsNode g n) idle held.holds))
      (set_from s.states caller cuts.cut from.0 held.number at)

  all_mean : (n : ℕ) → IsListed (facts w) n → MeansHere new.layout new.generation (facts w) 0 0 0 0 n
  all_mean n listed = ⊎_elim
      (λ (free : IsFree ((facts w).version n) w.generation). (index.lawful.settled n listed free).means)
      (λ (held : IsHeld w.parties n). held_so n listed held)
      (index.lawful.held n (listed_within w.layout (facts w) index.lawful.list index.lawful.row.layout n listed))

  -- the nodes that are listed as a write has its place, and is in flight, hold a shape
  pub placed_holds_shape : ShapeIn new.layout (map_of_index new) (anchors_in (world new))
  placed_holds_shape =
      let nodes = index.lawful.row.layout.nodes in
      let some_node = nodes.0 in
      (nodes_hold_shape new.layout (facts w) (omega (arith, some_node)) index.lawful.list index.lawful.named all_mean).0

module _ (first : Anchors) (s : Index) (stopped turning placed_so : Bool) (was : IsStoppable first (record { index = s; stopped = stopped; turning = turning; placed = placed_so })) (going : stopped ≡ false)
    (new : Index) (c : CoreCall) (caller : ℕ) (here : caller < s.layout.callers) (cuts : CutsOff s caller c new) (index : IsIndex new) (unlimited : IsUnlimited c) (uncut : cut_changes s.states ≡ []) where
  abbrev before : Stoppable
  before = record { index = s; stopped = stopped; turning = turning; placed = placed_so }

  abbrev behind : Bool → Stoppable
  behind b = record { index = new; stopped = true; turning = turning; placed = b }

  one : cut_changes new.states ≡ cut_change cuts.cut.machine
  one = cut_leaves_one s new caller c ((goes first s stopped turning placed_so was going).still caller here) cuts

  -- it wrote nothing
  module _ (nothing : flight_place cuts.cut.machine ≡ None) (history : new.history ≡ s.history) where
    open_stops : IsStoppable first (behind false)
    open_stops = subst (λ (b : Bool). IsStoppable first (behind b)) (was.unplaced going) (stops first s stopped turning placed_so was going new cuts.layout cuts.base history index)

    open_cut : WasCutBy (state_of first before) (change_of (op_of c)) false (state_of first (behind false))
    open_cut = cut_open (state_of first before) (state_of first (behind false)) (change_of (op_of c))
        (same_map first s new cuts.layout cuts.base history)
        (same_members first s new cuts.layout cuts.base history ∙ sym (plain first s stopped turning placed_so was going s))
        uncut (subst (λ (l : List Change). AreAtMost l (change_of (op_of c))) (sym one) (at_most c cuts.cut.machine cuts.makes nothing))

  -- it has its place
  module _ (change : Change) (asks : change_of (op_of c) ≡ Some change) (place : ℕ) (placed : flight_place cuts.cut.machine ≡ Some place) (w : Write) (is_change : w.change ≡ change) (history : new.history ≡ s.history ++ w ∷ []) where
    contents : map_of_index new ≡ changed (map_of_index s) change
    contents = (λ k. after_all (map_of (cuts.base k)) (history k)) ∙ after_all-push (map_of s.base) s.history w ∙ ap (changed (map_of_index s)) is_change

    placed_cut : WasCutBy (state_of first before) (change_of (op_of c)) true (state_of first (behind true))
    placed_cut = subst (λ (o : Option Change). WasCutBy (state_of first before) o true (state_of first (behind true))) (sym asks)
        (contents, subst (λ (l : List Change). AreAmong l []) (sym (one ∙ none_more cuts.cut.machine place placed)) (λ x has. has))

  -- the listed nodes hold its shape
  placed_stops : (place : ℕ) → flight_place cuts.cut.machine ≡ Some place → IsStoppable first (behind true)
  placed_stops place placed = record {
    index = index;
    going = λ e. absurd (false≢true (sym e));
    can_turn = λ e no_one. absurd (false≢true (sym e));
    turns = λ e some quiet. false≢true (sym e);
    unplaced = λ e. absurd (false≢true (sym e));
    shape = placed_holds_shape s new caller c cuts (no_calls first s stopped turning placed_so was going) index place placed;
  }

module _ (first : Anchors) (s : Index) (stopped turning placed_so : Bool) (was : IsStoppable first (record { index = s; stopped = stopped; turning = turning; placed = placed_so })) (going : stopped ≡ false)
    (new : Index) (c : CoreCall) (caller : ℕ) (here : caller < s.layout.callers) (cuts : CutsOff s caller c new) (index : IsIndex new) (unlimited : IsUnlimited c) (uncut : cut_changes s.states ≡ []) where
  abbrev CutsSo : Bool → Type 0
  CutsSo placed =
      IsStoppable first (record { index = new; stopped = true; turning = turning; placed = placed })
      × WasCutBy (state_of first (record { index = s; stopped = stopped; turning = turning; placed = placed_so })) (change_of (op_of c)) placed (state_of first (record { index = new; stopped = true; turning = turning; placed = placed }))

  cut_by : HasWritten s cuts.state.caller cuts.state.index c cuts.cut.machine new → CutsSo (nat_lt (length s.history) (length new.history))
  cut_by (inl nothing) =
      let same : nat_lt (length s.history) (length new.history) ≡ false = ap (λ (l : List Write). nat_lt (length s.history) (length l)) nothing.1 ∙ le-ltb (length s.history) (length s.history) (omega arith) in
      subst CutsSo (sym same) (
        open_stops first s stopped turning placed_so was going new c caller here cuts index unlimited uncut nothing.0 nothing.1,
        open_cut first s stopped turning placed_so was going new c caller here cuts index unlimited uncut nothing.0 nothing.1,
      )
  cut_by (inr wrote) =
      let w : Write = record { caller = cuts.state.caller; index = cuts.state.index; change = wrote.0 } in
      let size = ap length wrote.3 in
      let both = length-append s.history (w ∷ []) in
      let more : nat_lt (length s.history) (length new.history) ≡ true = lt-ltb (length s.history) (length new.history) (omega (arith, size, both)) in
      subst CutsSo (sym more) (
        placed_stops first s stopped turning placed_so was going new c caller here cuts index unlimited uncut (length s.history) wrote.2,
        placed_cut first s stopped turning placed_so was going new c caller here cuts index unlimited uncut wrote.0 wrote.1 (length s.history) wrote.2 w refl wrote.3,
      )

  pub cut_name : (placed : Bool) → placed ≡ nat_lt (length s.history) (length new.history) → CutsSo placed
  cut_name placed is = subst CutsSo (sym is) (cut_by cuts.writes)

pub writes_now : (n : Index) (stopped turning placed_so : Bool) → stopped ≡ false → writes_of (record { index = n; stopped = stopped; turning = turning; placed = placed_so }) ≡ writes_left_of n
writes_now n stopped turning placed_so going = ap (λ (b : Bool). writes_of (record { index = n; stopped = b; turning = turning; placed = placed_so })) going

-- ---- what it weighs

module _ (s new : Index) (c : CoreCall) (caller : ℕ) (r : Whole) (still : IsStill caller s) (ran : RanAlone s caller c new r) where
  pub gave_weighs : (o : Once Placed) → r ≡ whole_of o → (result : Result (Option ℕ) Full) →
      ((placed : Placed) × (o ≡ once.Done placed) × (result ≡ Ok placed.old)) ⊎ ((why : Again) × (o ≡ once.Again why) × (result ≡ Err (record {}))) →
      weight_sum (world new) ≤ weight_sum (world s) + added_within (op_of c) (bounded.Answered result)
  gave_weighs o is result (inl done) =
      let light = told_weighs s c new r done.0 (is ∙ ap whole_of done.1) ran.runs in
      let before = none_weigh s still.calls in
      let after = none_weigh new (ran.still caller still).calls in
      subst (λ (x : Result (Option ℕ) Full). weight_sum (world new) ≤ weight_sum (world s) + added_within (op_of c) (bounded.Answered x)) (sym done.2) (omega (arith, light, before, after))
  gave_weighs o is result (inr full) =
      let light = (full_same s c new r (is ∙ ap whole_of full.1) ran.runs).weighs in
      let before = none_weigh s still.calls in
      let after = none_weigh new (ran.still caller still).calls in
      subst (λ (x : Result (Option ℕ) Full). weight_sum (world new) ≤ weight_sum (world s) + added_within (op_of c) (bounded.Answered x)) (sym full.2) (omega (arith, light, before, after))

pub cut_weighs : (s new : Index) (c : CoreCall) (caller : ℕ) (placed : Bool) → HasNoCalls s → CutsOff s caller c new → weight_sum (world new) ≤ weight_sum (world s) + added_within (op_of c) (bounded.Cut placed)
cut_weighs s new c caller placed none cuts =
    let light = cuts.weighs in
    let before = none_weigh s none in
    omega (arith, light, before)

pub listed_weighs : (s new : Index) (caller : ℕ) (low : List ℕ) (count : ℕ) (r : Whole) → IsStill caller s → RanAlone s caller (call.Part low count) new r → weight_sum (world new) ≤ weight_sum (world s)
listed_weighs s new caller low count r still ran =
    let light = part_weighs s low count new r ran.runs in
    let before = none_weigh s still.calls in
    let after = none_weigh new (ran.still caller still).calls in
    omega (arith, light, before, after)

pub turned_weighs : (s new : Index) (answer : Turned) → IsQuiet s → IsQuiet new → TurnsAlone s 1 1 answer new → weight_sum (world new) ≤ weight_sum (world s)
turned_weighs s new answer quiet still t =
    let light = t.weighs in
    let before = none_weigh s quiet.calls in
    let after = none_weigh new still.calls in
    omega (arith, light, before, after)

pub turn_cut_weighs : (s new : Index) (party : ℕ) → IsQuiet s → CutsTurnOff s party new → weight_sum (world new) ≤ weight_sum (world s)
turn_cut_weighs s new party quiet cuts =
    let light = cuts.weighs in
    let before = none_weigh s quiet.calls in
    omega (arith, light, before)

-- only a put adds a name
pub none_within : (asked : NameOp) (ended : Bounded (Result (Option ℕ) Full)) → put_count asked ≡ 0 → added_within asked ended ≡ 0
none_within asked (bounded.Answered (Ok old)) none = no_put_adds old asked none
none_within asked (bounded.Answered (Err full)) none = refl
none_within asked (bounded.Cut placed) none = none

pub put_within : (name : List ℕ) (value : ℕ) (ended : Bounded (Result (Option ℕ) Full)) → added_within (op.Put name value) ended ≡ put_added ended
put_within name value (bounded.Answered (Ok None)) = refl
put_within name value (bounded.Answered (Ok (Some was))) = refl
put_within name value (bounded.Answered (Err full)) = refl
put_within name value (bounded.Cut placed) = refl

-- ---- turns of the updater

module _ (first : Anchors) (s : Index) (stopped turning placed_so : Bool) (was : IsStoppable first (record { index = s; stopped = stopped; turning = turning; placed = placed_so })) (going : stopped ≡ false) (none : turning ≡ false) (new : Index) where
  pub rests_so : CanTurn s
  rests_so = was.can_turn going none

  -- a whole one
  module _ (answer : Turned) (t : TurnsAlone s 1 1 answer new) (index : IsIndex new) (quiet : IsQuiet new) where
    pub low_then : HasLowStamps new
    low_then = (turned_map s new answer t (len (map_of_index s)) (record { index = was.index; quiet = rests_so.quiet; stamps = rests_so.stamps; counted = refl }) index quiet).stamps

    listed_then : anchors_in (world new) ≡ members_by first new
    listed_then = (λ k. anchors_of (t.lone.kept.facts k).list) ∙ (goes first s stopped turning placed_so was going).anchors ∙ sym (ap (members_by first) t.is)

    pub turn_goes_on : IsStoppable first (record { index = new; stopped = stopped; turning = turning; placed = placed_so })
    turn_goes_on = record {
      index = index;
      going = λ _. record { still = λ caller here. quiet_is_still caller new quiet; anchors = listed_then };
      can_turn = λ _ no_one. record { quiet = quiet; stamps = low_then };
      turns = λ _ some. absurd (false≢true (sym none ∙ some));
      unplaced = was.unplaced;
      shape = subst (λ (a : Anchors). ShapeIn new.layout (map_of_index new) a) (listed_then ∙ sym (plain first s stopped turning placed_so was going new)) (calls_shape new index quiet.calls);
    }

  -- one that is cut off
  module _ (party : ℕ) (is_updater : party ≡ s.layout.callers) (cuts : CutsTurnOff s party new) (uncut : cut_changes s.states ≡ []) where
    abbrev then_turn : Stoppable
    then_turn = record { index = s; stopped = stopped; turning = turning; placed = placed_so }

    abbrev past_turn : Stoppable
    past_turn = record { index = new; stopped = stopped; turning = true; placed = placed_so }

    abbrev in_turn : PartyState
    in_turn = record cuts.state { turn = Some cuts.making }

    pub same_then : members_of first past_turn ≡ members_of first then_turn
    same_then = ap (λ (b : Bool). members_of first (record { index = new; stopped = stopped; turning = true; placed = b })) (was.unplaced going) ∙ same_members first s new cuts.layout cuts.base cuts.history ∙ sym (plain first s stopped turning placed_so was going s)

    pub turn_cut : IsSame (state_of first then_turn) (state_of first past_turn)
    turn_cut = (
      same_map first s new cuts.layout cuts.base cuts.history,
      same_then,
      cut_turn_leaves_none s new party (quiet_is_still party s rests_so.quiet) cuts ∙ sym uncut,
    )

    in_flight : IsQuiet new → ⊥
    in_flight quiet = clash (sym (quiet.turns party in_turn (ap (λ (l : List PartyState). get_elem? l party) cuts.states ∙ set_here s.states party in_turn cuts.state cuts.there)))

    pub turn_stops : IsIndex new → ((caller : ℕ) → caller ≢ party → IsStill caller new) → IsStoppable first past_turn
    turn_stops index stills = record {
      index = index;
      going = λ _. record {
        still = λ caller here. stills caller (λ same. (let callers : new.layout.callers ≡ s.layout.callers = ap (λ (l : Layout). l.callers) cuts.layout in omega (arith, here, same, callers, is_updater)));
        anchors = cuts.anchors ∙ (goes first s stopped turning placed_so was going).anchors ∙ sym (same_members first s new cuts.layout cuts.base cuts.history);
      };
      can_turn = λ _ no_one. absurd (false≢true (sym no_one));
      turns = λ _ some quiet. in_flight quiet;
      unplaced = was.unplaced;
      shape = shape_on s.layout new.layout (map_of_index s) (map_of_index new) (members_of first then_turn) (members_of first past_turn)
          (sym cuts.layout) (sym (same_map first s new cuts.layout cuts.base cuts.history)) (sym same_then) was.shape;
    }

    pub calls_stay : calls_of then_turn ≤ calls_of past_turn
    calls_stay =
        let locks = cuts.locks in
        let fewer : calls_left_of s ≤ calls_left_of new = omega (arith, locks) in
        subst (λ (b : Bool). calls_of (record { index = s; stopped = b; turning = turning; placed = placed_so }) ≤ calls_of (record { index = new; stopped = b; turning = true; placed = placed_so })) (sym going) fewer

    pub writes_stay : writes_of then_turn ≤ writes_of past_turn
    writes_stay =
        let same : writes_left_of new ≡ writes_left_of s = λ k. min (cuts.spare k) (2 ^ 62 - length (cuts.history k)) in
        subst (λ (b : Bool). writes_of (record { index = s; stopped = b; turning = turning; placed = placed_so }) ≤ writes_of (record { index = new; stopped = b; turning = true; placed = placed_so })) (sym going) (omega (arith, same))

-- ---- as it begins

pub begun_stoppable : (first : Anchors) (s : Index) → IsIndex s → IsQuiet s → HasLowStamps s → s.history ≡ [] → first ≡ anchors_in (world s) → IsStoppable first (record { index = s; stopped = false; turning = false; placed = false })
begun_stoppable first s index quiet stamps begins is =
    let here : anchors_in (world s) ≡ members_by first s = sym is ∙ ap (anchors_by s.layout.slots (map_of s.base) first) (sym begins) in
    record {
      index = index;
      going = λ _. record { still = λ caller within. quiet_is_still caller s quiet; anchors = here };
      can_turn = λ _ none. record { quiet = quiet; stamps = stamps };
      turns = λ _ some. absurd (false≢true some);
      unplaced = λ _. refl;
      shape = subst (λ (a : Anchors). ShapeIn s.layout (map_of_index s) a) here (calls_shape s index quiet.calls);
    }
