-- One try of a call, with no other in flight.
use Rattle.std.proofs.Common.{true, false, ◌≡◌, ℕ, suc, ◌+◌, ◌<◌, ◌≤◌, ◌^◌, inl, inr, ⊎_elim, List, [], ◌++◌, length}
use Rattle.std.proofs.Common.{set, slice_set, map, refl, sym, ap, ◌∙◌, subst, arith}
use Rattle.std.specs.Prelude.{Option, Some, None, IfSome}
use mathlib.Core.Option.{some, none, some-injective}
use lib.ListN.{get_elem?}
use Rattle.pm_words.specs.declared.again.Again.TheVariants as again
use Rattle.pm_words.specs.declared.machine.Turn.{Turn}
use Rattle.pm_words.specs.declared.machine.Turn.TheVariants.{Go, Done}
use Rattle.pm_words.specs.Turns.{GoesBelow}
use Rattle.pm_words.specs.Rows.{acted}
use Rattle.cat_key.specs.Names.{IsName}
use Rattle.cat_history.specs.Maps.{map_of}
use Rattle.cat_history.specs.declared.op.NameOp.{NameOp}
use Rattle.call_stages.specs.declared.once.Once.{Once}
use Rattle.call_stages.specs.declared.once.Once.TheVariants as once
use Rattle.call_stages.specs.declared.once.Placed.{Placed}
use Rattle.call_stages.specs.Stages.{Stage, Idle, counted}
use Rattle.call_stages.specs.declared.view.View.{View}
use Rattle.node_ops.specs.declared.running.Running.{Running}
use Rattle.call_stages.specs.Views.{IsView}
use Rattle.node_ops.specs.Asked.{IsOf, op_in, name_asked}
use Rattle.node_ops.specs.RunningSteps.{running_asks, running_turned, running_left, count_in, IsRunning}
use Rattle.node_ops.specs.CallStages.{stage_of, footing_of, footing_after, reply_of}
use Rattle.node_ops.proofs.PartListing.{count_stays}
use Rattle.node_ops.proofs.OpLaw.{op_told}
use Rattle.index_law.specs.Facts.{Facts}
use Rattle.index_law.specs.Worlds.{Party, World, facts, stepped, started, moved_on, written}
use Rattle.index_law.specs.Weights.{weight_sum}
use Rattle.index_law.proofs.Parties.{set_here}
use Rattle.lone_hops_law.specs.lone_call_law.specs.Locks.{locks_of, fewest_locks}
use Rattle.lone_hops_law.specs.lone_call_law.specs.Merging.{FindsMerge, HasKeptList, IsMergedSince, LeavesShape}
use Rattle.lone_hops_law.specs.lone_call_law.specs.LoneCalls.{LoneCall, IsAnswered, LosesLocks, AfterCall, ValueFits}
use Rattle.lone_hops_law.specs.lone_call_law.specs.LoneCalls.{begun_party}
use Rattle.lone_hops_law.specs.lone_call_law.specs.There.{CanWalk}
use Rattle.lone_hops_law.specs.lone_call_law.specs.Tries.{Trying}
use Rattle.lone_hops_law.specs.lone_call_law.proofs.Locks.{fewest_lose}
use Rattle.lone_hops_law.specs.lone_call_law.proofs.LoneCalls.{lone_calls_begin, lone_parts_begin, lone_calls_go}
use Rattle.lone_hops_law.specs.lone_call_law.proofs.LoneCalls.{lone_calls_lose}
use Rattle.index_core.specs.declared.party.PartyState.{PartyState}
use Rattle.index_core.specs.declared.party.CoreCall.{CoreCall}
use Rattle.index_core.specs.declared.party.CoreCall.TheVariants as call
use Rattle.index_core.specs.CoreCalls.{IsGetCall, machine_of, op_of, limit_of, count_of, most_writes}
use Rattle.index_core.specs.PartyStates.{party_of, machine_footing, state_with, state_after, machine_owes, owed}
use Rattle.index_core.specs.Indexes.{Index, room_of, layered, world, IsIndex, IsInFlight, KeepsWords, view_of, Starts}
use Rattle.index_core.specs.Indexes.{started_index, told, stepped_index}
use Rattle.index_core.specs.Bursts.{TurnsOn}
use Rattle.index_core.specs.Lone.{HasNoCalls, IsQuiet, IsStill, TriesAlone, locks_left, LoseAtMost}
use Rattle.index_core.specs.MachineLaws.{MachineLaw, showing, showing_after}
use Rattle.index_core.specs.Weights.{weight_of, added_by}
use Rattle.index_core.proofs.Bounds.{bounded_small}
use Rattle.index_core.proofs.GetLoads.{call_is_get, get_keeps_words}
use Rattle.index_core.proofs.Lists.{map_there, map_set, set_twice, owed-set, quiet-owed}
use Rattle.index_core.proofs.Quiet.{none_then, quiet_then, rests, still_then, walks_come}
use Rattle.index_law.specs.Laws.{IsAtRest}
use Rattle.cat_history.specs.declared.op.NameOp.TheVariants as op
use Rattle.index_core.proofs.MachineLaw.{machine_law, begin_law, none_weigh}
use Rattle.index_core.proofs.Stepping.{begins_count, machine_idle, machine_writes, step_facts}
use Rattle.node_ops.specs.Costs.{spared}
use Rattle.node_ops.proofs.Costs.{turns_spare}
use Rattle.index_core.proofs.Told.{go_of, done_of}
use Rattle.index_core.proofs.Stamps.{step_leaves_stamps}
use Rattle.lone_hops_law.specs.lone_updater_law.specs.LoneTurns.{stamp_in}
use Rattle.lone_hops_law.specs.lone_updater_law.specs.CallLogs.{KeepsLayer, KeepsLines, MakesReady, StandsSo}
use Rattle.lone_hops_law.specs.lone_updater_law.specs.CallLogs.{LogStands, LeavesLines}
use Rattle.lone_hops_law.specs.lone_updater_law.proofs.CallLogs.{log_goes, log_ends}
use Rattle.lone_hops_law.specs.lone_updater_law.proofs.InStep.{calls_are_in_step}
use Rattle.call_stages.specs.Footings.{FootStep}
use Rattle.call_stages.specs.Lines.{HeldLine}
use Rattle.call_stages.specs.Prevs.{no_debt}
use Rattle.data_list.specs.Still.{AreQuiet}
use Rattle.index_law.specs.LoneShapes.{has_merged}
use Rattle.lone_hops_law.specs.lone_call_law.specs.Tries.{has_retired}
use Rattle.lone_hops_law.specs.LoneNodes.{nodes_of, HasLeftOut, NodesStand, LengthenWithin}
use Rattle.lone_hops_law.specs.Ways.{StayGone}
use Rattle.lone_hops_law.proofs.Lengthening.{tries_lengthen}
use Rattle.lone_hops_law.proofs.NodesGo.{nodes_go, nodes_end}
use Rattle.cat_history.specs.Records.{change_of}
use Rattle.node_ops.proofs.CallLaw.{footing_stage}

-- What the call has found, before which the index was s0: nothing that is in its way.
pub record LoneStart (s0 : Index) (i : ℕ) (c : CoreCall) : Type 0 where
  pub state : PartyState
  pub still : IsStill i s0
  pub before : IsIndex s0
  pub named : IsName (name_asked (op_of c))
  pub there : get_elem? s0.states i ≡ some state

-- One call is in flight, as the index was s0 before it.
pub record Lone (s0 s : Index) (i : ℕ) (c : CoreCall) : Type 0 where
  pub start : LoneStart s0 i c
  pub machine : Running
  pub states : s.states ≡ slice_set s0.states i (state_with start.state (length s0.history) machine)
  pub index : IsIndex s
  pub call : LoneCall (world s0) i (op_of c) (limit_of c) (world s) (party_of (state_with start.state (length s0.history) machine)) machine
  pub count : count_in machine ≡ count_of c
  pub log : LogStands start.state.caller (world s0) (world s) (footing_of machine)
  pub nodes : NodesStand (world s0) (world s) (stage_of machine)
  pub same_base : s.base ≡ s0.base
  pub reads : IsGetCall c → KeepsWords s0 s
  pub stamps : stamp_in (world s) ≡ stamp_in (world s0)
  pub weighs : weight_sum (world s) ≤ weight_of s0 + showing (Some machine)
  pub room : length s0.history + s0.spare ≤ room_of s

-- a merge is one whatever the parties are
merge_with_parties : {name : List ℕ} {w0 w : World} {parties : List Party} → IsMergedSince name w0 w → IsMergedSince name w0 (record w { parties = parties })
merge_with_parties merge = record { list = merge.list; anchors = merge.anchors; most = merge.most }

-- so are the states of lines
pub ready_with_parties : {caller : ℕ} {w0 w : World} {parties : List Party} → MakesReady caller w0 w → MakesReady caller w0 (record w { parties = parties })
ready_with_parties made = record { line = made.line; within = made.within; own = made.own; was_empty = made.was_empty; is = made.is }

-- how many actions it has left
abbrev pub left_of : Option Running → ℕ
left_of None = 0
left_of (Some machine) = suc (running_left machine)

abbrev pub left_at : Index → ℕ → ℕ
left_at s i = elim (get_elem? s.states i) [ none ↦ 0 | some state ↦ left_of state.machine ]

-- and together with what it spares
abbrev pub cost_of : Option Running → ℕ
cost_of None = 0
cost_of (Some machine) = running_left machine + spared machine

abbrev pub cost_in : mathlib.Core.Option.Option PartyState → ℕ
cost_in found = elim found [ none ↦ 0 | some state ↦ cost_of state.machine ]

abbrev pub cost_at : Index → ℕ → ℕ
cost_at s i = cost_in (get_elem? s.states i)

-- what is asked of a call that begins
record Asks (v : View) (c : CoreCall) : Type 0 where
  view : IsView v
  named : IsName (name_asked (op_of c))
  limit : IfSome (limit_of c) (λ most. most ≤ 2 ^ 62)
  value : ValueFits (op_of c)

asks : (v : View) (c : CoreCall) → IsRunning (machine_of v c) → IsOf (op_of c) (machine_of v c) → Asks v c
asks v (call.Put name value limit) here of = record { view = here.0.call.view; named = subst IsName of.0 here.0.call.packed.named; limit = here.0.call.limit; value = here.1 }
asks v (call.Get name) here of = record { view = here.0.call.view; named = subst IsName of here.0.call.packed.named; limit = tt; value = tt }
asks v (call.Del name limit) here of = record { view = here.0.call.view; named = subst IsName of.0 here.0.call.packed.named; limit = here.0.call.limit; value = tt }
asks v (call.Part low count) here of = record { view = here.0.call.view; named = subst IsName of here.0.call.packed.named; limit = tt; value = tt }
asks v (call.Recheck node version) here of = record { view = here.0.call.view; named = subst IsName of here.0.call.packed.named; limit = tt; value = tt }
asks v (call.Turn stamp release) here of = record { view = here.0.call.view; named = subst IsName of here.0.call.packed.named; limit = tt; value = tt }

-- whatever is called begins so
begins_alone : (w0 : World) (i : ℕ) (c : CoreCall) (p : Party) (index : ℕ) (v : View) → IsAtRest w0 → CanWalk w0.layout w0.generation w0.words → get_elem? w0.parties i ≡ some p → v.layout ≡ w0.layout → v.generation ≡ w0.generation → v.caller ≡ p.caller → Asks v c
    → LoneCall w0 i (op_of c) (limit_of c) (started w0 i p index) (begun_party w0 p index) (machine_of v c)
begins_alone w0 i (call.Put name value limit) p index v rest can there layout generation own ask =
    lone_calls_begin w0 i (op.Put name value) (Some limit) p index v rest can there ask.view layout generation own ask.named ask.limit refl ask.value
begins_alone w0 i (call.Get name) p index v rest can there layout generation own ask =
    lone_calls_begin w0 i (op.Get name) None p index v rest can there ask.view layout generation own ask.named ask.limit refl ask.value
begins_alone w0 i (call.Del name limit) p index v rest can there layout generation own ask =
    lone_calls_begin w0 i (op.Del name) (Some limit) p index v rest can there ask.view layout generation own ask.named ask.limit refl ask.value
begins_alone w0 i (call.Part low count) p index v rest can there layout generation own ask =
    lone_parts_begin w0 i low count p index v rest can there ask.view layout generation own ask.named
begins_alone w0 i (call.Recheck node version) p index v rest can there layout generation own ask =
    lone_calls_begin w0 i (op.Get []) None p index v rest can there ask.view layout generation own ask.named ask.limit refl ask.value
begins_alone w0 i (call.Turn stamp release) p index v rest can there layout generation own ask =
    lone_calls_begin w0 i (op.Get []) None p index v rest can there ask.view layout generation own ask.named ask.limit refl ask.value

-- the call as it begins
begun_call : (s0 : Index) (i : ℕ) (e : PartyState) (c : CoreCall) (n : ℕ) → IsIndex s0 → HasNoCalls s0 → get_elem? s0.states i ≡ some e → IsRunning (machine_of (view_of s0 i) c)
    → IsOf (op_of c) (machine_of (view_of s0 i) c)
    → LoneCall (world s0) i (op_of c) (limit_of c) (world (started_index s0 i e c n)) (party_of (state_with e (length s0.history) (machine_of (view_of s0 i) c))) (machine_of (view_of s0 i) c)
begun_call s0 i e c n is calls there here of =
    let v = view_of s0 i in
    let m = machine_of v c in
    let now = state_with e (length s0.history) m in
    let first = begins_alone (world s0) i c (party_of e) e.index v (rests s0 is calls) (walks_come s0 is calls) (map_there party_of s0.states i e there) refl refl (sym (is.states i e there).caller) (asks v c here of) in
    let idle : Party = begun_party (world s0) (party_of e) e.index in
    let party : idle ≡ party_of now = (λ k. record { caller = e.caller; index = e.index; since = length s0.history; stage = sym (machine_idle s0 i c) k }) in
    let parties : slice_set (map party_of s0.states) i idle ≡ map party_of (slice_set s0.states i now) =
    ap (slice_set (map party_of s0.states) i) party ∙ sym (map_set party_of s0.states i now) in
    subst (λ (q : List Party × Party). LoneCall (world s0) i (op_of c) (limit_of c) (record (world s0) { parties = q.0 }) q.1 m)
    (λ k. (parties k, party k)) first

-- it has no log line yet
begun_line : (v : View) (c : CoreCall) → (footing_of (machine_of v c)).line ≡ None
begun_line v (call.Put name value limit) = refl
begun_line v (call.Get name) = refl
begun_line v (call.Del name limit) = refl
begun_line v (call.Part low count) = refl
begun_line v (call.Recheck node version) = refl
begun_line v (call.Turn stamp release) = refl

begun_log : (s0 : Index) (i : ℕ) (e : PartyState) (c : CoreCall) (n : ℕ) → LogStands e.caller (world s0) (world (started_index s0 i e c n)) (footing_of (machine_of (view_of s0 i) c))
begun_log s0 i e c n =
    let m = machine_of (view_of s0 i) c in
    let stage : (footing_of m).stage ≡ Idle = footing_stage m ∙ machine_idle s0 i c in
    let line : (footing_of m).line ≡ None = begun_line (view_of s0 i) c in
    record {
      layer = refl;
      lines = subst (λ (f : Stage × Option HeldLine). StandsSo e.caller (world s0) (world (started_index s0 i e c n)) f.0 f.1) (λ k. (sym stage k, sym line k)) (inl ((refl, refl), refl));
    }

begun_nodes : (s0 : Index) (i : ℕ) (e : PartyState) (c : CoreCall) (n : ℕ) → NodesStand (world s0) (world (started_index s0 i e c n)) (stage_of (machine_of (view_of s0 i) c))
begun_nodes s0 i e c n =
    record { stay = λ m gone. (gone, refl); left_out = λ merged. absurd (let no : false ≡ true = sym (ap has_merged (machine_idle s0 i c)) ∙ merged in cc) }

pub lone_start : (s0 s : Index) (i : ℕ) (c : CoreCall) → IsIndex s0 → IsStill i s0 → Starts s0 i c s → s.spare + most_writes c ≡ s0.spare → IsIndex s → Lone s0 s i c
lone_start s0 s i c is0 still t spare is =
    let is' : IsIndex (started_index s0 i t.state c s.spare) = subst IsIndex t.is is in
    let m = machine_of (view_of s0 i) c in
    let now = state_with t.state (length s0.history) m in
    let owing = owed-set s0.states i t.state now t.there in
    let none : machine_owes t.state.machine ≡ 0 = ap machine_owes (still.calls i t.state t.there) in
    let own = machine_writes s0 i c in
    let room : length s0.history + s0.spare ≤ length s0.history + (owed (set s0.states i now) + s.spare) = omega arith in
    let here : IsRunning m = (is'.states i now (set_here s0.states i now t.state t.there)).machine.here in
    let begins = begin_law s0 i t.state t.state.index c is0 t.there (still.calls i t.state t.there) here in
    let weight = begins.weighs ∙ none_weigh s0 still.calls in
    let shown = begins.shows_none in
    subst (λ (v : Index). Lone s0 v i c) (sym t.is) (record {
      start = record { state = t.state; still = still; before = is0; named = (asks (view_of s0 i) c here t.of).named; there = t.there };
      machine = m;
      states = refl;
      index = is';
      call = begun_call s0 i t.state c s.spare is0 still.calls t.there here t.of;
      count = begins_count (view_of s0 i) c;
      log = begun_log s0 i t.state c s.spare;
      nodes = begun_nodes s0 i t.state c s.spare;
      same_base = refl;
      reads = λ get. refl;
      stamps = refl;
      weighs = omega arith;
      room = room;
    })

pub lone_there : (s0 s : Index) (i : ℕ) (c : CoreCall) (o : Lone s0 s i c) → get_elem? s.states i ≡ some (state_with o.start.state (length s0.history) o.machine)
lone_there s0 s i c o =
    ap (λ (l : List PartyState). get_elem? l i) o.states ∙ set_here s0.states i (state_with o.start.state (length s0.history) o.machine) o.start.state o.start.there

pub lone_flies : (s0 s : Index) (i : ℕ) (c : CoreCall) → Lone s0 s i c → IsInFlight s i
lone_flies s0 s i c o = record { state = state_with o.start.state (length s0.history) o.machine; machine = o.machine; there = lone_there s0 s i c o; flies = refl }

some_same : {a b : Running} → Some a ≡ Some b → a ≡ b
some_same e = cc

-- the party that it is in flight of has that machine
pub lone_machine : (s0 s : Index) (i : ℕ) (c : CoreCall) (o : Lone s0 s i c) (state : PartyState) (machine : Running) → get_elem? s.states i ≡ some state → state.machine ≡ Some machine → machine ≡ o.machine
lone_machine s0 s i c o state machine there flies =
    some_same (sym flies ∙ ap (λ (d : PartyState). d.machine) (some-injective _ _ (sym there ∙ lone_there s0 s i c o)))

-- where each node has lost one lock at most, so have the fewest
loses_each : (s0 s : Index) → s.generation ≡ s0.generation → LosesLocks (world s0) (world s) → LoseAtMost 1 s0 s
loses_each s0 s generation loses n =
    subst (λ (g : ℕ). locks_of s0.generation ((facts (world s0)).version n) ≤ locks_of g ((facts (world s)).version n) + 1) (sym generation) (loses n)

loses_fewest : (s0 s : Index) → s.layout ≡ s0.layout → s.generation ≡ s0.generation → LosesLocks (world s0) (world s) → locks_left s0 ≤ locks_left s + 1
loses_fewest s0 s layout generation loses =
    subst (λ (q : ℕ × ℕ). locks_left s0 ≤ fewest_locks q.0 (facts (world s)).version q.1 + 1) (λ k. (sym generation k, (sym layout k).nodes))
    (fewest_lose s0.generation (facts (world s0)).version (facts (world s)).version s0.layout.nodes loses)

-- so it is wherever a call in flight has come
pub flight_each : (s0 s : Index) (i : ℕ) (c : CoreCall) → Lone s0 s i c → LoseAtMost 1 s0 s
flight_each s0 s i c o = loses_each s0 s o.call.trying.start.generation (lone_calls_lose (world s0) i (op_of c) (limit_of c) (world s) (party_of (state_with o.start.state (length s0.history) o.machine)) o.machine o.call)

pub flight_locks : (s0 s : Index) (i : ℕ) (c : CoreCall) → Lone s0 s i c → locks_left s0 ≤ locks_left s + 1
flight_locks s0 s i c o =
    loses_fewest s0 s o.call.trying.start.layout o.call.trying.start.generation
    (lone_calls_lose (world s0) i (op_of c) (limit_of c) (world s) (party_of (state_with o.start.state (length s0.history) o.machine)) o.machine o.call)

module _ (s0 s s' : Index) (i : ℕ) (c : CoreCall) (result : Option (Once Placed)) (o : Lone s0 s i c) (t : TurnsOn s i s' result) where
  abbrev e : PartyState
  e = state_with o.start.state (length s0.history) o.machine

  at_i : get_elem? s.states i ≡ some e
  at_i = lone_there s0 s i c o

  abbrev x : ℕ
  x = told s o.machine

  abbrev p : Party
  p = party_of e

  -- the step is that of this call
  entry_same : t.of.state ≡ e
  entry_same = some-injective _ _ (sym t.of.there ∙ at_i)

  pub turn_machine : t.of.machine ≡ o.machine
  turn_machine = lone_machine s0 s i c o t.of.state t.of.machine t.of.there t.of.flies

  is : s' ≡ stepped_index s i e o.machine s'.spare
  is = t.is ∙ (λ k. stepped_index s i (entry_same k) (turn_machine k) s'.spare)

  pub turn_told : result ≡ reply_of (running_turned o.machine x)
  turn_told = t.answers ∙ ap (λ (m : Running). reply_of (running_turned m (told s m))) turn_machine

  -- one of a get has changed no word
  same_words : IsGetCall c → KeepsWords s0 s'
  same_words get =
      ap (λ (v : Index). v.words) is
      ∙ get_keeps_words s i e o.machine s'.spare o.call.sound.here (call_is_get c o.machine get o.call.of o.count)
      ∙ o.reads get

  law : MachineLaw s i e o.machine
  law = machine_law s i e o.machine o.index at_i refl

  fewer : GoesBelow running_left (running_left o.machine) (running_turned o.machine x)
  fewer = subst (λ (m : Running). GoesBelow running_left (running_left m) (running_turned m (told s m))) turn_machine t.fewer

  goes : AfterCall (world s0) i (op_of c) (limit_of c) (world s) p o.machine (running_turned o.machine x)
  goes = lone_calls_go (world s0) i (op_of c) (limit_of c) (world s) p o.machine x o.call (rests s0 o.start.before o.start.still.calls) refl (bounded_small s o.index)

  -- the history after the step
  history_is : s'.history ≡ s.history ++ written e.caller e.index (counted (stage_of o.machine))
  history_is = ap (λ (v : Index). v.history) is

  entries_are : (turn : Turn Running (Once Placed)) → running_turned o.machine x ≡ turn → s'.states ≡ slice_set s0.states i (state_after e turn)
  entries_are turn turned =
      ap (λ (v : Index). v.states) is ∙ (λ k. set (o.states k) i (state_after e (turned k))) ∙ set_twice s0.states i e (state_after e turn)

  -- the world after a step that goes on
  world_is : (next : Running) → running_turned o.machine x ≡ Go next → world s' ≡ stepped (world s) i p (running_asks o.machine) (stage_of next)
  world_is next turned = ap world is ∙ (λ k. record {
    layout = s.layout;
    generation = s.generation;
    words = acted s.layout s.words (running_asks o.machine);
    parties = parties k;
    base = map_of s.base;
    history = s.history ++ written e.caller e.index (counted (stage_of o.machine));
  })
    where
      parties : map party_of (slice_set s.states i (state_after e (running_turned o.machine x))) ≡ slice_set (map party_of s.states) i (moved_on p (stage_of next))
      parties = (λ k. map party_of (slice_set s.states i (state_after e (turned k)))) ∙ map_set party_of s.states i (state_after e (Go next))

  -- the facts after the step, whatever it comes to
  facts_are : (next : Stage) → facts (world s') ≡ facts (stepped (world s) i p (running_asks o.machine) next)
  facts_are next = ap (λ (v : Index). facts (world v)) is

  same_generation : s'.generation ≡ s0.generation
  same_generation = ap (λ (v : Index). v.generation) is ∙ o.call.trying.start.generation

  same_layout : s'.layout ≡ s0.layout
  same_layout = ap (λ (v : Index). v.layout) is ∙ o.call.trying.start.layout

  same_stamps : stamp_in (world s') ≡ stamp_in (world s0)
  same_stamps = ap (λ (v : Index). stamp_in (world v)) is ∙ step_leaves_stamps s i e o.machine s'.spare o.index at_i refl ∙ o.stamps

  -- what the step makes of the log
  foot : FootStep s.layout s.generation e.caller (footing_of o.machine) (running_asks o.machine) x (footing_after (running_turned o.machine x)) (reply_of (running_turned o.machine x))
  foot = (step_facts s i e o.machine o.index at_i refl).foot

  line_at : get_elem? (layered s).whole.lines i ≡ some (footing_of o.machine).line
  line_at = map_there (λ (d : PartyState). (machine_footing d.machine).line) s.states i e at_i

  debt_at : get_elem? (layered s).whole.debts i ≡ some (footing_of o.machine).debt
  debt_at = map_there (λ (d : PartyState). (machine_footing d.machine).debt) s.states i e at_i

  log_on : (next : Running) → running_turned o.machine x ≡ Go next → LoneCall (world s0) i (op_of c) (limit_of c) (stepped (world s) i p (running_asks o.machine) (stage_of next)) (moved_on p (stage_of next)) next
      → LogStands o.start.state.caller (world s0) (world s') (footing_of next)
  log_on next turned call_on =
      let stage = footing_stage next in
      let step = subst (λ (t : Turn Running (Once Placed)). FootStep s.layout s.generation e.caller (footing_of o.machine) (running_asks o.machine) x (footing_after t) (reply_of t)) turned foot in
      let trying : Trying (name_asked (op_of c)) (change_of (op_of c)) (world s0) i (stepped (world s) i p (running_asks o.machine) (footing_of next).stage) (moved_on p (footing_of next).stage) =
      subst (λ (u : Stage). Trying (name_asked (op_of c)) (change_of (op_of c)) (world s0) i (stepped (world s) i p (running_asks o.machine) u) (moved_on p u)) (sym stage) call_on.trying in
      subst (λ (w : World). LogStands o.start.state.caller (world s0) w (footing_of next)) (sym (world_is next turned))
      (subst (λ (u : Stage). LogStands o.start.state.caller (world s0) (stepped (world s) i p (running_asks o.machine) u) (footing_of next)) stage
      (log_goes (name_asked (op_of c)) (change_of (op_of c)) (world s0) (layered s) i p (footing_of o.machine) (footing_of next) (running_asks o.machine) x o.index.layered o.call.trying trying line_at debt_at
      (o.call.stage ∙ sym (footing_stage o.machine)) o.log step refl (calls_are_in_step next)))

  -- and of the nodes
  nodes_are : NodesStand (world s0) (world s) p.stage
  nodes_are = subst (NodesStand (world s0) (world s)) (sym o.call.stage) o.nodes

  nodes_on : (next : Running) → running_turned o.machine x ≡ Go next → NodesStand (world s0) (world s') (stage_of next)
  nodes_on next turned =
      let step = subst (λ (t : Turn Running (Once Placed)). FootStep s.layout s.generation e.caller (footing_of o.machine) (running_asks o.machine) x (footing_after t) (reply_of t)) turned foot in
      subst (λ (w : World). NodesStand (world s0) w (stage_of next)) (sym (world_is next turned))
      (subst (λ (u : Stage). NodesStand (world s0) (stepped (world s) i p (running_asks o.machine) u) u) (footing_stage next)
      (nodes_go (name_asked (op_of c)) (change_of (op_of c)) (world s0) (layered s).whole i p (footing_of o.machine) (footing_of next) (running_asks o.machine) x o.index.layered.whole o.call.trying line_at debt_at
      (o.call.stage ∙ sym (footing_stage o.machine)) nodes_are step refl (bounded_small s o.index)))

  pub lone_goes : result ≡ None → Lone s0 s' i c × (suc (left_at s' i) ≤ left_at s i)
  lone_goes going =
      let go = go_of (running_turned o.machine x) (sym turn_told ∙ going) in
      let next = go.0 in
      let states = entries_are (Go next) go.1 in
      let there = ap (λ (l : List PartyState). get_elem? l i) states ∙ set_here s0.states i (state_with o.start.state (length s0.history) next) o.start.state o.start.there in
      let less : running_left next < running_left o.machine = subst (GoesBelow running_left (running_left o.machine)) go.1 fewer in
      let was : left_at s i ≡ suc (running_left o.machine) = ap left_in at_i in
      let now : left_at s' i ≡ suc (running_left next) = ap left_in there in
      let before = o.room in
      let call_on : LoneCall (world s0) i (op_of c) (limit_of c) (stepped (world s) i p (running_asks o.machine) (stage_of next)) (moved_on p (stage_of next)) next =
      subst (AfterCall (world s0) i (op_of c) (limit_of c) (world s) p o.machine) go.1 goes in
      let sum : weight_sum (world s') ≡ weight_sum (world (stepped_index s i e o.machine s.spare)) = ap (λ (v : Index). weight_sum (world v)) is in
      let rises : weight_sum (world (stepped_index s i e o.machine s.spare)) + showing (Some o.machine) ≤ weight_sum (world s) + showing (Some next) =
      subst (λ (turn : Turn Running (Once Placed)). weight_sum (world (stepped_index s i e o.machine s.spare)) + showing (Some o.machine) ≤ weight_sum (world s) + showing_after (op_in o.machine) turn) go.1 law.weighs in
      let weight = o.weighs in (
        record {
          start = o.start;
          machine = next;
          states = states;
          index = t.index;
          call = subst (λ (w : World). LoneCall (world s0) i (op_of c) (limit_of c) w (moved_on p (stage_of next)) next) (sym (world_is next go.1)) call_on;
          count = count_stays o.machine next x go.1 ∙ o.count;
          log = log_on next go.1 call_on;
          nodes = nodes_on next go.1;
          same_base = ap (λ (v : Index). v.base) is ∙ o.same_base;
          reads = same_words;
          stamps = same_stamps;
          weighs = omega arith;
          room = omega (arith, t.room);
        },
        omega (arith, less, was, now),
      )
    where
      left_in : mathlib.Core.Option.Option PartyState → ℕ
      left_in found = elim found [ none ↦ 0 | some state ↦ left_of state.machine ]

  -- a turn that goes on costs one action at least
  pub lone_costs : result ≡ None → cost_at s' i + 1 ≤ cost_at s i
  lone_costs going =
      let go = go_of (running_turned o.machine x) (sym turn_told ∙ going) in
      let next = go.0 in
      let there = ap (λ (l : List PartyState). get_elem? l i) (entries_are (Go next) go.1) ∙ set_here s0.states i (state_with o.start.state (length s0.history) next) o.start.state o.start.there in
      let less : running_left next < running_left o.machine = subst (GoesBelow running_left (running_left o.machine)) go.1 fewer in
      let was : cost_at s i ≡ running_left o.machine + spared o.machine = ap cost_in at_i in
      let now : cost_at s' i ≡ running_left next + spared next = ap cost_in there in
      let more = turns_spare o.machine next x o.call.sound.here go.1 less in
      omega (arith, was, now, more)

  pub lone_done : (answer : Once Placed) → result ≡ Some answer → running_turned o.machine x ≡ Done answer
  lone_done answer answered = done_of (running_turned o.machine x) answer (sym turn_told ∙ answered)

  -- no call is in flight then, and the turns of the updater are as they were
  pub lone_none : (answer : Once Placed) → result ≡ Some answer → HasNoCalls s'
  lone_none answer answered = none_then s0 s' i o.start.state (state_after e (Done answer)) o.start.there (entries_are (Done answer) (lone_done answer answered)) refl refl refl o.start.still.calls

  pub lone_quiet : (answer : Once Placed) → result ≡ Some answer → IsQuiet s0 → IsQuiet s'
  lone_quiet answer answered = quiet_then s0 s' i o.start.state (state_after e (Done answer)) o.start.there (entries_are (Done answer) (lone_done answer answered)) refl refl refl

  pub lone_still : (answer : Once Placed) → result ≡ Some answer → (party : ℕ) → IsStill party s0 → IsStill party s'
  lone_still answer answered = still_then s0 s' i o.start.state (state_after e (Done answer)) o.start.there (entries_are (Done answer) (lone_done answer answered)) refl refl refl

  -- how it ends
  module _ (answer : Once Placed) (answered : result ≡ Some answer) where
    done : running_turned o.machine x ≡ Done answer
    done = done_of (running_turned o.machine x) answer (sym turn_told ∙ answered)

    ended : IsAnswered (world s0) (op_of c) (limit_of c) (stepped (world s) i p (running_asks o.machine) Idle) p answer
    ended = (subst (AfterCall (world s0) i (op_of c) (limit_of c) (world s) p o.machine) done goes).1

    -- with the parties as they are then
    shape_of_party : LeavesShape (world s0) (op_of c) (stepped (world s) i p (running_asks o.machine) Idle) → LeavesShape (world s0) (op_of c) (world (stepped_index s i e o.machine s'.spare))
    shape_of_party = ⊎_elim
        (λ (none : (FindsMerge (world s0) (op_of c) → ⊥) × HasKeptList (world s0) (stepped (world s) i p (running_asks o.machine) Idle)). inl none)
        (λ (merge : FindsMerge (world s0) (op_of c) × IsMergedSince (name_asked (op_of c)) (world s0) (stepped (world s) i p (running_asks o.machine) Idle)). inr (merge.0, merge_with_parties merge.1))

    of_party : (r : Once Placed) → IsAnswered (world s0) (op_of c) (limit_of c) (stepped (world s) i p (running_asks o.machine) Idle) p r
        → IsAnswered (world s0) (op_of c) (limit_of c) (world (stepped_index s i e o.machine s'.spare)) (party_of o.start.state) r
    of_party (once.Worn node word) end = end
    of_party (once.Spent clock) end = end
    of_party (once.Done placed) (causes, old, place, hops, same, shape) = (causes, old, place, hops, same, shape_of_party shape)
    of_party (once.Again again.NoFree) end = end
    of_party (once.Again (again.NeedsSplit n)) (unworn, below, full, has, free, same, halved, most) = (unworn, below, full, has, free, same, halved, most)
    of_party (once.Again (again.Locked n word)) end = absurd end
    of_party (once.Again (again.Moved n first second)) end = absurd end
    of_party (once.Again (again.Hops count)) end = absurd end
    of_party (once.Again again.LogFull) end = end
    of_party (once.Again (again.Held word)) end = absurd end
    of_party (once.Again (again.Epoch first second)) end = absurd end

    -- what it leaves of the log
    ended_log : KeepsLayer (world s0) (stepped (world s) i p (running_asks o.machine) Idle) × LeavesLines (name_asked (op_of c)) o.start.state.caller (world s0) (stepped (world s) i p (running_asks o.machine) Idle) answer
    ended_log =
        log_ends (name_asked (op_of c)) (change_of (op_of c)) (world s0) (layered s) i p (footing_of o.machine) no_debt (running_asks o.machine) x answer o.index.layered o.call.trying line_at
        (o.call.stage ∙ sym (footing_stage o.machine)) o.log
        (subst (λ (t : Turn Running (Once Placed)). FootStep s.layout s.generation e.caller (footing_of o.machine) (running_asks o.machine) x (footing_after t) (reply_of t)) done foot)
        (subst (AfterCall (world s0) i (op_of c) (limit_of c) (world s) p o.machine) done goes).3

    lines_of_party : (r : Once Placed) → LeavesLines (name_asked (op_of c)) o.start.state.caller (world s0) (stepped (world s) i p (running_asks o.machine) Idle) r
        → LeavesLines (name_asked (op_of c)) o.start.state.caller (world s0) (world (stepped_index s i e o.machine s'.spare)) r
    lines_of_party (once.Worn node word) lines = lines
    lines_of_party (once.Spent clock) lines = lines
    lines_of_party (once.Done placed) lines = ⊎_elim
        (λ (kept : HasKeptList (world s0) (stepped (world s) i p (running_asks o.machine) Idle) × KeepsLines (world s0) (stepped (world s) i p (running_asks o.machine) Idle)). inl kept)
        (λ (made : IsMergedSince (name_asked (op_of c)) (world s0) (stepped (world s) i p (running_asks o.machine) Idle) × MakesReady o.start.state.caller (world s0) (stepped (world s) i p (running_asks o.machine) Idle)).
        inr (merge_with_parties made.0, ready_with_parties made.1))
        lines
    lines_of_party (once.Again (again.NeedsSplit n)) made = ready_with_parties made
    lines_of_party (once.Again again.NoFree) lines = lines
    lines_of_party (once.Again (again.Locked n word)) lines = lines
    lines_of_party (once.Again (again.Moved n first second)) lines = lines
    lines_of_party (once.Again (again.Hops count)) lines = lines
    lines_of_party (once.Again again.LogFull) lines = lines
    lines_of_party (once.Again (again.Held word)) lines = lines
    lines_of_party (once.Again (again.Epoch first second)) lines = lines

    -- and of the ways
    ended_nodes : StayGone (nodes_of (world s0)) (nodes_of (stepped (world s) i p (running_asks o.machine) Idle))
        × (has_merged p.stage ≡ true → (has_retired p.stage ≡ true) × HasLeftOut (world s0) (stepped (world s) i p (running_asks o.machine) Idle) p.stage)
    ended_nodes =
        nodes_end (name_asked (op_of c)) (change_of (op_of c)) (world s0) (layered s).whole i p (footing_of o.machine) no_debt (running_asks o.machine) x answer o.index.layered.whole o.call.trying
        (o.call.stage ∙ sym (footing_stage o.machine)) nodes_are
        (subst (λ (t : Turn Running (Once Placed)). FootStep s.layout s.generation e.caller (footing_of o.machine) (running_asks o.machine) x (footing_after t) (reply_of t)) done foot)
        refl (bounded_small s o.index)

    ended_ways : LengthenWithin (world s0) (stepped (world s) i p (running_asks o.machine) Idle)
    ended_ways =
        tries_lengthen (name_asked (op_of c)) (change_of (op_of c)) (world s0) (stepped (world s) i p (running_asks o.machine) Idle) p.stage o.start.state.caller answer
        o.call.trying.start.layout o.call.trying.start.generation (walks_come s0 o.start.before o.start.still.calls).quiet
        (subst (λ (v : Index). AreQuiet v.layout v.generation (nodes_of (world v))) is (walks_come s' t.index (lone_none answer answered)).quiet)
        ended_nodes.0 ended_nodes.1 (subst (AfterCall (world s0) i (op_of c) (limit_of c) (world s) p o.machine) done goes).3 ended_log.1

    weighs : weight_of s' ≤ weight_of s0 + added_by (op_of c) answer
    weighs =
        let op_same : op_in o.machine ≡ op_of c = op_told (op_of c) o.machine o.call.of in
        let sum : weight_sum (world s') ≡ weight_sum (world (stepped_index s i e o.machine s.spare)) = ap (λ (v : Index). weight_sum (world v)) is in
        let rises : weight_sum (world (stepped_index s i e o.machine s.spare)) + showing (Some o.machine) ≤ weight_sum (world s) + added_by (op_in o.machine) answer =
        subst (λ (turn : Turn Running (Once Placed)). weight_sum (world (stepped_index s i e o.machine s.spare)) + showing (Some o.machine) ≤ weight_sum (world s) + showing_after (op_in o.machine) turn) done law.weighs in
        let added : added_by (op_in o.machine) answer ≡ added_by (op_of c) answer = ap (λ (op : NameOp). added_by op answer) op_same in
        let before = o.weighs in
        let after = none_weigh s' (lone_none answer answered) in
        omega arith

    pub lone_tries : TriesAlone s0 i c s' answer
    lone_tries = record {
      state = o.start.state;
      there = o.start.there;
      named = o.start.named;
      answered = subst (λ (w : World). IsAnswered (world s0) (op_of c) (limit_of c) w (party_of o.start.state) answer) (sym (ap world is)) (of_party answer ended);
      states = entries_are (Done answer) done;
      layout = same_layout;
      generation = same_generation;
      base = ap (λ (v : Index). v.base) is ∙ o.same_base;
      reads = same_words;
      stamps = same_stamps;
      layer = subst (KeepsLayer (world s0)) (sym (ap world is)) ended_log.0;
      lines = subst (λ (w : World). LeavesLines (name_asked (op_of c)) o.start.state.caller (world s0) w answer) (sym (ap world is)) (lines_of_party answer ended_log.1);
      ways = subst (LengthenWithin (world s0)) (sym (ap world is)) ended_ways;
      weighs = weighs;
    }

  -- each node has lost one lock at most
  locks_after : (answer : Once Placed) → result ≡ Some answer → LosesLocks (world s0) (world s')
  locks_after answer answered =
      subst (λ (f : Facts). (m : ℕ) → locks_of s0.generation ((facts (world s0)).version m) ≤ locks_of s0.generation (f.version m) + 1) (sym (facts_are Idle))
      (subst (AfterCall (world s0) i (op_of c) (limit_of c) (world s) p o.machine) (done answer answered) goes).2

  pub lone_locks : (answer : Once Placed) → result ≡ Some answer → locks_left s0 ≤ locks_left s' + 1
  lone_locks answer answered = loses_fewest s0 s' same_layout same_generation (locks_after answer answered)

  pub lone_each : (answer : Once Placed) → result ≡ Some answer → LoseAtMost 1 s0 s'
  lone_each answer answered = loses_each s0 s' same_generation (locks_after answer answered)

-- what a try leaves spare
pub spare_left : (s0 s s' : Index) (i : ℕ) (c : CoreCall) → Lone s0 s i c → room_of s ≤ room_of s' → HasNoCalls s' → s0.spare + length s0.history ≤ s'.spare + length s'.history
spare_left s0 s s' i c o room idle =
    let before = o.room in
    let none = quiet-owed s'.states idle in
    omega arith
