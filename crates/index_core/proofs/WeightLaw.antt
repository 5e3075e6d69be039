-- What an index weighs along a schedule.
use Rattle.std.proofs.Common.{true, false, ◌≡◌, ℕ, zero, suc, ◌+◌, ◌≤◌, ⊎_elim, List, [], ◌∷◌, length, set, refl, sym}
use Rattle.std.proofs.Common.{ap, ◌∙◌, subst, arith}
use Rattle.std.specs.Prelude.{Option, Some, None, IfSome}
use Rattle.std.specs.List.{sum_by}
use Rattle.std.proofs.lemmas.List.Sums.{sum_by-cons, sum_by_push}
use mathlib.Core.Option.{some, some-injective, some-ne-none}
use lib.ListN.{get_elem?}
use Rattle.pm_words.specs.declared.machine.Turn.{Turn}
use Rattle.pm_words.specs.declared.machine.Turn.TheVariants.{Done}
use Rattle.pm_words.specs.declared.layout.Layout.{Layout}
use Rattle.cat_history.specs.Records.{change_of}
use Rattle.cat_history.specs.declared.op.Change.TheVariants as change
use Rattle.cat_history.specs.declared.op.NameOp.{NameOp}
use Rattle.cat_history.specs.declared.op.NameOp.TheVariants as op
use Rattle.call_stages.specs.declared.once.Once.{Once}
use Rattle.call_stages.specs.declared.once.Once.TheVariants as once
use Rattle.call_stages.specs.declared.once.Placed.{Placed}
use Rattle.call_stages.specs.Stages.{Stage, Idle, Holds, pending_in}
use Rattle.node_ops.specs.declared.running.Running.{Running}
use Rattle.node_ops.specs.Asked.{IsOf, IsOfAfter, op_in}
use Rattle.node_ops.specs.RunningSteps.{running_asks, running_turned}
use Rattle.node_ops.specs.CallStages.{stage_of, stage_after, reply_of}
use Rattle.node_ops.proofs.OpLaw.{op_told, pends_own_change}
use Rattle.index_law.specs.Worlds.{Party}
use Rattle.index_law.specs.Weights.{AddsName, weight_sum}
use Rattle.index_law.proofs.Weights.{swap_weighs, evict_weighs}
use Rattle.index_core.specs.declared.party.CoreCall.{CoreCall}
use Rattle.index_core.specs.declared.party.PartyState.{PartyState}
use Rattle.index_core.specs.declared.party.Rechecking.{Rechecking}
use Rattle.node_ops.specs.declared.recheck.Recheck.TheVariants.{Dating}
use Rattle.node_ops.specs.RecheckSteps.{recheck_turned}
use Rattle.index_image_law.specs.index_layer_law.specs.Layers.{Layered}
use Rattle.index_core.specs.Rechecks.{recheck_told}
use Rattle.index_core.proofs.RecheckReading.{unchecked_layered}
use Rattle.index_core.specs.declared.party.Whole.{Whole}
use Rattle.index_core.specs.declared.party.Whole.TheVariants as whole
use Rattle.index_core.specs.CoreCalls.{op_of, machine_of}
use Rattle.index_core.specs.PartyStates.{machine_stage, party_of, state_with, state_after, index_after, next_index}
use Rattle.index_core.specs.PartyStates.{answer_in, listed_by, recheck_after, turn_after}
use Rattle.index_core.specs.Indexes.{Index, IsIndex, world, view_of, told}
use Rattle.index_core.specs.Lone.{HasNoCalls, IsQuiet, state_done}
use Rattle.index_core.specs.Schedules.{BegunCall, AnsweredCall, begun_call, flying_call, once_of, listed_of, Runs}
use Rattle.index_core.specs.Schedules.{begins, starts, goes_on, answers, alone, evicts, reserves, begins_recheck}
use Rattle.index_core.specs.Schedules.{steps_recheck, begins_turn, steps_turn, turns_alone}
use Rattle.index_core.specs.Weights.{weight_of, put_count, added_if, added_by, added_whole, put_in}
use Rattle.index_core.specs.WeightBounds.{names_added, puts_in_flight, WeightIsBounded}
use Rattle.index_core.proofs.Crashing.{crash_light}
use Rattle.index_core.proofs.MachineLaw.{none_weigh}
use Rattle.index_core.proofs.Quiet.{none_then}
use Rattle.index_core.proofs.Told.{go_of, done_of}
use Rattle.updater.specs.declared.making.MakeTurn.{MakeTurn}
use Rattle.updater.specs.Makings.{making_from, making_turned}
use Rattle.index_core.specs.Turns.{turn_told}
use Rattle.index_core.proofs.Turning.{parties_same, turns_keep}
use Rattle.index_core.proofs.Lists.{map_there, map_set}
use Rattle.index_core.proofs.OneHistory.{none_flies}
use Rattle.index_core.specs.MachineLaws.{shows}
use Rattle.index_core.proofs.Shown.{new_if, told_new, shows_few, step_shows, adds_shows}
use Rattle.index_core.proofs.Stepping.{machine_idle, respare}

-- sums of which one part is another
sum_set : {A : Type 0} (f : A → ℕ) (l : List A) (i : ℕ) (was now : A) → get_elem? l i ≡ some was → sum_by f (set l i now) + f was ≡ sum_by f l + f now
sum_set f [] i was now there = absurd (some-ne-none was (sym there))
sum_set f (x ∷ xs) zero was now there =
    let first : f x ≡ f was = ap f (some-injective x was there) in
    let before = sum_by-cons f x xs in
    let after = sum_by-cons f now xs in
    omega arith
sum_set f (x ∷ xs) (suc i) was now there =
    let rest = sum_set f xs i was now there in
    let before = sum_by-cons f x xs in
    let after = sum_by-cons f x (set xs i now) in
    omega arith

-- and sums of greater parts
sum_more : {A : Type 0} (f g : A → ℕ) → ((a : A) → f a ≤ g a) → (l : List A) → sum_by f l ≤ sum_by g l
sum_more f g more [] = omega arith
sum_more f g more (x ∷ xs) =
    let first = more x in
    let rest = sum_more f g more xs in
    let fewer = sum_by-cons f x xs in
    let most = sum_by-cons g x xs in
    omega arith

-- one for a put that shows a name that wasn't there, or has counted it
abbrev showing_of : NameOp → ℕ → ℕ
showing_of (op.Put name value) shown = shown
showing_of (op.Get name) shown = 0
showing_of (op.Del name) shown = 0

abbrev showing : Option Running → ℕ
showing None = 0
showing (Some machine) = showing_of (op_in machine) (shows (stage_of machine))

abbrev showing_sum : List PartyState → ℕ
showing_sum states = sum_by (λ state. showing state.machine) states

showing_up : (asked : NameOp) (few many : ℕ) → few ≤ many → showing_of asked few ≤ showing_of asked many
showing_up (op.Put name value) few many more = more
showing_up (op.Get name) few many more = omega arith
showing_up (op.Del name) few many more = omega arith

showing_none : (asked : NameOp) → showing_of asked 0 ≡ 0
showing_none (op.Put name value) = refl
showing_none (op.Get name) = refl
showing_none (op.Del name) = refl

-- only a put has a put pending
showing_put : (asked : NameOp) (name : List ℕ) (value shown : ℕ) → change_of asked ≡ Some (change.Put name value) → showing_of asked shown ≡ shown
showing_put (op.Put key number) name value shown is = refl
showing_put (op.Get key) name value shown is = absurd cc
showing_put (op.Del key) name value shown is = absurd cc

-- one that isn't a put adds no name
adds_none : (asked : NameOp) (old : Option ℕ) → put_count asked ≡ 0 → 0 ≡ added_if asked old
adds_none asked None puts = sym puts
adds_none asked (Some old) puts = refl

-- what an answer tells of such a put
told_added : (asked : NameOp) (answer : Once Placed) → showing_of asked (told_new (Some answer)) ≡ added_by asked answer
told_added (op.Put name value) (once.Done placed) = at placed.old
  where
    at : (old : Option ℕ) → new_if old ≡ added_if (op.Put name value) old
    at None = refl
    at (Some old) = refl
told_added (op.Put name value) (once.Spent clock) = refl
told_added (op.Put name value) (once.Worn node word) = refl
told_added (op.Put name value) (once.Again why) = refl
told_added (op.Get name) (once.Done placed) = adds_none (op.Get name) placed.old refl
told_added (op.Get name) (once.Spent clock) = refl
told_added (op.Get name) (once.Worn node word) = refl
told_added (op.Get name) (once.Again why) = refl
told_added (op.Del name) (once.Done placed) = adds_none (op.Del name) placed.old refl
told_added (op.Del name) (once.Spent clock) = refl
told_added (op.Del name) (once.Worn node word) = refl
told_added (op.Del name) (once.Again why) = refl

showing_puts : (state : PartyState) → showing state.machine ≤ put_in state.machine
showing_puts state = at state.machine
  where
    by_op : (asked : NameOp) (shown : ℕ) → shown ≤ 1 → showing_of asked shown ≤ put_count asked
    by_op (op.Put name value) shown few = few
    by_op (op.Get name) shown few = omega arith
    by_op (op.Del name) shown few = omega arith

    at : (machine : Option Running) → showing machine ≤ put_in machine
    at None = omega arith
    at (Some machine) = by_op (op_in machine) (shows (stage_of machine)) (shows_few (stage_of machine))

-- a store that adds a name leads to a put that shows it, from one that didn't
adds_put : (l : Layout) (m next : Running) → IsOf (op_in next) next → op_in next ≡ op_in m → AddsName l (stage_of m) (running_asks m) (stage_of next) → (showing (Some m) ≡ 0) × (showing (Some next) ≡ 1)
adds_put l m next of same adds =
    let shown = adds_shows l (stage_of m) (running_asks m) (stage_of next) adds in
    let pending : pending_in (stage_of next) ≡ Some (change.Put adds.name adds.value) = ap pending_in adds.is ∙ adds.shows in
    let own = pends_own_change (op_in next) next (change.Put adds.name adds.value) of pending in (
      ap (showing_of (op_in m)) shown.0 ∙ showing_none (op_in m),
      showing_put (op_in next) adds.name adds.value (shows (stage_of next)) own.0 ∙ shown.1,
    )

-- who is idle adds no name
idle_adds : (l : Layout) (s : Stage) (m : Running) → AddsName l s (running_asks m) Idle → ⊥
idle_adds l s m adds = let both : Idle ≡ Holds adds.node adds.lock adds.after = adds.is in absurd cc

abbrev bound : Index → List AnsweredCall → Index → ℕ
bound first calls s = weight_of first + (names_added calls + showing_sum s.states)

-- along a schedule the sum stays within the bound
record Weighs (first : Index) (calls : List AnsweredCall) (s : Index) : Type 0 where
  pub index : IsIndex s
  pub sum : weight_sum (world s) ≤ bound first calls s

-- a whole call adds no more than is counted
counts_added : (asked : NameOp) (result : Whole) → added_whole asked result ≤ added_by asked (once_of result)
counts_added asked (whole.Placed placed) = omega arith
counts_added asked (whole.Part words) = omega arith
counts_added asked (whole.Same place) = omega arith
counts_added asked (whole.Turned turned) = omega arith
counts_added asked whole.Full = omega arith
counts_added asked (whole.Spent clock) = omega arith
counts_added asked (whole.Worn node word) = omega arith

-- a turn or a recheck shows no name
turned_shows : (states : List PartyState) (i : ℕ) (e : PartyState) (t : Option MakeTurn) (r : Option Rechecking) → get_elem? states i ≡ some e → showing_sum (set states i (record e { turn = t; recheck = r })) ≡ showing_sum states
turned_shows states i e t r there =
    let sums = sum_set (λ (d : PartyState). showing d.machine) states i e (record e { turn = t; recheck = r }) there in
    omega arith

quiet_shows : (states : List PartyState) → ((i : ℕ) (state : PartyState) → get_elem? states i ≡ some state → state.machine ≡ None) → showing_sum states ≡ 0
quiet_shows [] quiet = refl
quiet_shows (state ∷ states) quiet =
    let first : showing state.machine ≡ 0 = ap showing (quiet 0 state refl) in
    let rest = quiet_shows states (λ i e at. quiet (suc i) e at) in
    let whole = sum_by-cons (λ (e : PartyState). showing e.machine) state states in
    omega arith

-- a call that begins shows nothing
start_weighs : (s : Index) (i : ℕ) (state : PartyState) (c : CoreCall) → get_elem? s.states i ≡ some state → state.machine ≡ None
    → (weight_sum (world (record s { states = set s.states i (state_with state (length s.history) (machine_of (view_of s i) c)) })) ≡ weight_sum (world s))
    × (showing_sum (set s.states i (state_with state (length s.history) (machine_of (view_of s i) c))) ≡ showing_sum s.states)
start_weighs s i state c there idle =
    let m = machine_of (view_of s i) c in
    let now = state_with state (length s.history) m in
    let w = world s in
    let sums = sum_set (λ (e : PartyState). showing e.machine) s.states i state now there in
    let was : showing state.machine ≡ 0 = ap showing idle in
    let begins : showing (Some m) ≡ 0 = ap (λ (u : Stage). showing_of (op_in m) (shows u)) (machine_idle s i c) ∙ showing_none (op_in m) in (
      ap (λ (parties : List Party). weight_sum (record w { parties = parties })) (map_set party_of s.states i now)
          ∙ swap_weighs w i (party_of state) (party_of now) (map_there party_of s.states i state there) (ap machine_stage idle) (machine_idle s i c),
      omega arith,
    )

module _ (first : Index) (quiet : IsQuiet first) (index : IsIndex first) where
  weighs : {begun : List BegunCall} {calls : List AnsweredCall} {s : Index} → Runs first begun calls s → Weighs first calls s
  weighs begins = record { index = index; sum = let same = none_weigh first quiet.calls in omega arith }
  weighs (starts {calls = calls} {old = old} {new = new} {party = party} {call = c} run none t is) =
      let before = weighs run in
      let sum = before.sum in
      let same = start_weighs old party t.state c t.there (none_flies old party t.state none t.there) in
      let now : weight_sum (world new) ≡ weight_sum (world old) = ap (λ (v : Index). weight_sum (world v)) t.is ∙ same.0 in
      let shown : showing_sum new.states ≡ showing_sum old.states = ap (λ (v : Index). showing_sum v.states) t.is ∙ same.1 in
      record { index = is; sum = omega arith }
  weighs (goes_on {calls = calls} {old = old} {new = new} {party = party} run step is) =
      let t = step.turned in
      let before = weighs run in
      let sum = before.sum in
      let m = t.machine in
      let go = go_of (running_turned m (told old m)) (sym t.answers) in
      let next = go.0 in
      let of : IsOf (op_in m) m = subst (λ (o : Option Running). IfSome o (λ q. IsOf (op_in q) q)) t.flies (before.index.states party t.state t.there).op in
      let of_next : IsOf (op_in m) next = subst (IsOfAfter (op_in m)) go.1 (t.turn.keeps_op (op_in m) of) in
      let same_op : op_in next ≡ op_in m = op_told (op_in m) next of_next in
      let state' : PartyState = record t.state { machine = Some next } in
      let states : new.states ≡ set old.states party state' = ap (λ (v : Index). v.states) t.is ∙ ap (λ (turn : Turn Running (Once Placed)). set old.states party (state_after t.state turn)) go.1 in
      let sums = sum_set (λ (e : PartyState). showing e.machine) old.states party t.state state' t.there in
      let was : showing t.state.machine ≡ showing (Some m) = ap showing t.flies in
      let now : showing_sum new.states ≡ showing_sum (set old.states party state') = ap showing_sum states in
      let more : shows (stage_of m) ≤ shows (stage_of next) + 0 = subst (λ (turn : Turn Running (Once Placed)). shows (stage_of m) ≤ shows (stage_after turn) + told_new (reply_of turn)) go.1 (step_shows t.turn.kind) in
      let up : showing (Some m) ≤ showing (Some next) =
      subst (λ (asked : NameOp). showing_of (op_in m) (shows (stage_of m)) ≤ showing_of asked (shows (stage_of next))) (sym same_op) (showing_up (op_in m) (shows (stage_of m)) (shows (stage_of next)) (omega arith)) in
      record {
        index = is;
        sum = ⊎_elim
            (λ (less : weight_sum (world new) ≤ weight_sum (world old)). omega arith)
            (λ (adds : AddsName old.layout (stage_of m) (running_asks m) (stage_after (running_turned m (told old m))) × (weight_sum (world new) ≤ weight_sum (world old) + 1)).
            let one = adds_put old.layout m next (subst (λ (asked : NameOp). IsOf asked next) (sym same_op) of_next) same_op (subst (λ (turn : Turn Running (Once Placed)). AddsName old.layout (stage_of m) (running_asks m) (stage_after turn)) go.1 adds.0) in
            let zero_before = one.0 in
            let one_after = one.1 in
            let most = adds.1 in
            omega arith)
            t.turn.weighs;
      }
  weighs (answers {calls = calls} {old = old} {new = new} {party = party} {reply = reply} run step is) =
      let t = step.turned in
      let answer = answer_in reply in
      let before = weighs run in
      let sum = before.sum in
      let m = t.machine in
      let done = done_of (running_turned m (told old m)) answer (sym t.answers) in
      let states = ap (λ (v : Index). v.states) t.is in
      let state' = state_after t.state (Done answer) in
      let now : showing_sum new.states ≡ showing_sum (set old.states party state') = ap showing_sum (states ∙ ap (λ (turn : Turn Running (Once Placed)). set old.states party (state_after t.state turn)) done) in
      let sums = sum_set (λ (e : PartyState). showing e.machine) old.states party t.state state' t.there in
      let was : showing t.state.machine ≡ showing (Some m) = ap showing t.flies in
      let told_it : shows (stage_of m) ≤ 0 + told_new (Some answer) = subst (λ (turn : Turn Running (Once Placed)). shows (stage_of m) ≤ shows (stage_after turn) + told_new (reply_of turn)) done (step_shows t.turn.kind) in
      let up : showing (Some m) ≤ showing_of (op_in m) (told_new (Some answer)) = showing_up (op_in m) (shows (stage_of m)) (told_new (Some answer)) (omega arith) in
      let added = told_added (op_in m) answer in
      let call : AnsweredCall = record { call = flying_call t.state m; until = length new.history; answer = answer; part = listed_by reply; whole = false; next = index_after t.state.index answer } in
      let longer = sum_by_push (λ (d : AnsweredCall). added_by d.call.op d.answer) calls call in
      record {
        index = is;
        sum = ⊎_elim
            (λ (less : weight_sum (world new) ≤ weight_sum (world old)). omega arith)
            (λ (adds : AddsName old.layout (stage_of m) (running_asks m) (stage_after (running_turned m (told old m))) × (weight_sum (world new) ≤ weight_sum (world old) + 1)).
            absurd (idle_adds old.layout (stage_of m) m (subst (λ (turn : Turn Running (Once Placed)). AddsName old.layout (stage_of m) (running_asks m) (stage_after turn)) done adds.0)))
            t.turn.weighs;
      }
  weighs (alone {calls = calls} {old = old} {new = new} {caller = caller} {call = c} {result = result} run free r is) =
      let before = weighs run in
      let sum = before.sum in
      let free_new : HasNoCalls new = none_then old new caller r.state (state_done r.state (length old.history)) r.there r.states refl refl refl free in
      let more : weight_sum (world new) ≤ weight_sum (world old) + added_whole (op_of c) result =
      subst (λ (q : ℕ × ℕ). q.0 ≤ q.1 + added_whole (op_of c) result) (λ k. (sym (none_weigh new free_new) k, sym (none_weigh old free) k)) r.weighs in
      let none = quiet_shows old.states free in
      let within = counts_added (op_of c) result in
      let call : AnsweredCall = record { call = begun_call r.state (length old.history) c; until = length new.history; answer = once_of result; part = listed_of result; whole = true; next = next_index r.state.index } in
      let longer = sum_by_push (λ (d : AnsweredCall). added_by d.call.op d.answer) calls call in
      record { index = is; sum = omega arith }
  weighs (evicts {calls = calls} {old = old} {new = new} {word = word} run within e is) =
      let before = weighs run in
      let sum = before.sum in
      let same : weight_sum (world new) ≡ weight_sum (world old) = ap (λ (v : Index). weight_sum (world v)) e ∙ evict_weighs (world old) word in
      let shown : showing_sum new.states ≡ showing_sum old.states = ap (λ (v : Index). showing_sum v.states) e in
      record { index = is; sum = omega arith }
  weighs (reserves {calls = calls} {old = old} {new = new} run e) =
      let before = weighs run in
      record {
        index = subst IsIndex (sym e) (respare old new.spare before.index);
        sum = subst (λ (v : Index). weight_sum (world v) ≤ bound first calls v) (sym e) before.sum;
      }
  weighs (begins_recheck {calls = calls} {old = old} {new = new} {party = party} {node = node} {version = version} run idle t is) =
      let before = weighs run in
      let sum = before.sum in
      let r : Option Rechecking = Some (record { since = length old.history; machine = Dating (view_of old party) node version }) in
      let same : weight_sum (world new) ≡ weight_sum (world old) = ap (λ (v : Index). weight_sum (world v)) t.is ∙ sym (ap (λ (z : Layered). weight_sum z.whole.world) (unchecked_layered old party t.state r t.there)) in
      let shown : showing_sum new.states ≡ showing_sum old.states = ap (λ (v : Index). showing_sum v.states) t.is ∙ turned_shows old.states party t.state t.state.turn r t.there in
      record { index = is; sum = omega arith }
  weighs (steps_recheck {calls = calls} {old = old} {new = new} {party = party} run t is) =
      let before = weighs run in
      let sum = before.sum in
      let r : Option Rechecking = recheck_after t.rechecking.since (recheck_turned t.rechecking.machine (recheck_told old t.rechecking.machine)) in
      let same : weight_sum (world new) ≡ weight_sum (world old) = ap (λ (v : Index). weight_sum (world v)) t.is ∙ sym (ap (λ (z : Layered). weight_sum z.whole.world) (unchecked_layered old party t.state r t.there)) in
      let shown : showing_sum new.states ≡ showing_sum old.states = ap (λ (v : Index). showing_sum v.states) t.is ∙ turned_shows old.states party t.state t.state.turn r t.there in
      record { index = is; sum = omega arith }
  weighs (begins_turn {calls = calls} {old = old} {new = new} {party = party} {stamp = stamp} {release = release} run idle t is) =
      let before = weighs run in
      let sum = before.sum in
      let turn = Some (making_from old.layout old.generation stamp release) in
      let same : weight_sum (world new) ≡ weight_sum (world old) =
      ap (λ (v : Index). weight_sum (world v)) t.is ∙ ap (λ (ps : List Party). weight_sum (record (world old) { parties = ps })) (parties_same old party t.state turn t.there) in
      let shown : showing_sum new.states ≡ showing_sum old.states = ap (λ (v : Index). showing_sum v.states) t.is ∙ turned_shows old.states party t.state turn t.state.recheck t.there in
      record { index = is; sum = omega arith }
  weighs (steps_turn {calls = calls} {old = old} {new = new} {party = party} run t is) =
      let before = weighs run in
      let sum = before.sum in
      let law = turns_keep old party t.state t.making before.index t.there t.turns in
      let less : weight_sum (world new) ≤ weight_sum (world old) = subst (λ (v : Index). weight_sum (world v) ≤ weight_sum (world old)) (sym t.is) law.weighs in
      let shown : showing_sum new.states ≡ showing_sum old.states =
      ap (λ (v : Index). showing_sum v.states) t.is ∙ turned_shows old.states party t.state (turn_after (making_turned t.making (turn_told old t.making))) t.state.recheck t.there in
      record { index = is; sum = omega arith }
  weighs (turns_alone {calls = calls} {old = old} {new = new} run still t is) =
      let before = weighs run in
      let sum = before.sum in
      let free_new : HasNoCalls new = subst HasNoCalls (sym t.is) still.calls in
      let less : weight_sum (world new) ≤ weight_sum (world old) =
      subst (λ (q : ℕ × ℕ). q.0 ≤ q.1) (λ k. (sym (none_weigh new free_new) k, sym (none_weigh old still.calls) k)) t.weighs in
      let shown : showing_sum new.states ≡ showing_sum old.states = ap (λ (v : Index). showing_sum v.states) t.is in
      record { index = is; sum = omega arith }

pub weight_is_bounded : WeightIsBounded
weight_is_bounded first last begun calls index quiet run =
    let after = weighs first quiet index run in
    let sum = after.sum in
    let puts : showing_sum last.states ≤ puts_in_flight last.states = sum_more (λ (e : PartyState). showing e.machine) (λ (e : PartyState). put_in e.machine) showing_puts last.states in
    let image = crash_light last after.index in
    record { core = omega arith; sum = omega arith; image = omega arith }
