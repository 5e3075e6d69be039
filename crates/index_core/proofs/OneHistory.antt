-- What a schedule answers is one legal history.
use Rattle.std.proofs.Common.{◌≡◌, ◌≢◌, true, false, ℕ, suc, ◌+◌, ◌<◌, ◌≤◌, ◌⊎◌, inl, inr, ⊎_elim, List, [], ◌∷◌, ◌++◌, length, set, refl, sym, ap, ◌∙◌, subst, arith}
use Rattle.std.specs.Prelude.{Option, Some, None, IfSome, slice_get}
use Rattle.std.proofs.lemmas.List.{length-append}
use Rattle.std.proofs.lemmas.Bool.{cases_eq, cases_order}
use Rattle.std.specs.List.Sorted.{IsPermutation}
use Rattle.std.proofs.lemmas.List.Sorted.{IsPermutation-refl}
use mathlib.Core.Option.{some, some-injective, some-ne-none}
use lib.ListN.{get_elem?}
use Rattle.pm_words.specs.declared.layout.Layout.{Layout}
use Rattle.pm_words.specs.Rows.{acted, evicted}
use Rattle.cat_history.specs.Maps.{Map, map_of}
use Rattle.cat_history.specs.Records.{interval_at, change_of}
use Rattle.cat_history.specs.declared.op.Change.{Change}
use Rattle.cat_history.specs.declared.op.NameOp.{NameOp}
use Rattle.cat_history.specs.declared.op.NameOp.TheVariants as op
use Rattle.cat_history.specs.declared.op.Write.{Write}
use Rattle.call_stages.specs.declared.once.Once.{Once}
use Rattle.call_stages.specs.declared.once.Once.TheVariants as once
use Rattle.call_stages.specs.declared.once.Placed.{Placed}
use Rattle.call_stages.specs.Stages.{placed_in}
use Rattle.node_ops.specs.declared.running.Running.{Running}
use Rattle.node_ops.specs.Asked.{op_in}
use Rattle.node_ops.specs.RunningSteps.{running_call, running_turned, count_in, listed_in, IsRunning, Sound}
use Rattle.index_law.specs.Worlds.{facts}
use Rattle.index_core.specs.declared.party.CoreReply.{CoreReply}
use Rattle.index_core.specs.declared.party.Stepped.{Stepped}
use Rattle.index_core.specs.declared.party.Stepped.TheVariants.{Answered}
use Rattle.node_ops.specs.CallStages.{stage_of}
use Rattle.index_core.specs.declared.party.PartyState.{PartyState}
use Rattle.index_core.specs.declared.party.Rechecking.{Rechecking}
use Rattle.node_ops.specs.declared.recheck.Recheck.TheVariants.{Dating}
use Rattle.node_ops.specs.RecheckSteps.{recheck_turned}
use Rattle.index_core.specs.Rechecks.{recheck_told}
use Rattle.index_core.specs.Answers.{IsAnswerOf}
use Rattle.index_core.specs.Indexes.{Index, IsIndex, IsInFlight, parties_of, told, view_of, world}
use Rattle.index_core.specs.Lone.{IsQuiet, alone_writes, state_done}
use Rattle.index_core.specs.Schedules.{BegunCall, AnsweredCall, begun_call, flying_call, once_of, listed_of, CallLists, Runs, begins, starts, goes_on, answers, alone, evicts, reserves, begins_recheck, steps_recheck, begins_turn, steps_turn, turns_alone, StandsNowhere, StandsAt, WroteNothing, IsLegalAnswer, IsNext, interval_of, AnswersKeepOrder, EachWritesOnce, IsAnsweredWrite, IsWriteInFlight, IsLegalHistory, AreCounted, OneLegalHistory, IdleAreCounted, flying_in, calls_in_flight}
use Rattle.index_core.proofs.Crashing.{placed_later}
use Rattle.index_core.proofs.Limits.{write_end, places_keep_limit}
use Rattle.index_core.proofs.Beginning.{kept_start, kept_alone}
use Rattle.updater.specs.declared.making.MakeTurn.{MakeTurn}
use Rattle.updater.specs.Makings.{making_from, making_asks, making_turned}
use Rattle.index_law.proofs.Parties.{at_set, set_here}
use Rattle.index_core.specs.Turns.{turn_told}
use Rattle.index_core.proofs.Flights.{each_goes_on}
use Rattle.index_core.proofs.Indexed.{states_set}
use Rattle.index_core.proofs.Scheduling.{IsEarlier, AnswerHolds, CountsUpTo, counts_as, in_flight, Kept, flies_elsewhere, took_one}
use Rattle.index_core.specs.PartyStates.{idle_state, next_index, index_after, stepped_of, reply_with, answer_in, listed_by, recheck_after, turn_after}
use Rattle.index_core.proofs.Lists.{some_same, idle-each}
use Rattle.index_core.proofs.Told.{go_of, done_of, told_lists}
use Rattle.index_core.proofs.Scheduling as along
use Rattle.index_core.proofs.Stepping.{respare}

-- the same calls and the same history
kept_as : (first : Index) (begun : List BegunCall) (calls : List AnsweredCall) (s : Index) (words : List ℕ) (spare : ℕ) → Kept first begun calls s → IsIndex (record s { words = words; spare = spare })
    → Kept first begun calls (record s { words = words; spare = spare })
kept_as first begun calls s words spare k index = record {
  index = index;
  layout_is = k.layout_is;
  rest = k.rest;
}

-- a turn or a recheck leaves its party's calls as they are
still_earlier : (c : AnsweredCall) (e : PartyState) (t : Option MakeTurn) (r : Option Rechecking) (m : Option Running) → IsEarlier c e m → IsEarlier c (record e { turn = t; recheck = r }) m
still_earlier c e t r None is = is
still_earlier c e t r (Some machine) is = is

still_flying : (e : PartyState) (t : Option MakeTurn) (r : Option Rechecking) (m : Option Running) → flying_in (record e { turn = t; recheck = r }) m ≡ flying_in e m
still_flying e t r None = refl
still_flying e t r (Some machine) = refl

-- the same calls and the same history, where one party has another turn and another recheck
kept_turned : (first : Index) (begun : List BegunCall) (calls : List AnsweredCall) (s : Index) (words : List ℕ) (i : ℕ) (e : PartyState) (t : Option MakeTurn) (r : Option Rechecking) → Kept first begun calls s → get_elem? s.states i ≡ some e
    → IsIndex (record s { words = words; states = set s.states i (record e { turn = t; recheck = r }) }) → Kept first begun calls (record s { words = words; states = set s.states i (record e { turn = t; recheck = r }) })
kept_turned first begun calls s words i e t r k there index = record {
  index = index;
  layout_is = k.layout_is;
  rest = record {
    told = k.rest.told;
    earlier = λ j c p state at at_p caller. ⊎_elim
        (λ (mine : (p ≡ i) × (now ≡ state)). subst (λ (d : PartyState). IsEarlier c d d.machine) mine.1 (still_earlier c e t r e.machine (k.rest.earlier j c i e at there (caller ∙ mine.0))))
        (λ (other : (p ≢ i) × (get_elem? s.states p ≡ some state)). k.rest.earlier j c p state at other.1 caller)
        (at_set s.states i p now state at_p);
    writes = λ place write stands. ⊎_elim
        (λ (w : IsAnsweredWrite calls place write). inl w)
        (λ (w : IsWriteInFlight s.states place write). inr (⊎_elim
        (λ (party : w.party ≡ i).
        let same : w.state ≡ e = some-injective _ _ (sym (subst (λ (j : ℕ). get_elem? s.states j ≡ some w.state) party w.there) ∙ there) in
        record {
          party = i;
          state = now;
          machine = w.machine;
          there = set_here s.states i now e there;
          flies = ap (λ (d : PartyState). d.machine) (sym same) ∙ w.flies;
          place = w.place;
          caller = w.caller ∙ ap (λ (d : PartyState). d.caller) same;
          index = w.index ∙ ap (λ (d : PartyState). d.index) same;
          change = w.change;
        })
        (λ (other : w.party ≢ i). flies_elsewhere s.states i now w other)
        (cases_eq w.party i)))
        (k.rest.writes place write stands);
    states_count = states_set first calls s.states i now (λ p state other at_p. k.rest.states_count p state at_p) (k.rest.states_count i e there);
    each_call = each_goes_on begun calls s.states k.rest.each_call i e now there (still_flying e t r e.machine);
    counts = λ p state at_p. ⊎_elim
        (λ (mine : (p ≡ i) × (now ≡ state)). subst (CountsUpTo first begun p) mine.1 (counts_as first begun i p e now mine.0 (omega arith) (k.rest.counts i e there)))
        (λ (other : (p ≢ i) × (get_elem? s.states p ≡ some state)). k.rest.counts p state other.1)
        (at_set s.states i p now state at_p);
  };
}
  where
    now : PartyState
    now = record e { turn = t; recheck = r }

no_flights : (states : List PartyState) → ((i : ℕ) (state : PartyState) → get_elem? states i ≡ some state → state.machine ≡ None) → calls_in_flight states ≡ []
no_flights [] quiet = refl
no_flights (state ∷ states) quiet = (λ t. flying_in state (quiet 0 state refl t) ++ no_flights states (λ i e at. quiet (suc i) e at) t)

-- as a schedule begins
kept_first : (s : Index) → IsIndex s → IsQuiet s → s.history ≡ [] → Kept s [] [] s
kept_first s index quiet fresh = record {
  index = index;
  layout_is = refl;
  rest = record {
    told = record {
      base_is = refl;
      holds = λ j c at. absurd (some-ne-none c (sym at));
      order = λ p q a b at_p at_q less caller. absurd (some-ne-none a (sym at_p));
      next = λ j c at. absurd (some-ne-none c (sym at));
      indexes = λ j c at. absurd (some-ne-none c (sym at));
    };
    earlier = λ j c p state at at_p caller. absurd (some-ne-none c (sym at));
    writes = λ place write stands. absurd (let both : None ≡ Some write = subst (λ (h : List Write). slice_get h place ≡ Some write) fresh stands in cc);
    states_count = λ p state at_p. record { state = state; there = at_p; is = omega arith };
    each_call = subst (IsPermutation []) (sym (no_flights s.states quiet.calls)) (IsPermutation-refl []);
    counts = λ p state at_p. record { was = state; there = at_p; most = let idle = ap in_flight (quiet.calls p state at_p) in omega arith };
  };
}

-- fewer calls are counted too
fewer : (first : Index) (begun more : List BegunCall) → AreCounted first (begun ++ more) → AreCounted first begun
fewer first begun more few i state there = let all = few i state there in let long = length-append begun more in omega arith

pub none_flies : (s : Index) (party : ℕ) (e : PartyState) → (IsInFlight s party → ⊥) → get_elem? s.states party ≡ some e → e.machine ≡ None
none_flies s party e none there = at e.machine refl
  where
    at : (o : Option Running) → e.machine ≡ o → e.machine ≡ None
    at None is = is
    at (Some machine) is = absurd (none (record { state = e; machine = machine; there = there; flies = is }))

answered_same : {a b : CoreReply} → Path Stepped (Answered a) (Answered b) → a ≡ b
answered_same is = cc

kept : (first : Index) → IsIndex first → IsQuiet first → first.history ≡ [] → {begun : List BegunCall} {calls : List AnsweredCall} {s : Index} → Runs first begun calls s → AreCounted first begun
    → Kept first begun calls s
kept first index quiet fresh begins few = kept_first first index quiet fresh
kept first index quiet fresh (starts {begun = begun} {calls = calls} {old = old} {new = new} {party = party} {call = c} run none t is) few =
    let b = begun_call t.state (length old.history) c in
    let idle = none_flies old party t.state none t.there in
    subst (Kept first (begun ++ b ∷ []) calls) (sym t.is)
    (kept_start first begun calls old party t.state c (kept first index quiet fresh run (fewer first begun (b ∷ []) few)) t.there idle few new.spare t.of (subst IsIndex t.is is))
kept first index quiet fresh (goes_on {begun = begun} {calls = calls} {old = old} {new = new} {party = party} run step is) few =
    let t = step.turned in
    let k = kept first index quiet fresh run few in
    let go = go_of (running_turned t.machine (told old t.machine)) (sym t.answers) in
    subst (Kept first begun calls) (sym t.is)
    (along.goes_on first begun calls old party t.state t.machine k t.there t.flies go.0 go.1 (t.turn.keeps_op (op_in t.machine) (along.of first begun calls old party t.state t.machine k t.there t.flies)) t.turn.keeps_call new.spare (subst IsIndex t.is is))
kept first index quiet fresh (answers {begun = begun} {calls = calls} {old = old} {new = new} {party = party} {reply = reply} run step is) few =
    let t = step.turned in
    let k = kept first index quiet fresh run few in
    let answer = answer_in reply in
    let done = done_of (running_turned t.machine (told old t.machine)) answer (sym t.answers) in
    let replies : reply ≡ reply_with (count_in t.machine) (listed_in t.machine) answer = answered_same (step.comes_to ∙ ap (stepped_of t.machine) done) in
    let sound : IsRunning t.machine = (subst (λ (o : Option Running). IfSome o (Sound old.layout old.generation)) t.flies (k.index.states party t.state t.there).machine).here in
    let lists : CallLists (map_of new.base) new.history (op_in t.machine) (count_in t.machine) answer (listed_by reply) =
    subst (λ (r : CoreReply). CallLists (map_of new.base) new.history (op_in t.machine) (count_in t.machine) answer (listed_by r)) (sym replies)
    (told_lists new.layout (facts (world new)) t.machine (told old t.machine) answer done sound is.named t.lists) in
    subst (λ (v : Index). Kept first begun (calls ++ record { call = flying_call t.state t.machine; until = length v.history; answer = answer; part = listed_by reply; whole = false; next = index_after t.state.index answer } ∷ []) v) (sym t.is)
    (along.is_answered first begun calls old party t.state t.machine k t.there t.flies answer done new.spare few (listed_by reply)
    (subst (λ (v : Index). IsAnswerOf v.layout.slots (map_of v.base) v.history t.state (op_in t.machine) (running_call t.machine).limit answer) t.is t.says)
    (subst (λ (v : Index). CallLists (map_of v.base) v.history (op_in t.machine) (count_in t.machine) answer (listed_by reply)) t.is lists) (subst IsIndex t.is is))
kept first index quiet fresh (alone {begun = begun} {calls = calls} {old = old} {new = new} {caller = party} {call = c} {result = result} run free r is) few =
    let b = begun_call r.state (length old.history) c in
    let k = kept first index quiet fresh run (fewer first begun (b ∷ []) few) in
    let caller_is : r.state.caller ≡ party = (k.index.states party r.state r.there).caller in
    let history : new.history ≡ old.history ++ alone_writes r.state.caller r.state.index c result = r.history ∙ ap (λ (j : ℕ). old.history ++ alone_writes j r.state.index c result) (sym caller_is) in
    let same : Path Index new (record new { states = set old.states party (state_done r.state (length old.history)); base = old.base; history = old.history ++ alone_writes r.state.caller r.state.index c result }) =
    (λ t. record new { states = r.states t; base = r.base t; history = history t }) in
    subst (λ (v : Index). Kept first (begun ++ b ∷ []) (calls ++ record { call = b; until = length v.history; answer = once_of result; part = listed_of result; whole = true; next = next_index r.state.index } ∷ []) v) (sym same)
    (kept_alone first begun calls old party r.state c k r.there (free party r.state r.there) few result new free r.answer new r.layout (subst IsIndex same is))
kept first index quiet fresh (evicts {begun = begun} {calls = calls} {old = old} {new = new} {word = word} run within e is) few =
    subst (Kept first begun calls) (sym e) (kept_as first begun calls old (evicted old.layout old.words word) old.spare (kept first index quiet fresh run few) (subst IsIndex e is))
kept first index quiet fresh (reserves {begun = begun} {calls = calls} {old = old} {new = new} run e) few =
    let k = kept first index quiet fresh run few in
    subst (Kept first begun calls) (sym e) (kept_as first begun calls old old.words new.spare k (respare old new.spare k.index))
kept first index quiet fresh (begins_turn {begun = begun} {calls = calls} {old = old} {new = new} {party = party} {stamp = stamp} {release = release} run idle t is) few =
    subst (Kept first begun calls) (sym t.is)
    (kept_turned first begun calls old old.words party t.state (Some (making_from old.layout old.generation stamp release)) t.state.recheck (kept first index quiet fresh run few) t.there (subst IsIndex t.is is))
kept first index quiet fresh (steps_turn {begun = begun} {calls = calls} {old = old} {new = new} {party = party} run t is) few =
    subst (Kept first begun calls) (sym t.is)
    (kept_turned first begun calls old (acted old.layout old.words (making_asks t.making)) party t.state (turn_after (making_turned t.making (turn_told old t.making))) t.state.recheck (kept first index quiet fresh run few) t.there (subst IsIndex t.is is))
kept first index quiet fresh (begins_recheck {begun = begun} {calls = calls} {old = old} {new = new} {party = party} {node = node} {version = version} run idle t is) few =
    subst (Kept first begun calls) (sym t.is)
    (kept_turned first begun calls old old.words party t.state t.state.turn (Some (record { since = length old.history; machine = Dating (view_of old party) node version })) (kept first index quiet fresh run few) t.there (subst IsIndex t.is is))
kept first index quiet fresh (steps_recheck {begun = begun} {calls = calls} {old = old} {new = new} {party = party} run t is) few =
    subst (Kept first begun calls) (sym t.is)
    (kept_turned first begun calls old old.words party t.state t.state.turn (recheck_after t.rechecking.since (recheck_turned t.rechecking.machine (recheck_told old t.rechecking.machine))) (kept first index quiet fresh run few) t.there (subst IsIndex t.is is))
kept first index quiet fresh (turns_alone {begun = begun} {calls = calls} {old = old} {new = new} run still t is) few =
    subst (Kept first begun calls) (sym t.is) (kept_as first begun calls old new.words old.spare (kept first index quiet fresh run few) (subst IsIndex t.is is))

-- where an interval starts
start_is : (o : NameOp) (place : ℕ) → (interval_at o place).start ≡ place
start_is (op.Put _ _) place = refl
start_is (op.Get _) place = refl
start_is (op.Del _) place = refl

module _ (first : Index) (begun : List BegunCall) (calls : List AnsweredCall) (s : Index) (k : Kept first begun calls s) where
  abbrev base : Map
  base = map_of first.base

  abbrev slots : ℕ
  slots = first.layout.slots

  -- two calls of one caller with one index are one, if both count
  one_call : (p q : ℕ) (a b : AnsweredCall) → get_elem? calls p ≡ some a → get_elem? calls q ≡ some b → a.call.index < a.next → b.call.index < b.next → a.call.caller ≡ b.call.caller
      → a.call.index ≡ b.call.index → a ≡ b
  one_call p q a b at_p at_q up_a up_b caller index =
      ⊎_elim
      (λ (same : p ≡ q). some-injective _ _ (sym at_p ∙ ap (get_elem? calls) same ∙ at_q))
      (λ (apart : (p < q) ⊎ (q < p)). absurd (⊎_elim
      (λ (less : p < q). let before = (k.rest.told.order p q a b at_p at_q less caller).0 in omega arith)
      (λ (more : q < p). let before = (k.rest.told.order q p b a at_q at_p more (sym caller)).0 in omega arith)
      apart))
      (cases_order p q)

  -- a write of an answered call that counts is one that its answer tells
  of_answered : (n : ℕ) (c : AnsweredCall) → get_elem? calls n ≡ some c → c.call.index < c.next → (place : ℕ) (write : Write) → slice_get s.history place ≡ Some write → write.caller ≡ c.call.caller → write.index ≡ c.call.index
      → (placed : Placed) × (c.answer ≡ once.Done placed) × (placed.place ≡ place) × (change_of c.call.op ≡ Some write.change)
  of_answered n c at up place write stands caller index =
      ⊎_elim
      (λ (w : IsAnsweredWrite calls place write).
      let one = took_one w.answered w.placed (k.rest.told.next w.number w.answered w.there) w.answer in
      let same : w.answered ≡ c = one_call w.number n w.answered c w.there at one up (sym w.caller ∙ caller) (sym w.index ∙ index) in
      (w.placed, ap (λ (d : AnsweredCall). d.answer) (sym same) ∙ w.answer, w.place, ap (λ (d : AnsweredCall). change_of d.call.op) (sym same) ∙ w.change))
      (λ (w : IsWriteInFlight s.states place write).
      let party : c.call.caller ≡ w.party = sym caller ∙ w.caller ∙ (k.index.states w.party w.state w.there).caller in
      let before : (c.next ≤ w.state.index) × (c.until ≤ w.state.since) = subst (IsEarlier c w.state) w.flies (k.rest.earlier n c w.party w.state at w.there party) in
      let less = before.0 in
      let same = w.index in
      absurd (omega arith))
      (k.rest.writes place write stands)

  nowhere : (n : ℕ) (c : AnsweredCall) → get_elem? calls n ≡ some c → c.call.index < c.next → ((placed : Placed) → c.answer ≡ once.Done placed → ⊥) → StandsNowhere s.history c.call.caller c.call.index
  nowhere n c at up unplaced place write stands caller index = let is = of_answered n c at up place write stands caller index in unplaced is.0 is.1

  -- while a call was made that didn't take place, its caller wrote nothing
  wrote_nothing : (n : ℕ) (c : AnsweredCall) → get_elem? calls n ≡ some c → ((placed : Placed) → c.answer ≡ once.Done placed → ⊥) → WroteNothing s.history c.call c.until
  wrote_nothing n c at unplaced place write stands caller later sooner =
      ⊎_elim
      (λ (w : IsAnsweredWrite calls place write).
      let d = w.answered in
      let holds : AnswerHolds slots base s.history d.call d.until (once.Done w.placed) = subst (AnswerHolds slots base s.history d.call d.until) w.answer (k.rest.told.holds w.number d w.there).0 in
      let end = write_end d.call.op w.placed.place write.change w.change in
      let ended = holds.1 in
      let began = holds.0.later in
      let same = w.place in
      ⊎_elim
      (λ (one : w.number ≡ n).
      let is : d ≡ c = some-injective _ _ (sym w.there ∙ ap (get_elem? calls) one ∙ at) in
      unplaced w.placed (ap (λ (a : AnsweredCall). a.answer) (sym is) ∙ w.answer))
      (λ (apart : (w.number < n) ⊎ (n < w.number)). ⊎_elim
      (λ (less : w.number < n). let before = (k.rest.told.order w.number n d c w.there at less (sym w.caller ∙ caller)).1 in absurd (omega arith))
      (λ (more : n < w.number). let before = (k.rest.told.order n w.number c d at w.there more (sym caller ∙ w.caller)).1 in absurd (omega arith))
      apart)
      (cases_order w.number n))
      (λ (w : IsWriteInFlight s.states place write).
      let party : c.call.caller ≡ w.party = sym caller ∙ w.caller ∙ (k.index.states w.party w.state w.there).caller in
      let before : (c.next ≤ w.state.index) × (c.until ≤ w.state.since) = subst (IsEarlier c w.state) w.flies (k.rest.earlier n c w.party w.state at w.there party) in
      let began = placed_later s k.index w.party place w.state w.machine w.there w.flies w.place in
      let ended = before.1 in
      omega arith)
      (k.rest.writes place write stands)

  stands_at : (n : ℕ) (c : AnsweredCall) (place : ℕ) (o : Option Change) → get_elem? calls n ≡ some c → c.call.index < c.next → change_of c.call.op ≡ o
      → IfSome o (λ change. slice_get s.history place ≡ Some (record { caller = c.call.caller; index = c.call.index; change = change })) → StandsAt s.history c.call.caller c.call.index place o
  stands_at n c place None at up asks stands = λ other write there caller index.
      let is = of_answered n c at up other write there caller index in
      let both : None ≡ Some write.change = sym asks ∙ is.3 in
      cc
  stands_at n c place (Some change) at up asks stands = stands

  -- it counts unless it was turned back
  raised : (n : ℕ) (c : AnsweredCall) (r : Once Placed) → get_elem? calls n ≡ some c → c.answer ≡ r → (IsNext c.call.index c.next c.whole r → c.next ≡ c.call.index + 1) → c.call.index < c.next
  raised n c r at is counts = let up = counts (subst (IsNext c.call.index c.next c.whole) is (k.rest.told.next n c at)) in omega arith

  legal_answer : (n : ℕ) (c : AnsweredCall) (r : Once Placed) → get_elem? calls n ≡ some c → c.answer ≡ r → AnswerHolds slots base s.history c.call c.until r → IsLegalAnswer slots base s.history c.call c.until c.next r
  legal_answer n c (once.Done placed) at is holds = record { took = holds.0; ended = holds.1; stands = stands_at n c placed.place (change_of c.call.op) at (raised n c (once.Done placed) at is (λ up. up)) refl holds.0.write }
  legal_answer n c (once.Spent clock) at is holds = record {
    reached = holds;
    nowhere = nowhere n c at (raised n c (once.Spent clock) at is (λ up. up)) (λ placed other. let both : once.Spent clock ≡ once.Done placed = sym is ∙ other in cc);
  }
  legal_answer n c (once.Worn node word) at is holds = nowhere n c at (raised n c (once.Worn node word) at is (λ up. up)) (λ placed other. let both : once.Worn node word ≡ once.Done placed = sym is ∙ other in cc)
  legal_answer n c (once.Again why) at is holds =
      let unplaced : (placed : Placed) → c.answer ≡ once.Done placed → ⊥ = (λ placed other. let both : once.Again why ≡ once.Done placed = sym is ∙ other in cc) in
      record { wrote_nothing = wrote_nothing n c at unplaced; nowhere = λ up. nowhere n c at up unplaced; room = holds }

  apart : (a b : AnsweredCall) (r t : Once Placed) → AnswerHolds slots base s.history a.call a.until r → AnswerHolds slots base s.history b.call b.until t → a.until ≤ b.call.since
      → IfSome (interval_of a.call.op r) (λ first. IfSome (interval_of b.call.op t) (λ second. first.end ≤ second.start))
  apart a b (once.Done first) (once.Done second) holds_a holds_b ended =
      let end = holds_a.1 in
      let later = holds_b.0.later in
      let start = start_is b.call.op second.place in
      omega arith
  apart a b (once.Done first) (once.Spent clock) holds_a holds_b ended = tt
  apart a b (once.Done first) (once.Worn node word) holds_a holds_b ended = tt
  apart a b (once.Done first) (once.Again why) holds_a holds_b ended = tt
  apart a b (once.Spent clock) t holds_a holds_b ended = tt
  apart a b (once.Worn node word) t holds_a holds_b ended = tt
  apart a b (once.Again why) t holds_a holds_b ended = tt

  in_order : AnswersKeepOrder calls
  in_order p q a b at_p at_q less caller =
      let is = k.rest.told.order p q a b at_p at_q less caller in
      record { index = is.0; ended = is.1; in_order = apart a b a.answer b.answer (k.rest.told.holds p a at_p).0 (k.rest.told.holds q b at_q).0 is.1 }

  once_each : EachWritesOnce s.history
  once_each i j v w at_i at_j caller index =
      ⊎_elim
      (λ (one : IsAnsweredWrite calls i v).
      let is = of_answered one.number one.answered one.there (took_one one.answered one.placed (k.rest.told.next one.number one.answered one.there) one.answer) j w at_j (sym caller ∙ one.caller) (sym index ∙ one.index) in
      let same : one.placed ≡ is.0 = (let both : once.Done one.placed ≡ once.Done is.0 = sym one.answer ∙ is.1 in done_same both) in
      sym one.place ∙ ap (λ (p : Placed). p.place) same ∙ is.2)
      (λ (one : IsWriteInFlight s.states i v). ⊎_elim
      (λ (two : IsAnsweredWrite calls j w).
      let is = of_answered two.number two.answered two.there (took_one two.answered two.placed (k.rest.told.next two.number two.answered two.there) two.answer) i v at_i (caller ∙ two.caller) (index ∙ two.index) in
      let same : two.placed ≡ is.0 = (let both : once.Done two.placed ≡ once.Done is.0 = sym two.answer ∙ is.1 in done_same both) in
      sym (sym two.place ∙ ap (λ (p : Placed). p.place) same ∙ is.2))
      (λ (two : IsWriteInFlight s.states j w).
      let party : one.party ≡ two.party =
      sym (k.index.states one.party one.state one.there).caller ∙ sym one.caller ∙ caller ∙ two.caller ∙ (k.index.states two.party two.state two.there).caller in
      let state : one.state ≡ two.state = some-injective _ _ (sym one.there ∙ ap (get_elem? s.states) party ∙ two.there) in
      let machine : one.machine ≡ two.machine = some_same (sym one.flies ∙ ap (λ (d : PartyState). d.machine) state ∙ two.flies) in
      some_same (sym one.place ∙ ap (λ (q : Running). placed_in (stage_of q)) machine ∙ two.place))
      (k.rest.writes j w at_j))
      (k.rest.writes i v at_i)
    where
      done_same : {a b : Placed} → once.Done a ≡ once.Done b → a ≡ b
      done_same e = cc

  legal_history : IsLegalHistory first begun calls s
  legal_history = record {
    base_is = k.rest.told.base_is;
    each_call = k.rest.each_call;
    answers = λ n c at.
        let holds = k.rest.told.holds n c at in
        record {
          answer = subst (λ (l : Layout). IsLegalAnswer l.slots base s.history c.call c.until c.next c.answer) (sym k.layout_is) (legal_answer n c c.answer at refl holds.0);
          lists = holds.2;
          within = holds.1;
          next = k.rest.told.next n c at;
        };
    in_time = λ i j a b at_i at_j ended. apart a b a.answer b.answer (k.rest.told.holds i a at_i).0 (k.rest.told.holds j b at_j).0 ended;
    in_order = in_order;
    in_flight = λ i state machine there flies n a at caller.
        subst (IsEarlier a state) flies (k.rest.earlier n a i state at there (caller ∙ (k.index.states i state there).caller));
    indexes = k.rest.told.indexes;
    next_indexes = k.rest.states_count;
    once = once_each;
    writes = k.rest.writes;
    places = λ limit carry. places_keep_limit first begun calls s k limit carry;
  }

pub one_legal_history : OneLegalHistory
one_legal_history first last begun calls index quiet fresh run few = legal_history first begun calls last (kept first index quiet fresh run few)

pub idle_are_counted : IdleAreCounted
idle_are_counted first begun idle few i state there =
    let same : state ≡ idle_state i = idle-each (parties_of first.layout) i state (subst (λ (states : List PartyState). get_elem? states i ≡ some state) idle there) in
    let none = ap (λ (d : PartyState). d.index) same in
    omega arith
