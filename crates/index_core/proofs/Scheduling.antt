-- What holds of an index and of the calls that were answered, along a schedule.
use Rattle.std.proofs.Common.{◌≡◌, ◌≢◌, Bool, true, false, ℕ, ◌+◌, ◌<◌, ◌≤◌, ◌⊎◌, inl, inr, ⊎_elim, List, [], ◌∷◌, ◌++◌, length, set, slice_set, refl, sym, ap, ◌∙◌, subst, arith}
use Rattle.std.specs.Prelude.{Option, Some, None, IfSome, slice_get}
use Rattle.std.proofs.lemmas.Bool.{cases_eq}
use Rattle.std.proofs.lemmas.List.{append-nil, length-append}
use Rattle.std.proofs.lemmas.Option.{IfSome_then}
use Rattle.std.proofs.Math.Nat.{min-eq_left}
use Rattle.std.specs.FinMap.{len}
use mathlib.Core.Option.{some, some-injective}
use lib.ListN.{get_elem?}
use Rattle.pm_words.specs.declared.layout.Layout.{Layout}
use Rattle.pm_words.specs.declared.again.Again.TheVariants.{NoFree}
use Rattle.pm_words.specs.declared.action.Action.TheVariants.{Add}
use Rattle.pm_words.specs.declared.machine.Turn.TheVariants.{Go, Done}
use Rattle.pm_words.specs.Rows.{acted, got}
use Rattle.cat_key.specs.declared.Pair.{Pair}
use Rattle.cat_history.specs.Maps.{Map, at, map_of}
use Rattle.cat_history.specs.Writes.{after}
use Rattle.cat_history.specs.Records.{interval_at, change_of}
use Rattle.cat_history.specs.declared.op.Change.{Change}
use Rattle.cat_history.specs.declared.op.NameOp.{NameOp}
use Rattle.cat_history.specs.declared.op.NameOp.TheVariants as op
use Rattle.cat_history.specs.declared.op.Write.{Write}
use Rattle.call_stages.specs.declared.once.Once.{Once}
use Rattle.call_stages.specs.declared.once.Once.TheVariants as once
use Rattle.call_stages.specs.declared.once.Placed.{Placed}
use Rattle.call_stages.specs.Kinds.{clock_address}
use Rattle.call_stages.specs.Stages.{counted, placed_in}
use Rattle.node_ops.specs.declared.call.Call.{Call}
use Rattle.node_ops.specs.declared.running.Running.{Running}
use Rattle.node_ops.specs.Asked.{IsOf, IsOfAfter, op_in, name_asked}
use Rattle.node_ops.specs.declared.part.PartWords.{PartWords}
use Rattle.node_ops.specs.RunningSteps.{running_call, running_asks, running_turned, count_in, Sound}
use Rattle.node_ops.proofs.PartListing.{count_stays}
use Rattle.node_ops.specs.CallStages.{stage_of}
use Rattle.node_ops.proofs.OpLaw.{counts_own_change, op_told}
use Rattle.node_ops.specs.Endings.{IsPutOp}
use Rattle.index_law.specs.Worlds.{written}
use Rattle.index_law.proofs.Maps.{after-longer, slice_get-longer}
use Rattle.index_law.proofs.Parties.{at_set, at_longer, set_here, set_else}
use Rattle.index_core.specs.declared.party.PartyState.{PartyState}
use Rattle.index_core.specs.Answers.{TookPlace, WasReached, FoundNoRoom, IsAnswerOf}
use Rattle.index_core.specs.PartyStates.{state_after, next_index, index_after, IsPartyState}
use Rattle.index_core.specs.Indexes.{Index, IsIndex, told, stepped_index, MakesCall}
use Rattle.index_core.proofs.Told.{longer_lists}
use Rattle.index_core.specs.Schedules.{BegunCall, AnsweredCall, CallLists, flying_call, IsNext, IsNextIndex, IndexesCount, StatesCount, flying_in, EachIsAnsweredOrFlies, IsAnsweredWrite, IsWriteInFlight, EachWriteIsOfACall, AreCounted}
use Rattle.index_core.proofs.Flights.{each_goes_on, each_ends}
use Rattle.index_core.proofs.Indexed.{next_other, next_own, indexes_push, states_set}
use Rattle.index_core.proofs.Lists.{within, at_end, end_there, some_same, got_end}
use Rattle.node_ops.specs.Endings.{place_for, GoesOn}
use Rattle.node_ops.proofs.Endings.{turns_keep_place, last_counts_nothing}
use Rattle.index_core.proofs.Endings.{EndsWith, ends_with}

-- a call that was answered comes before what its caller makes
abbrev pub IsEarlier : AnsweredCall → PartyState → Option Running → Type 0
IsEarlier c state None = c.next ≤ state.index
IsEarlier c state (Some machine) = (c.next ≤ state.index) × (c.until ≤ state.since)

-- what an answer says of the map and the history, which stays so as the history grows
abbrev pub AnswerHolds : ℕ → Map → List Write → BegunCall → ℕ → Once Placed → Type 0
AnswerHolds slots base history c until (once.Done placed) =
    TookPlace base history c.caller c.index c.since c.op c.limit placed × ((interval_at c.op placed.place).end ≤ until)
AnswerHolds slots base history c until (once.Spent clock) = WasReached c.since until c.limit clock
AnswerHolds slots base history c until (once.Worn node word) = Unit {0}
AnswerHolds slots base history c until (once.Again why) = why ≡ NoFree → IsPutOp c.op × FoundNoRoom slots base history c.since until (name_asked c.op)

-- the same of an answered call
abbrev pub CallHolds : ℕ → Map → List Write → AnsweredCall → Type 0
CallHolds slots base history c = AnswerHolds slots base history c.call c.until c.answer × (c.until ≤ length history) × CallLists base history c.call.op c.call.count c.answer c.part

-- how many calls a caller has in flight
abbrev pub in_flight : Option Running → ℕ
in_flight None = 0
in_flight (Some machine) = 1

-- no caller has begun more calls that count than these since the schedule began
pub record CountsUpTo (first : Index) (begun : List BegunCall) (i : ℕ) (state : PartyState) : Type 0 where
  pub was : PartyState
  pub there : get_elem? first.states i ≡ some was
  pub most : state.index + in_flight state.machine ≤ was.index + length begun

-- The second of two calls of a caller comes behind the first one,
abbrev pub ComesBehind : AnsweredCall → AnsweredCall → Type 0
ComesBehind a b = (a.next ≤ b.call.index) × (a.until ≤ b.call.since)

-- as it is with each two of these,
abbrev pub ComeInOrder : List AnsweredCall → Type 0
ComeInOrder calls = (i j : ℕ) (a b : AnsweredCall) → get_elem? calls i ≡ some a → get_elem? calls j ≡ some b → i < j → a.call.caller ≡ b.call.caller → ComesBehind a b

-- and with one more, which comes behind all of its caller.
pub in_order_more : (calls : List AnsweredCall) (c : AnsweredCall) → ComeInOrder calls → ((i : ℕ) (a : AnsweredCall) → get_elem? calls i ≡ some a → a.call.caller ≡ c.call.caller → ComesBehind a c) → ComeInOrder (calls ++ c ∷ [])
in_order_more calls c order behind i j a b at_i at_j less caller =
    ⊎_elim
    (λ (first : get_elem? calls i ≡ some a). ⊎_elim
    (λ (second : get_elem? calls j ≡ some b). order i j a b first second less caller)
    (λ (second : (j ≡ length calls) × (c ≡ b)). subst (ComesBehind a) second.1 (behind i a first (caller ∙ ap (λ (d : AnsweredCall). d.call.caller) (sym second.1))))
    (at_end calls c b j at_j))
    (λ (first : (i ≡ length calls) × (c ≡ a)). absurd (
    let last : j < length calls + 1 = subst (λ (len : ℕ). j < len) (length-append calls (c ∷ [])) (within (calls ++ c ∷ []) j b at_j) in
    let start = first.0 in
    omega arith))
    (at_end calls c a i at_i)

-- What holds of the answered calls by the base and the history alone.
pub record CallsHold (first : Index) (calls : List AnsweredCall) (base : List Pair) (history : List Write) : Type 0 where
  pub base_is : map_of base ≡ map_of first.base
  pub holds : (n : ℕ) (c : AnsweredCall) → get_elem? calls n ≡ some c → CallHolds first.layout.slots (map_of first.base) history c
  pub order : ComeInOrder calls
  pub next : (n : ℕ) (c : AnsweredCall) → get_elem? calls n ≡ some c → IsNext c.call.index c.next c.whole c.answer
  pub indexes : IndexesCount first calls

-- What a schedule keeps beside the index, whatever its words are.
pub record Keeps (first : Index) (begun : List BegunCall) (calls : List AnsweredCall) (base : List Pair) (states : List PartyState) (history : List Write) : Type 0 where
  pub told : CallsHold first calls base history
  pub earlier : (n : ℕ) (c : AnsweredCall) (i : ℕ) (state : PartyState) → get_elem? calls n ≡ some c → get_elem? states i ≡ some state → c.call.caller ≡ i → IsEarlier c state state.machine
  pub writes : EachWriteIsOfACall calls states history
  pub states_count : StatesCount first calls states
  pub each_call : EachIsAnsweredOrFlies begun calls states
  pub counts : (i : ℕ) (state : PartyState) → get_elem? states i ≡ some state → CountsUpTo first begun i state

pub record Kept (first : Index) (begun : List BegunCall) (calls : List AnsweredCall) (s : Index) : Type 0 where
  pub index : IsIndex s
  pub layout_is : s.layout ≡ first.layout
  pub rest : Keeps first begun calls s.base s.states s.history

pub place_le_end : (o : NameOp) (place : ℕ) → place ≤ (interval_at o place).end
place_le_end (op.Put _ _) place = omega arith
place_le_end (op.Get _) place = omega arith
place_le_end (op.Del _) place = omega arith

longer_room : (slots : ℕ) (base : Map) (h more : List Write) (since until : ℕ) (name : List ℕ) → FoundNoRoom slots base h since until name → until ≤ length h → FoundNoRoom slots base (h ++ more) since until name
longer_room slots base h more since until name is ended =
    let within = is.within in
    let same : after base (h ++ more) is.clock ≡ after base h is.clock = after-longer base h more is.clock (omega arith) in
    record {
      clock = is.clock;
      later = is.later;
      within = is.within;
      lacked = ap (λ (m : Map). at m name) same ∙ is.lacked;
      many = subst (λ (m : Map). slots ≤ len m) (sym same) is.many;
    }

longer_holds : (slots : ℕ) (base : Map) (h more : List Write) (c : BegunCall) (until : ℕ) (answer : Once Placed) → AnswerHolds slots base h c until answer → until ≤ length h → AnswerHolds slots base (h ++ more) c until answer
longer_holds slots base h more c until (once.Done placed) is ended =
    let took = is.0 in
    let least = place_le_end c.op placed.place in
    let longer = length-append h more in
    let within = took.within in (
      record {
        later = took.later;
        within = omega arith;
        below = took.below;
        old = took.old ∙ ap (λ (m : Map). at m (name_asked c.op)) (sym (after-longer base h more placed.place (omega arith)));
        write = IfSome_then (change_of c.op) took.write (λ change stands. slice_get-longer h more placed.place _ stands);
      },
      is.1,
    )
longer_holds slots base h more c until (once.Spent clock) is ended = is
longer_holds slots base h more c until (once.Worn node word) is ended = tt
longer_holds slots base h more c until (once.Again why) is ended = λ full. ((is full).0, longer_room slots base h more c.since until (name_asked c.op) (is full).1 ended)

pub longer_call : (slots : ℕ) (base : Map) (h more : List Write) (c : AnsweredCall) → CallHolds slots base h c → CallHolds slots base (h ++ more) c
longer_call slots base h more c is =
    let longer = length-append h more in
    let within = is.1 in (
      longer_holds slots base h more c.call c.until c.answer is.0 is.1,
      omega arith,
      longer_lists base h more c.call.op c.call.count c.answer c.part (λ placed done.
          let holds : AnswerHolds slots base h c.call c.until (once.Done placed) = subst (AnswerHolds slots base h c.call c.until) done is.0 in
          let least = place_le_end c.call.op placed.place in
          let ended = holds.1 in
          omega arith) is.2,
    )

-- an state that stands elsewhere than the changed one
pub else_there : (states : List PartyState) (i j : ℕ) (now state : PartyState) → j ≢ i → get_elem? states j ≡ some state → get_elem? (set states i now) j ≡ some state
else_there states i j now state other there = set_else states i j now other ∙ there

-- so does the write in flight of a party that isn't the changed one
pub flies_elsewhere : (states : List PartyState) (i : ℕ) (now : PartyState) {place : ℕ} {write : Write} → (w : IsWriteInFlight states place write) → w.party ≢ i → IsWriteInFlight (set states i now) place write
flies_elsewhere states i now w other = record {
  party = w.party;
  state = w.state;
  machine = w.machine;
  there = else_there states i w.party now w.state other w.there;
  flies = w.flies;
  place = w.place;
  caller = w.caller;
  index = w.index;
  change = w.change;
}

-- and that of the call that was answered last
pub answered_last : (calls : List AnsweredCall) (a : AnsweredCall) (placed : Placed) {place : ℕ} {write : Write} → a.answer ≡ once.Done placed → placed.place ≡ place
    → write.caller ≡ a.call.caller → write.index ≡ a.call.index → change_of a.call.op ≡ Some write.change → IsAnsweredWrite (calls ++ a ∷ []) place write
answered_last calls a placed answer place caller index change = record {
  number = length calls;
  answered = a;
  placed = placed;
  there = end_there calls a;
  answer = answer;
  place = place;
  caller = caller;
  index = index;
  change = change;
}

-- and an answered write of a list that is longer now
pub answered_longer : (calls more : List AnsweredCall) {place : ℕ} {write : Write} → IsAnsweredWrite calls place write → IsAnsweredWrite (calls ++ more) place write
answered_longer calls more w = record {
  number = w.number;
  answered = w.answered;
  placed = w.placed;
  there = at_longer calls more w.number w.answered w.there;
  answer = w.answer;
  place = w.place;
  caller = w.caller;
  index = w.index;
  change = w.change;
}

-- an state that counts no more calls
pub counts_as : (first : Index) (begun : List BegunCall) (i p : ℕ) (was now : PartyState) → p ≡ i → now.index + in_flight now.machine ≤ was.index + in_flight was.machine → CountsUpTo first begun i was
    → CountsUpTo first begun p now
counts_as first begun i p was now same fewer is = let most = is.most in record { was = is.was; there = ap (get_elem? first.states) same ∙ is.there; most = omega arith }

-- what an answer makes of an index that can be raised
pub next_is : (index : ℕ) (answer : Once Placed) → next_index index ≡ index + 1 → IsNext index (index_after index answer) false answer
next_is index (once.Done placed) up = up
next_is index (once.Spent clock) up = up
next_is index (once.Worn node word) up = up
next_is index (once.Again why) up = omega arith

pub next_near : (index next : ℕ) (whole : Bool) (answer : Once Placed) → IsNext index next whole answer → (index ≤ next) × (next ≤ index + 1)
next_near index next whole (once.Done placed) is = (omega arith, omega arith)
next_near index next whole (once.Spent clock) is = (omega arith, omega arith)
next_near index next whole (once.Worn node word) is = (omega arith, omega arith)
next_near index next true (once.Again why) is = (omega arith, omega arith)
next_near index next false (once.Again why) is = (omega arith, omega arith)

-- a call that took place has raised it
pub took_one : (c : AnsweredCall) (placed : Placed) → IsNext c.call.index c.next c.whole c.answer → c.answer ≡ once.Done placed → c.call.index < c.next
took_one c placed is answer = let up : c.next ≡ c.call.index + 1 = subst (IsNext c.call.index c.next c.whole) answer is in omega arith

-- a party's call in flight
module _ (first : Index) (begun : List BegunCall) (calls : List AnsweredCall) (s : Index) (i : ℕ) (e : PartyState) (m : Running) (k : Kept first begun calls s) (there : get_elem? s.states i ≡ some e) (flies : e.machine ≡ Some m) where
  abbrev base : Map
  base = map_of first.base

  abbrev x : ℕ
  x = told s m

  own : IsPartyState s.layout s.generation i e
  own = k.index.states i e there

  pub of : IsOf (op_in m) m
  of = subst (λ (o : Option Running). IfSome o (λ q. IsOf (op_in q) q)) flies own.op

  sound : Sound s.layout s.generation m
  sound = subst (λ (o : Option Running). IfSome o (Sound s.layout s.generation)) flies own.machine

  -- whatever stands at this place is this call
  machine_there : (state : PartyState) (machine : Running) → get_elem? s.states i ≡ some state → state.machine ≡ Some machine → machine ≡ m
  machine_there state machine at flown =
      let same : state ≡ e = some-injective _ _ (sym at ∙ there) in
      some_same (sym flown ∙ ap (λ (d : PartyState). d.machine) same ∙ flies)

  one_flies : in_flight e.machine ≡ 1
  one_flies = ap in_flight flies

  -- it goes on
  module _ (next : Running) (is : running_turned m x ≡ Go next) (keeps_op : IsOfAfter (op_in m) (running_turned m x)) (keeps_call : MakesCall (running_call m) (running_turned m x)) (n : ℕ) where
    abbrev e' : PartyState
    e' = record e { machine = Some next }

    op_same : op_in next ≡ op_in m
    op_same = op_told (op_in m) next (subst (IsOfAfter (op_in m)) is keeps_op)

    on : GoesOn (running_call m).view.layout (stage_of m) (running_asks m) x (stage_of next) (counted (stage_of m))
    on = turns_keep_place m next x sound.here is

    running_same : (running_call next).limit ≡ (running_call m).limit
    running_same = ap (λ (c : Call). c.limit) (subst (MakesCall (running_call m)) is keeps_call)

    same_call : flying_call e' next ≡ flying_call e m
    same_call = λ t. record { caller = e.caller; index = e.index; op = op_same t; limit = running_same t; count = count_stays m next x is t; since = e.since }

    -- the place that it is told is the length of the history
    clock : running_asks m ≡ Add (clock_address (running_call m).view.layout) → x ≡ length s.history
    clock adds = ap (got s.layout s.words) (adds ∙ ap (λ (l : Layout). Add (clock_address l)) sound.layout) ∙ k.index.lawful.clock

    still : {place : ℕ} {write : Write} → placed_in (stage_of next) ≡ placed_in (stage_of m) → slice_get s.history place ≡ Some write → IsAnsweredWrite calls place write ⊎ IsWriteInFlight (set s.states i e') place write
    still {place = place} {write = write} same stands =
        ⊎_elim
        (λ (w : IsAnsweredWrite calls place write). inl w)
        (λ (w : IsWriteInFlight s.states place write). inr (⊎_elim
        (λ (party : w.party ≡ i).
        let here = subst (λ (j : ℕ). get_elem? s.states j ≡ some w.state) party w.there in
        let state : w.state ≡ e = some-injective _ _ (sym here ∙ there) in
        let machine : w.machine ≡ m = machine_there w.state w.machine here w.flies in
        record {
          party = i;
          state = e';
          machine = next;
          there = set_here s.states i e' e there;
          flies = refl;
          place = same ∙ ap (λ (q : Running). placed_in (stage_of q)) (sym machine) ∙ w.place;
          caller = w.caller ∙ ap (λ (d : PartyState). d.caller) state;
          index = w.index ∙ ap (λ (d : PartyState). d.index) state;
          change = ap change_of op_same ∙ ap (λ (q : Running). change_of (op_in q)) (sym machine) ∙ w.change;
        })
        (λ (other : w.party ≢ i). flies_elsewhere s.states i e' w other)
        (cases_eq w.party i)))
        (k.rest.writes place write stands)

    -- a call that has no place yet leaves the others' writes as they are
    others : {place : ℕ} {write : Write} → placed_in (stage_of m) ≡ None → slice_get s.history place ≡ Some write → IsAnsweredWrite calls place write ⊎ IsWriteInFlight (set s.states i e') place write
    others {place = place} {write = write} none stands =
        ⊎_elim
        (λ (w : IsAnsweredWrite calls place write). inl w)
        (λ (w : IsWriteInFlight s.states place write). inr (
        let other : w.party ≢ i =
        (λ party.
        let machine : w.machine ≡ m = machine_there w.state w.machine (subst (λ (j : ℕ). get_elem? s.states j ≡ some w.state) party w.there) w.flies in
        let both : None ≡ Some place = sym none ∙ ap (λ (q : Running). placed_in (stage_of q)) (sym machine) ∙ w.place in
        cc) in
        flies_elsewhere s.states i e' w other))
        (k.rest.writes place write stands)

    writes_on : (o : Option Change) → GoesOn (running_call m).view.layout (stage_of m) (running_asks m) x (stage_of next) o → IfSome o (λ change. change_of (op_in m) ≡ Some change)
        → EachWriteIsOfACall calls (set s.states i e') (s.history ++ written e.caller e.index o)
    writes_on None goes own_change place write stands = still goes (subst (λ (h : List Write). slice_get h place ≡ Some write) (append-nil s.history) stands)
    writes_on (Some change) goes own_change place write stands =
        ⊎_elim
        (λ (before : slice_get s.history place ≡ Some write). others goes.1 before)
        (λ (last : (place ≡ length s.history) × (record { caller = e.caller; index = e.index; change = change } ≡ write)). inr (record {
          party = i;
          state = e';
          machine = next;
          there = set_here s.states i e' e there;
          flies = refl;
          place = goes.2 ∙ ap Some (clock goes.0 ∙ sym last.0);
          caller = ap (λ (w : Write). w.caller) (sym last.1);
          index = ap (λ (w : Write). w.index) (sym last.1);
          change = ap change_of op_same ∙ own_change ∙ ap (λ (w : Write). Some w.change) last.1;
        }))
        (got_end s.history (record { caller = e.caller; index = e.index; change = change }) write place stands)

    abbrev going_index : Index
    going_index = record s {
      words = acted s.layout s.words (running_asks m);
      states = slice_set s.states i e';
      history = s.history ++ written e.caller e.index (counted (stage_of m));
      spare = n;
    }

    going : IsIndex going_index → Kept first begun calls going_index
    going index = record {
      index = index;
      layout_is = k.layout_is;
      rest = record {
        told = record {
          base_is = k.rest.told.base_is;
          holds = λ j c at. longer_call first.layout.slots base s.history (written e.caller e.index (counted (stage_of m))) c (k.rest.told.holds j c at);
          order = k.rest.told.order;
          next = k.rest.told.next;
          indexes = k.rest.told.indexes;
        };
        earlier = λ j c p state at at_p caller. ⊎_elim
            (λ (mine : (p ≡ i) × (e' ≡ state)).
            let before : (c.next ≤ e.index) × (c.until ≤ e.since) = subst (IsEarlier c e) flies (k.rest.earlier j c i e at there (caller ∙ mine.0)) in
            subst (λ (d : PartyState). IsEarlier c d d.machine) mine.1 before)
            (λ (other : (p ≢ i) × (get_elem? s.states p ≡ some state)). k.rest.earlier j c p state at other.1 caller)
            (at_set s.states i p e' state at_p);
        writes = writes_on (counted (stage_of m)) on (counts_own_change (op_in m) m of);
        states_count = states_set first calls s.states i e' (λ p state other at_p. k.rest.states_count p state at_p) (k.rest.states_count i e there);
        each_call = each_goes_on begun calls s.states k.rest.each_call i e e' there (ap (λ (c : BegunCall). c ∷ []) same_call ∙ sym (ap (flying_in e) flies));
        counts = λ p state at_p. ⊎_elim
            (λ (mine : (p ≡ i) × (e' ≡ state)).
            subst (CountsUpTo first begun p) mine.1 (counts_as first begun i p e e' mine.0 (let one = one_flies in omega arith) (k.rest.counts i e there)))
            (λ (other : (p ≢ i) × (get_elem? s.states p ≡ some state)). k.rest.counts p state other.1)
            (at_set s.states i p e' state at_p);
      };
    }

    pub goes_on : IsIndex (stepped_index s i e m n) → Kept first begun calls (stepped_index s i e m n)
    goes_on index =
        let same : Path Index going_index (stepped_index s i e m n) = (λ t. record s {
          words = acted s.layout s.words (running_asks m);
          states = slice_set s.states i (state_after e (sym is t));
          history = s.history ++ written e.caller e.index (counted (stage_of m));
          spare = n;
        }) in
        subst (Kept first begun calls) same (going (subst IsIndex (sym same) index))

  -- it is answered
  module _ (answer : Once Placed) (is : running_turned m x ≡ Done answer) (n : ℕ) (few : AreCounted first begun) (part : Option PartWords) where
    abbrev done : PartyState
    done = record e { index = index_after e.index answer; machine = None }

    abbrev call : AnsweredCall
    call = record { call = flying_call e m; until = length s.history; answer = answer; part = part; whole = false; next = index_after e.index answer }

    -- its index isn't at the end
    next_here : IsNext e.index (index_after e.index answer) false answer
    next_here =
        let counts = k.rest.counts i e there in
        let most = counts.most in
        let one = one_flies in
        let below = few i counts.was counts.there in
        next_is e.index answer (min-eq_left (omega arith))

    ends : EndsWith m answer
    ends = ends_with m x answer sound.here is

    -- the step counts nothing
    unwritten : s.history ++ written e.caller e.index (counted (stage_of m)) ≡ s.history
    unwritten = ap (λ (o : Option Change). s.history ++ written e.caller e.index o) (last_counts_nothing m x answer sound.here is) ∙ append-nil s.history

    before_it : (j : ℕ) (c : AnsweredCall) → get_elem? calls j ≡ some c → c.call.caller ≡ e.caller → (c.next ≤ e.index) × (c.until ≤ e.since)
    before_it j c at caller = subst (IsEarlier c e) flies (k.rest.earlier j c i e at there (caller ∙ own.caller))

    tells_it : (r : Once Placed) → IsAnswerOf first.layout.slots base s.history e (op_in m) (running_call m).limit r → AnswerHolds first.layout.slots base s.history (flying_call e m) (length s.history) r
    tells_it (once.Done placed) took = (took, took.within)
    tells_it (once.Spent clock) says = says
    tells_it (once.Worn node word) says = tt
    tells_it (once.Again why) says = says

    -- its place was the one that it is told
    placed_by : (r : Once Placed) (place : ℕ) (change : Change) → EndsWith m r → placed_in (stage_of m) ≡ Some place → change_of (op_in m) ≡ Some change
        → (placed : Placed) × (r ≡ once.Done placed) × (placed.place ≡ place)
    placed_by (once.Done placed) place change ending stands asks =
        let both : Some placed.place ≡ Some place = ap (λ (o : Option Change). place_for o placed.place) (sym asks) ∙ sym ending.0 ∙ stands in
        (placed, refl, some_same both)
    placed_by (once.Spent clock) place change ending stands asks = absurd (let both : None ≡ Some place = sym ending.0 ∙ stands in cc)
    placed_by (once.Worn node word) place change ending stands asks = absurd (let both : None ≡ Some place = sym ending ∙ stands in cc)
    placed_by (once.Again why) place change ending stands asks = absurd (let both : None ≡ Some place = sym ending.0 ∙ stands in cc)

    writes_done : EachWriteIsOfACall (calls ++ call ∷ []) (set s.states i done) s.history
    writes_done place write stands =
        ⊎_elim
        (λ (w : IsAnsweredWrite calls place write). inl (answered_longer calls (call ∷ []) w))
        (λ (w : IsWriteInFlight s.states place write). ⊎_elim
        (λ (party : w.party ≡ i).
        let here = subst (λ (j : ℕ). get_elem? s.states j ≡ some w.state) party w.there in
        let state : w.state ≡ e = some-injective _ _ (sym here ∙ there) in
        let machine : w.machine ≡ m = machine_there w.state w.machine here w.flies in
        let asks : change_of (op_in m) ≡ Some write.change = ap (λ (q : Running). change_of (op_in q)) (sym machine) ∙ w.change in
        let by = placed_by answer place write.change ends (ap (λ (q : Running). placed_in (stage_of q)) (sym machine) ∙ w.place) asks in
        inl (answered_last calls call by.0 by.1 by.2 (w.caller ∙ ap (λ (d : PartyState). d.caller) state) (w.index ∙ ap (λ (d : PartyState). d.index) state) asks))
        (λ (other : w.party ≢ i). inr (flies_elsewhere s.states i done w other))
        (cases_eq w.party i))
        (k.rest.writes place write stands)

    abbrev done_index : Index
    done_index = record s { words = acted s.layout s.words (running_asks m); states = slice_set s.states i done; spare = n }

    answered : IsAnswerOf first.layout.slots base s.history e (op_in m) (running_call m).limit answer → CallLists base s.history (op_in m) (count_in m) answer part → IsIndex done_index
        → Kept first begun (calls ++ call ∷ []) done_index
    answered says lists index = record {
      index = index;
      layout_is = k.layout_is;
      rest = record {
        told = record {
          base_is = k.rest.told.base_is;
          holds = λ j c at. ⊎_elim
              (λ (old : get_elem? calls j ≡ some c). k.rest.told.holds j c old)
              (λ (last : (j ≡ length calls) × (call ≡ c)).
              subst (CallHolds first.layout.slots base s.history) last.1 (tells_it answer says, omega arith, lists))
              (at_end calls call c j at);
          order = in_order_more calls call k.rest.told.order before_it;
          next = λ j c at. ⊎_elim
              (λ (old : get_elem? calls j ≡ some c). k.rest.told.next j c old)
              (λ (last : (j ≡ length calls) × (call ≡ c)). subst (λ (d : AnsweredCall). IsNext d.call.index d.next d.whole d.answer) last.1 next_here)
              (at_end calls call c j at);
          indexes = indexes_push first calls call k.rest.told.indexes (subst (λ (q : ℕ). IsNextIndex first calls q e.index) (sym own.caller) (k.rest.states_count i e there));
        };
        earlier = λ j c p state at at_p caller. ⊎_elim
            (λ (mine : (p ≡ i) × (done ≡ state)). ⊎_elim
            (λ (old : get_elem? calls j ≡ some c).
            let before = (before_it j c old (caller ∙ mine.0 ∙ sym own.caller)).0 in
            let more = (next_near e.index done.index false answer next_here).0 in
            let less : c.next ≤ done.index = omega arith in
            subst (λ (d : PartyState). IsEarlier c d d.machine) mine.1 less)
            (λ (last : (j ≡ length calls) × (call ≡ c)). subst (λ (q : PartyState × AnsweredCall). IsEarlier q.1 q.0 q.0.machine) (λ t. (mine.1 t, last.1 t)) (let here : call.next ≤ done.index = omega arith in here))
            (at_end calls call c j at))
            (λ (other : (p ≢ i) × (get_elem? s.states p ≡ some state)). ⊎_elim
            (λ (old : get_elem? calls j ≡ some c). k.rest.earlier j c p state old other.1 caller)
            (λ (last : (j ≡ length calls) × (call ≡ c)). absurd (other.0 (sym caller ∙ ap (λ (d : AnsweredCall). d.call.caller) (sym last.1) ∙ own.caller)))
            (at_end calls call c j at))
            (at_set s.states i p done state at_p);
        writes = writes_done;
        states_count = states_set first (calls ++ call ∷ []) s.states i done
            (λ p state other at_p. next_other first calls call p state.index (λ same. other (sym same ∙ own.caller)) (k.rest.states_count p state at_p))
            (next_own first calls call i e.index done.index own.caller next_here (k.rest.states_count i e there));
        each_call = each_ends begun calls s.states k.rest.each_call i e done there call (ap (flying_in e) flies) refl;
        counts = λ p state at_p. ⊎_elim
            (λ (mine : (p ≡ i) × (done ≡ state)).
            let near = (next_near e.index done.index false answer next_here).1 in
            let one = one_flies in
            subst (CountsUpTo first begun p) mine.1 (counts_as first begun i p e done mine.0 (omega arith) (k.rest.counts i e there)))
            (λ (other : (p ≢ i) × (get_elem? s.states p ≡ some state)). k.rest.counts p state other.1)
            (at_set s.states i p done state at_p);
      };
    }

    pub is_answered : IsAnswerOf s.layout.slots (map_of (stepped_index s i e m n).base) (stepped_index s i e m n).history e (op_in m) (running_call m).limit answer
        → CallLists (map_of (stepped_index s i e m n).base) (stepped_index s i e m n).history (op_in m) (count_in m) answer part → IsIndex (stepped_index s i e m n)
        → Kept first begun (calls ++ record { call = flying_call e m; until = length (stepped_index s i e m n).history; answer = answer; part = part; whole = false; next = index_after e.index answer } ∷ []) (stepped_index s i e m n)
    is_answered says lists index =
        let same : Path Index done_index (stepped_index s i e m n) = (λ t. record s {
          words = acted s.layout s.words (running_asks m);
          states = slice_set s.states i (state_after e (sym is t));
          history = sym unwritten t;
          spare = n;
        }) in
        let says_now : IsAnswerOf first.layout.slots base s.history e (op_in m) (running_call m).limit answer =
        subst (λ (q : ℕ × (Map × List Write)). IsAnswerOf q.0 q.1.0 q.1.1 e (op_in m) (running_call m).limit answer) (λ t. ((k.layout_is t).slots, (k.rest.told.base_is t, unwritten t))) says in
        let lists_now : CallLists base s.history (op_in m) (count_in m) answer part = subst (λ (q : Map × List Write). CallLists q.0 q.1 (op_in m) (count_in m) answer part) (λ t. (k.rest.told.base_is t, unwritten t)) lists in
        subst (λ (v : Index). Kept first begun (calls ++ record { call = flying_call e m; until = length v.history; answer = answer; part = part; whole = false; next = index_after e.index answer } ∷ []) v) same (answered says_now lists_now (subst IsIndex (sym same) index))
