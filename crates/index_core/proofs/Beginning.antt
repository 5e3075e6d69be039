-- What holds along a schedule stays with a start, and with a whole call that is alone.
use Rattle.std.proofs.Common.{◌≡◌, true, ◌==◌, ◌≢◌, ℕ, ◌+◌, ◌<◌, ◌≤◌, ◌⊎◌, inl, inr, ⊎_elim, List, [], ◌∷◌, ◌++◌, length, set, slice_set, refl, sym, ap, ◌∙◌, subst, arith}
use Rattle.std.specs.Prelude.{Option, Some, None, IfSome, IsSomeAnd, slice_get}
use Rattle.std.proofs.lemmas.List.{append-nil, length-append}
use Rattle.std.proofs.Math.Nat.{min-eq_left}
use Rattle.std.proofs.lemmas.Bool.{cases_lt}
use Rattle.std.specs.FinMap.{len}
use mathlib.Core.Option.{some, some-injective}
use lib.ListN.{get_elem?}
use Rattle.pm_words.specs.declared.layout.Layout.{Layout}
use Rattle.cat_history.specs.Maps.{Map, at, map_of}
use Rattle.cat_history.specs.Writes.{after, after_all}
use Rattle.cat_history.specs.declared.op.Change.{Change}
use Rattle.cat_history.specs.declared.op.Change.TheVariants as change
use Rattle.cat_history.specs.declared.op.NameOp.{NameOp}
use Rattle.cat_history.specs.declared.op.NameOp.TheVariants as op
use Rattle.cat_history.specs.declared.op.Write.{Write}
use Rattle.call_stages.specs.declared.once.Once.{Once}
use Rattle.call_stages.specs.declared.once.Once.TheVariants as once
use Rattle.call_stages.specs.declared.once.Placed.{Placed}
use Rattle.node_ops.specs.declared.running.Running.{Running}
use Rattle.cat_history.specs.Records.{change_of, interval_at}
use Rattle.node_ops.specs.Asked.{IsOf, name_asked}
use Rattle.node_ops.proofs.OpLaw.{op_told}
use Rattle.node_ops.specs.Endings.{IsPutOp}
use Rattle.std.specs.FinMap.{keys}
use Rattle.shapes.proofs.Shapes.{len-keys}
use Rattle.shapes.proofs.NameLists.{filter-short}
use Rattle.index_law.specs.Worlds.{written}
use Rattle.index_law.proofs.Maps.{after-longer, after-whole, slice_get-last}
use Rattle.index_law.proofs.Parties.{at_set}
use Rattle.index_core.specs.declared.party.CoreCall.{CoreCall}
use Rattle.index_core.specs.declared.party.CoreCall.TheVariants as call
use Rattle.index_core.specs.declared.party.PartyState.{PartyState}
use Rattle.index_core.specs.declared.party.Whole.{Whole}
use Rattle.index_core.specs.declared.party.Whole.TheVariants as whole
use Rattle.index_core.specs.Answers.{TookPlace, FoundNoRoom, HasOwnWrite}
use Rattle.node_ops.specs.PartSteps.{words_placed}
use Rattle.index_core.specs.CoreCalls.{machine_of, op_of, limit_of, count_of}
use Rattle.index_core.specs.Listings.{ListsRange}
use Rattle.index_core.specs.PartyStates.{state_with, next_index}
use Rattle.index_core.specs.Indexes.{Index, IsIndex, map_of_index, view_of, started_index}
use Rattle.index_core.specs.Lone.{HasNoCalls, FindsNoRoom, names_beside, node_for, IsWholeAnswer, most_tries, alone_writes, state_done}
use Rattle.index_core.specs.Schedules.{BegunCall, AnsweredCall, begun_call, flying_call, once_of, listed_of, CallLists, IsNext, IsNextIndex, flying_in, IsAnsweredWrite, IsWriteInFlight, AreCounted}
use Rattle.index_core.proofs.Stepping.{begins_limit, begins_count}
use Rattle.index_core.proofs.Flights.{each_starts, each_alone}
use Rattle.index_core.proofs.Indexed.{next_other, next_own, indexes_push, states_set}
use Rattle.index_core.proofs.Lists.{at_end, got_end}
use Rattle.index_core.proofs.Scheduling.{IsEarlier, AnswerHolds, CallHolds, in_flight, CountsUpTo, Kept, longer_call, flies_elsewhere, answered_last, answered_longer, in_order_more}

-- a limit that isn't reached is above
below_limit : (limit : Option ℕ) (count : ℕ) → (IsSomeAnd limit (λ most. most ≤ count) → ⊥) → IfSome limit (λ most. count < most)
below_limit None count none = tt
below_limit (Some most) count none = elim (cases_lt count most) [
  | inl below ↦ below
  | inr above ↦ absurd (none above)
]

-- a call with a count is a part of a scan, which has no limit and writes nothing
counts_is : {P : ℕ → Type 0} (o : Option ℕ) → IsSomeAnd o P → (count : ℕ) × (o ≡ Some count) × P count
counts_is None is = absurd is
counts_is (Some count) is = (count, refl, is)

counts_part : (c : CoreCall) (count : ℕ) → count_of c ≡ Some count → (limit_of c ≡ None) × (change_of (op_of c) ≡ None)
counts_part (call.Put name value limit) count is = absurd cc
counts_part (call.Get name) count is = absurd cc
counts_part (call.Del name limit) count is = absurd cc
counts_part (call.Part low most) count is = (refl, refl)
counts_part (call.Recheck node version) count is = absurd cc
counts_part (call.Turn stamp release) count is = absurd cc

-- what doesn't take place lists nothing
none_lists : (base : Map) (history : List Write) (o : NameOp) (count : Option ℕ) (answer : Once Placed) → ((placed : Placed) → answer ≡ once.Done placed → ⊥) → CallLists base history o count answer None
none_lists base history o None answer unplaced = refl
none_lists base history o (Some count) (once.Done placed) unplaced = absurd (unplaced placed refl)
none_lists base history o (Some count) (once.Spent clock) unplaced = refl
none_lists base history o (Some count) (once.Worn node word) unplaced = refl
none_lists base history o (Some count) (once.Again why) unplaced = refl

-- one call more of a party that is idle
module _ (first : Index) (begun : List BegunCall) (calls : List AnsweredCall) (s : Index) (i : ℕ) (e : PartyState) (c : CoreCall) (k : Kept first begun calls s) (there : get_elem? s.states i ≡ some e) (idle : e.machine ≡ None) where
  abbrev b : BegunCall
  b = begun_call e (length s.history) c

  abbrev more : List BegunCall
  more = begun ++ b ∷ []

  module _ (few : AreCounted first more) where
    longer : length more ≡ length begun + 1
    longer = length-append begun (b ∷ [])

    -- its index isn't at the end
    went_up : next_index e.index ≡ e.index + 1
    went_up =
        let counts = k.rest.counts i e there in
        let most = counts.most in
        let below = few i counts.was counts.there in
        let long = longer in
        min-eq_left (omega arith)

    counts_more : (now : PartyState) → now.index + in_flight now.machine ≤ e.index + 1 → (p : ℕ) (state : PartyState) → get_elem? (set s.states i now) p ≡ some state → CountsUpTo first more p state
    counts_more now one_more p state at_p =
        let long = longer in
        ⊎_elim
        (λ (mine : (p ≡ i) × (now ≡ state)).
        let counts = k.rest.counts i e there in
        let most = counts.most in
        subst (CountsUpTo first more p) mine.1 (record { was = counts.was; there = ap (get_elem? first.states) mine.0 ∙ counts.there; most = omega arith }))
        (λ (other : (p ≢ i) × (get_elem? s.states p ≡ some state)).
        let counts = k.rest.counts p state other.1 in
        let most = counts.most in
        record { was = counts.was; there = counts.there; most = omega arith })
        (at_set s.states i p now state at_p)

    module _ (n : ℕ) (of : IsOf (op_of c) (machine_of (view_of s i) c)) where
      abbrev m : Running
      m = machine_of (view_of s i) c

      abbrev now : PartyState
      now = state_with e (length s.history) m

      now_flies : flying_call now m ≡ b
      now_flies = λ t. record { caller = e.caller; index = e.index; op = op_told (op_of c) m of t; limit = begins_limit s i c t; count = begins_count (view_of s i) c t; since = length s.history }

      pub kept_start : IsIndex (started_index s i e c n) → Kept first more calls (started_index s i e c n)
      kept_start index = record {
        index = index;
        layout_is = k.layout_is;
        rest = record {
          told = k.rest.told;
          earlier = λ j a p state at at_p caller. ⊎_elim
              (λ (mine : (p ≡ i) × (now ≡ state)).
              let before : a.next ≤ e.index = subst (IsEarlier a e) idle (k.rest.earlier j a i e at there (caller ∙ mine.0)) in
              subst (λ (d : PartyState). IsEarlier a d d.machine) mine.1 (before, (k.rest.told.holds j a at).1))
              (λ (other : (p ≢ i) × (get_elem? s.states p ≡ some state)). k.rest.earlier j a p state at other.1 caller)
              (at_set s.states i p now state at_p);
          writes = λ place write stands. ⊎_elim
              (λ (w : IsAnsweredWrite calls place write). inl w)
              (λ (w : IsWriteInFlight s.states place write). inr (flies_elsewhere s.states i now w (elsewhere w.party w.state w.machine w.there w.flies)))
              (k.rest.writes place write stands);
          states_count = states_set first calls s.states i now (λ p state other at_p. k.rest.states_count p state at_p) (k.rest.states_count i e there);
          each_call = each_starts begun calls s.states k.rest.each_call i e now there b (ap (flying_in e) idle) (ap (λ (c : BegunCall). c ∷ []) now_flies);
          counts = counts_more now (omega arith);
        };
      }
        where
          -- no call is in flight there
          elsewhere : (p : ℕ) (state : PartyState) (machine : Running) → get_elem? s.states p ≡ some state → state.machine ≡ Some machine → p ≢ i
          elsewhere p state machine at flown same =
              let here : state ≡ e = some-injective _ _ (sym (subst (λ (j : ℕ). get_elem? s.states j ≡ some state) same at) ∙ there) in
              let both : None ≡ Some machine = sym idle ∙ ap (λ (d : PartyState). d.machine) (sym here) ∙ flown in
              cc

    -- a whole call
    module _ (result : Whole) (new : Index) (free : HasNoCalls s) (is : IsWholeAnswer (most_tries c) s i c new result) where
      abbrev base : Map
      base = map_of first.base

      abbrev history : List Write
      history = s.history ++ alone_writes e.caller e.index c result

      abbrev a : AnsweredCall
      a = record { call = b; until = length history; answer = once_of result; part = listed_of result; whole = true; next = next_index e.index }

      abbrev done : PartyState
      done = state_done e (length s.history)

      map_is : (h : List Write) (place : ℕ) → place ≡ length s.history → after base (s.history ++ h) place ≡ map_of_index s
      map_is h place last =
          after-longer base s.history h place (omega arith) ∙ after-whole base s.history place last ∙ ap (λ (m : Map). after_all m s.history) (sym k.rest.told.base_is)

      -- it took place at the end of the history, as one that writes
      took_write : (o : NameOp) (d : Change) (placed : Placed) → (interval_at o placed.place).end ≡ placed.place + 1 → change_of o ≡ Some d → IfSome (limit_of c) (λ most. length s.history < most)
          → placed.old ≡ at (map_of_index s) (name_asked o) → placed.place ≡ length s.history
          → TookPlace base (s.history ++ written e.caller e.index (Some d)) e.caller e.index (length s.history) o (limit_of c) placed
      took_write o d placed ends writes below old last =
          let w : Write = record { caller = e.caller; index = e.index; change = d } in
          let long = length-append s.history (w ∷ []) in
          let stands : slice_get (s.history ++ w ∷ []) placed.place ≡ Some w = ap (slice_get (s.history ++ w ∷ [])) last ∙ slice_get-last s.history w in
          record {
            later = omega arith;
            within = omega arith;
            below = below;
            old = old ∙ ap (λ (m : Map). at m (name_asked o)) (sym (map_is (w ∷ []) placed.place last));
            write = subst (λ (q : Option Change). HasOwnWrite (s.history ++ w ∷ []) e.caller e.index q placed.place) (sym writes) stands;
          }

      -- or as any
      took : (o : NameOp) (placed : Placed) → IfSome (limit_of c) (λ most. length s.history < most) → placed.old ≡ at (map_of_index s) (name_asked o) → placed.place ≡ length s.history
          → TookPlace base (s.history ++ written e.caller e.index (change_of o)) e.caller e.index (length s.history) o (limit_of c) placed
      took (op.Get name) placed below old last =
          let long = length-append s.history [] in
          record { later = omega arith; within = omega arith; below = below; old = old ∙ ap (λ (m : Map). at m name) (sym (map_is [] placed.place last)); write = tt }
      took (op.Put name value) placed below old last = took_write (op.Put name value) (change.Put name value) placed refl refl below old last
      took (op.Del name) placed below old last = took_write (op.Del name) (change.Del name) placed refl refl below old last

      -- a put that found no room found none at the end of the history
      lacked_room : (d : CoreCall) → FindsNoRoom d s → IsPutOp (op_of d) × FoundNoRoom first.layout.slots base (s.history ++ []) (length s.history) (length (s.history ++ [])) (name_asked (op_of d))
      lacked_room (call.Put name value limit) none =
          let same : after base (s.history ++ []) (length s.history) ≡ map_of_index s = map_is [] (length s.history) refl in
          let long = length-append s.history [] in (
            tt,
            record {
              clock = length s.history;
              later = omega arith;
              within = omega arith;
              lacked = ap (λ (m : Map). at m name) same ∙ none.0.0;
              many =
                  let all : len (after base (s.history ++ []) (length s.history)) ≡ length (keys (map_of_index s)) = ap len same ∙ len-keys (map_of_index s) in
                  let some_of = filter-short (λ other. node_for s other == node_for s name) (keys (map_of_index s)) in
                  let full : length (names_beside s name) ≡ first.layout.slots = none.0.1 ∙ ap (λ (l : Layout). l.slots) k.layout_is in
                  omega arith;
            },
          )
      lacked_room (call.Get name) none = absurd none
      lacked_room (call.Del name limit) none = absurd none
      lacked_room (call.Part low count) none = absurd none
      lacked_room (call.Recheck node version) none = absurd none
      lacked_room (call.Turn stamp release) none = absurd none

      tells : (r : Whole) → IsWholeAnswer (most_tries c) s i c new r
          → AnswerHolds first.layout.slots base (s.history ++ alone_writes e.caller e.index c r) b (length (s.history ++ alone_writes e.caller e.index c r)) (once_of r)
      tells (whole.Placed placed) why = let both = took (op_of c) placed (below_limit (limit_of c) (length s.history) why.1.1) why.2 why.3 in (both, both.within)
      tells (whole.Part words) why =
          let counted = counts_is (count_of c) why.1 in
          let part = counts_part c counted.0 counted.1 in
          let below : IfSome (limit_of c) (λ most. length s.history < most) = subst (λ (o : Option ℕ). IfSome o (λ most. length s.history < most)) (sym part.0) tt in
          let both : TookPlace base (s.history ++ []) e.caller e.index (length s.history) (op_of c) (limit_of c) (words_placed words) =
          subst (λ (o : Option Change). TookPlace base (s.history ++ written e.caller e.index o) e.caller e.index (length s.history) (op_of c) (limit_of c) (words_placed words)) part.1
          (took (op_of c) (words_placed words) below counted.2.old counted.2.place) in
          (both, both.within)
      tells (whole.Same place') why = absurd why
      tells (whole.Turned turned) why = absurd why
      tells whole.Full why = λ full. lacked_room c why.2
      tells (whole.Spent clock) why =
          let last = why.2 in
          let long = length-append s.history [] in
          record { reached = subst (λ (n : ℕ). IsSomeAnd (limit_of c) (λ limit. limit ≤ n)) (sym why.2) why.1; later = omega arith; within = omega arith }
      tells (whole.Worn node word) why = tt

      -- a part lists the map as it was at the end of the history
      lists : (r : Whole) → IsWholeAnswer (most_tries c) s i c new r → CallLists base (s.history ++ alone_writes e.caller e.index c r) (op_of c) (count_of c) (once_of r) (listed_of r)
      lists (whole.Placed placed) why = subst (λ (o : Option ℕ). CallLists base (s.history ++ alone_writes e.caller e.index c (whole.Placed placed)) (op_of c) o (once.Done placed) None) (sym why.0) refl
      lists (whole.Part words) why =
          let counted = counts_is (count_of c) why.1 in
          subst (λ (o : Option ℕ). CallLists base (s.history ++ []) (op_of c) o (once.Done (words_placed words)) (Some words)) (sym counted.1)
          (record { placed_so = refl; lists = subst (λ (m : Map). ListsRange m (name_asked (op_of c)) counted.0 words) (sym (map_is [] words.place counted.2.place)) counted.2.lists })
      lists (whole.Same place') why = absurd why
      lists (whole.Turned turned) why = absurd why
      lists whole.Full why = none_lists base _ (op_of c) (count_of c) _ (λ placed is. cc)
      lists (whole.Spent clock) why = none_lists base _ (op_of c) (count_of c) _ (λ placed is. cc)
      lists (whole.Worn node word) why = none_lists base _ (op_of c) (count_of c) _ (λ placed is. cc)

      -- its write is the last
      last_write : (r : Whole) → IsWholeAnswer (most_tries c) s i c new r → (place : ℕ) (write : Write) → slice_get (s.history ++ alone_writes e.caller e.index c r) place ≡ Some write
          → (slice_get s.history place ≡ Some write) ⊎ ((placed : Placed) × (once_of r ≡ once.Done placed) × (placed.place ≡ place) × (write.caller ≡ e.caller) × (write.index ≡ e.index) × (change_of (op_of c) ≡ Some write.change))
      last_write (whole.Placed placed) why place write stands = at (change_of (op_of c)) refl stands
        where
          at : (o : Option Change) → change_of (op_of c) ≡ o → slice_get (s.history ++ written e.caller e.index o) place ≡ Some write
              → (slice_get s.history place ≡ Some write) ⊎ ((q : Placed) × (once_of (whole.Placed placed) ≡ once.Done q) × (q.place ≡ place) × (write.caller ≡ e.caller) × (write.index ≡ e.index) × (change_of (op_of c) ≡ Some write.change))
          at None asks stands = inl (subst (λ (h : List Write). slice_get h place ≡ Some write) (append-nil s.history) stands)
          at (Some change) asks stands =
              ⊎_elim
              (λ (before : slice_get s.history place ≡ Some write). inl before)
              (λ (last : (place ≡ length s.history) × (record { caller = e.caller; index = e.index; change = change } ≡ write)).
              inr (placed, refl, why.3 ∙ sym last.0, ap (λ (w : Write). w.caller) (sym last.1), ap (λ (w : Write). w.index) (sym last.1), asks ∙ ap (λ (w : Write). Some w.change) last.1))
              (got_end s.history (record { caller = e.caller; index = e.index; change = change }) write place stands)
      last_write (whole.Part words) why place write stands = inl (subst (λ (h : List Write). slice_get h place ≡ Some write) (append-nil s.history) stands)
      last_write (whole.Same place') why place write stands = absurd why
      last_write (whole.Turned turned) why place write stands = absurd why
      last_write whole.Full why place write stands = inl (subst (λ (h : List Write). slice_get h place ≡ Some write) (append-nil s.history) stands)
      last_write (whole.Spent clock) why place write stands = inl (subst (λ (h : List Write). slice_get h place ≡ Some write) (append-nil s.history) stands)
      last_write (whole.Worn node word) why place write stands = inl (subst (λ (h : List Write). slice_get h place ≡ Some write) (append-nil s.history) stands)

      -- it counts whatever it is answered
      next_alone : (r : Whole) → IsNext e.index (next_index e.index) true (once_of r)
      next_alone (whole.Placed placed) = went_up
      next_alone (whole.Part words) = went_up
      next_alone (whole.Same place') = went_up
      next_alone (whole.Turned turned) = went_up
      next_alone whole.Full = went_up
      next_alone (whole.Spent clock) = went_up
      next_alone (whole.Worn node word) = went_up

      before_it : (j : ℕ) (d : AnsweredCall) → get_elem? calls j ≡ some d → d.call.caller ≡ i → d.next ≤ e.index
      before_it j d at caller = subst (IsEarlier d e) idle (k.rest.earlier j d i e at there caller)

      caller_is : e.caller ≡ i
      caller_is = (k.index.states i e there).caller

      -- the index after it, as far as schedules speak of it
      abbrev after_it : Index → Index
      after_it new = record new { states = slice_set s.states i done; base = s.base; history = history }

      pub kept_alone : (new : Index) → new.layout ≡ s.layout → IsIndex (after_it new) → Kept first more (calls ++ a ∷ []) (after_it new)
      kept_alone new layout index = record {
        index = index;
        layout_is = layout ∙ k.layout_is;
        rest = record {
          told = record {
            base_is = k.rest.told.base_is;
            holds = λ j d at. ⊎_elim
                (λ (old : get_elem? calls j ≡ some d). longer_call first.layout.slots base s.history (alone_writes e.caller e.index c result) d (k.rest.told.holds j d old))
                (λ (last : (j ≡ length calls) × (a ≡ d)). subst (CallHolds first.layout.slots base history) last.1 (tells result is, omega arith, lists result is))
                (at_end calls a d j at);
            order = in_order_more calls a k.rest.told.order (λ p u at caller. (before_it p u at (caller ∙ caller_is), (k.rest.told.holds p u at).1));
            next = λ j d at. ⊎_elim
                (λ (old : get_elem? calls j ≡ some d). k.rest.told.next j d old)
                (λ (last : (j ≡ length calls) × (a ≡ d)). subst (λ (q : AnsweredCall). IsNext q.call.index q.next q.whole q.answer) last.1 (next_alone result))
                (at_end calls a d j at);
            indexes = indexes_push first calls a k.rest.told.indexes (subst (λ (q : ℕ). IsNextIndex first calls q e.index) (sym caller_is) (k.rest.states_count i e there));
          };
          earlier = λ j d p state at at_p caller. ⊎_elim
              (λ (mine : (p ≡ i) × (done ≡ state)). let up = went_up in ⊎_elim
              (λ (old : get_elem? calls j ≡ some d).
              let before = before_it j d old (caller ∙ mine.0) in
              let less : d.next ≤ done.index = omega arith in
              subst (λ (q : PartyState). IsEarlier d q q.machine) mine.1 less)
              (λ (last : (j ≡ length calls) × (a ≡ d)).
              let less : a.next ≤ done.index = omega arith in
              subst (λ (q : PartyState × AnsweredCall). IsEarlier q.1 q.0 q.0.machine) (λ t. (mine.1 t, last.1 t)) less)
              (at_end calls a d j at))
              (λ (other : (p ≢ i) × (get_elem? s.states p ≡ some state)). ⊎_elim
              (λ (old : get_elem? calls j ≡ some d). k.rest.earlier j d p state old other.1 caller)
              (λ (last : (j ≡ length calls) × (a ≡ d)). absurd (other.0 (sym caller ∙ ap (λ (q : AnsweredCall). q.call.caller) (sym last.1) ∙ caller_is)))
              (at_end calls a d j at))
              (at_set s.states i p done state at_p);
          writes = λ place write stands. inl (⊎_elim
              (λ (before : slice_get s.history place ≡ Some write). ⊎_elim
              (λ (w : IsAnsweredWrite calls place write). answered_longer calls (a ∷ []) w)
              (λ (w : IsWriteInFlight s.states place write). absurd (none_flies w.party w.state w.machine w.there w.flies))
              (k.rest.writes place write before))
              (λ last. answered_last calls a last.0 last.1 last.2 last.3 last.4 last.5)
              (last_write result is place write stands));
          states_count = states_set first (calls ++ a ∷ []) s.states i done
              (λ p state other at_p. next_other first calls a p state.index (λ same. other (sym same ∙ caller_is)) (k.rest.states_count p state at_p))
              (next_own first calls a i e.index done.index caller_is (next_alone result) (k.rest.states_count i e there));
          each_call = each_alone begun calls s.states k.rest.each_call i e done there a (ap (flying_in e) idle) refl;
          counts = counts_more done (let up = went_up in omega arith);
        };
      }
        where
          none_flies : (p : ℕ) (state : PartyState) (machine : Running) → get_elem? s.states p ≡ some state → state.machine ≡ Some machine → ⊥
          none_flies p state machine at flown = let both : None ≡ Some machine = sym (free p state at) ∙ flown in cc
