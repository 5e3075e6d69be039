-- How far past a limit the writes of a schedule are placed.
use Rattle.std.proofs.Common.{◌≡◌, ◌≢◌, ℕ, ◌+◌, ◌<◌, ◌≤◌, ◌⊎◌, ⊎_elim, List, [], ◌∷◌, length, refl, sym, ap, ◌∙◌, subst, arith}
use Rattle.std.specs.Prelude.{Option, Some, None, IfSome, Contains, slice_get}
use Rattle.std.proofs.lemmas.Bool.{cases_order}
use Rattle.std.proofs.lemmas.List.{get_or-map, length-map}
use Rattle.std.proofs.lemmas.List.Elements.{All-contains}
use mathlib.Core.Option.{some, some-injective}
use lib.ListN.{get_elem?}
use Rattle.cat_history.specs.Callers.{PlacesKeepLimit}
use Rattle.cat_history.proofs.CallerLemmas.{late_writes_are_few}
use Rattle.cat_history.specs.Maps.{map_of}
use Rattle.cat_history.specs.Records.{interval_at, change_of}
use Rattle.cat_history.specs.declared.op.Change.{Change}
use Rattle.cat_history.specs.declared.op.NameOp.{NameOp}
use Rattle.cat_history.specs.declared.op.NameOp.TheVariants as op
use Rattle.cat_history.specs.declared.op.Write.{Write}
use Rattle.call_stages.specs.declared.once.Once.TheVariants as once
use Rattle.call_stages.specs.declared.once.Placed.{Placed}
use Rattle.call_stages.specs.Stages.{Stage, Idle, Saw, Wears, Reads, Holds, Eyes, Splits, Leaves, Meets, Joins, placed_in}
use Rattle.node_ops.specs.declared.running.Running.{Running}
use Rattle.node_ops.specs.RunningSteps.{running_call}
use Rattle.node_ops.specs.CallStages.{stage_of}
use Rattle.index_law.specs.Worlds.{facts}
use Rattle.index_law.specs.Lawful.{Sure}
use Rattle.index_core.specs.declared.party.PartyState.{PartyState}
use Rattle.index_core.specs.PartyStates.{machine_stage, party_of}
use Rattle.index_core.specs.Indexes.{Index, IsIndex, world}
use Rattle.index_core.specs.Schedules.{BegunCall, AnsweredCall, flying_call, IsAnsweredWrite, IsWriteInFlight, CarryLimit, callers_of}
use Rattle.index_core.proofs.Crashing.{placed_later}
use Rattle.index_core.proofs.Flights.{answered_begun, flying_begun}
use Rattle.index_core.proofs.Lists.{map_there, some_same}
use Rattle.node_ops.specs.Endings.{limit_in}
use Rattle.node_ops.proofs.Endings.{placed_is_in_time}
use Rattle.index_core.proofs.Scheduling.{IsEarlier, AnswerHolds, Kept}

-- where an interval ends, if it is of a write
pub write_end : (o : NameOp) (place : ℕ) (change : Change) → change_of o ≡ Some change → place < (interval_at o place).end
write_end (op.Put _ _) place change asks = omega arith
write_end (op.Get _) place change asks = absurd cc
write_end (op.Del _) place change asks = omega arith

-- a call that has a place began below its limit
pub began_below : (s : Index) → IsIndex s → (i place : ℕ) (state : PartyState) (machine : Running) → get_elem? s.states i ≡ some state → state.machine ≡ Some machine → placed_in (stage_of machine) ≡ Some place
    → IfSome (running_call machine).limit (λ most. state.since < most)
began_below s is i place state machine there flies told =
    subst (λ (limit : Option ℕ). IfSome limit (λ most. state.since < most)) (placed_is_in_time machine (λ none. let both : None ≡ Some place = sym none ∙ told in cc))
    (at (stage_of machine) (subst (Sure s.layout s.generation (facts (world s)) state.caller state.index state.since) (ap machine_stage flies) (is.lawful.sure i (party_of state) (map_there party_of s.states i state there))))
  where
    at : (stage : Stage) → Sure s.layout s.generation (facts (world s)) state.caller state.index state.since stage → IfSome (limit_in stage) (λ most. state.since < most)
    at Idle sure = tt
    at (Saw n v w k) sure = tt
    at (Wears n v) sure = tt
    at (Reads n v sight None) sure = tt
    at (Reads n v sight (Some h)) sure = subst (λ (limit : Option ℕ). IfSome limit (λ most. state.since < most)) (sym sure.reader.unlimited) tt
    at (Eyes n w h m v u free) sure = sure.0.below
    at (Splits left fresh phase) sure = tt
    at (Leaves left) sure = tt
    at (Meets n w h right) sure = sure.0.below
    at (Joins h left right pace) sure = sure.call.below
    at (Holds n w h) sure = sure.below

-- the caller of a call stands among the callers
caller_there : (begun : List BegunCall) (c : BegunCall) → Contains begun c → Contains (callers_of begun) c.caller
caller_there begun c has =
    let long = length-map begun (λ (b : BegunCall). b.caller) in
    let within = has.1 in (
      has.0,
      omega arith,
      get_or-map (λ (b : BegunCall). b.caller) begun has.0 c c.caller within ∙ ap (λ (b : BegunCall). b.caller) has.2,
    )

pub first_there : (writes : List Write) → 0 < length writes → (write : Write) × (slice_get writes 0 ≡ Some write)
first_there [] many = absurd (omega arith)
first_there (write ∷ writes) many = (write, refl)

module _ (first : Index) (begun : List BegunCall) (calls : List AnsweredCall) (s : Index) (k : Kept first begun calls s) (limit : ℕ) (carry : CarryLimit limit begun) where
  -- a call that writes has the limit
  own_limit : (c : BegunCall) (change : Change) → Contains begun c → change_of c.op ≡ Some change → c.limit ≡ Some limit
  own_limit c change has asks =
      subst (λ (o : Option Change). IfSome o (λ change. c.limit ≡ Some limit)) asks (All-contains (λ (b : BegunCall). IfSome (change_of b.op) (λ change. b.limit ≡ Some limit)) begun c carry has)

  -- an answered call that wrote began below the limit, and ended past its place
  answered_below : (place : ℕ) (write : Write) (w : IsAnsweredWrite calls place write) → (w.answered.call.since < limit) × (w.answered.call.since ≤ place) × (place < w.answered.until)
  answered_below place write w =
      let a = w.answered in
      let holds : AnswerHolds first.layout.slots (map_of first.base) s.history a.call a.until (once.Done w.placed) =
      subst (AnswerHolds first.layout.slots (map_of first.base) s.history a.call a.until) w.answer (k.rest.told.holds w.number a w.there).0 in
      let end = write_end a.call.op w.placed.place write.change w.change in
      let ended = holds.1 in
      let began = holds.0.later in
      let same = w.place in
      let below : a.call.since < limit = subst (λ (o : Option ℕ). IfSome o (λ most. a.call.since < most)) (own_limit a.call write.change (answered_begun begun calls s.states k.rest.each_call w.number a w.there) w.change) holds.0.below in
      (below, omega arith, omega arith)

  -- and so did one in flight that has its place
  flown_below : (place : ℕ) (write : Write) (w : IsWriteInFlight s.states place write) → (w.state.since < limit) × (w.state.since ≤ place)
  flown_below place write w =
      let c = flying_call w.state w.machine in (
        subst (λ (o : Option ℕ). IfSome o (λ most. w.state.since < most)) (own_limit c write.change (flying_begun begun calls s.states k.rest.each_call w.party w.state w.machine w.there w.flies) w.change)
            (began_below s k.index w.party place w.state w.machine w.there w.flies w.place),
        placed_later s k.index w.party place w.state w.machine w.there w.flies w.place,
      )

  -- whoever wrote has a call, and the limit isn't 0
  by_caller : (place : ℕ) (write : Write) → slice_get s.history place ≡ Some write → Contains (callers_of begun) write.caller × (0 < limit)
  by_caller place write stands =
      ⊎_elim
      (λ (w : IsAnsweredWrite calls place write).
      let below = (answered_below place write w).0 in
      (subst (Contains (callers_of begun)) (sym w.caller) (caller_there begun w.answered.call (answered_begun begun calls s.states k.rest.each_call w.number w.answered w.there)), omega arith))
      (λ (w : IsWriteInFlight s.states place write).
      let below = (flown_below place write w).0 in
      (subst (Contains (callers_of begun)) (sym w.caller) (caller_there begun (flying_call w.state w.machine) (flying_begun begun calls s.states k.rest.each_call w.party w.state w.machine w.there w.flies)), omega arith))
      (k.rest.writes place write stands)

  -- where the limit was all but reached, a caller writes once
  alone : (p q : ℕ) (v w : Write) → slice_get s.history p ≡ Some v → slice_get s.history q ≡ Some w → p < q → limit ≤ p + 1 → v.caller ≢ w.caller
  alone p q v w at_p at_q less late same =
      ⊎_elim
      (λ (one : IsAnsweredWrite calls p v).
      let by = answered_below p v one in
      let past = by.2 in
      ⊎_elim
      (λ (two : IsAnsweredWrite calls q w).
      let on = answered_below q w two in
      let below = on.0 in
      let later = by.1 in
      let further = on.2 in
      ⊎_elim
      (λ (number : one.number ≡ two.number).
      let call : one.answered ≡ two.answered = some-injective _ _ (sym one.there ∙ ap (get_elem? calls) number ∙ two.there) in
      let answers : once.Done one.placed ≡ once.Done two.placed = sym one.answer ∙ ap (λ (a : AnsweredCall). a.answer) call ∙ two.answer in
      let place : p ≡ q = sym one.place ∙ done_place one.placed two.placed answers ∙ two.place in
      omega arith)
      (λ (apart : (one.number < two.number) ⊎ (two.number < one.number)). ⊎_elim
      (λ (before : one.number < two.number). let ended = (k.rest.told.order one.number two.number one.answered two.answered one.there two.there before (sym one.caller ∙ same ∙ two.caller)).1 in omega arith)
      (λ (after : two.number < one.number). let ended = (k.rest.told.order two.number one.number two.answered one.answered two.there one.there after (sym two.caller ∙ sym same ∙ one.caller)).1 in omega arith)
      apart)
      (cases_order one.number two.number))
      (λ (two : IsWriteInFlight s.states q w).
      let below = (flown_below q w two).0 in
      let party : one.answered.call.caller ≡ two.party = sym one.caller ∙ same ∙ two.caller ∙ (k.index.states two.party two.state two.there).caller in
      let ended = (subst (IsEarlier one.answered two.state) two.flies (k.rest.earlier one.number one.answered two.party two.state one.there two.there party)).1 in
      omega arith)
      (k.rest.writes q w at_q))
      (λ (one : IsWriteInFlight s.states p v).
      let later = (flown_below p v one).1 in
      ⊎_elim
      (λ (two : IsAnsweredWrite calls q w).
      let further = (answered_below q w two).2 in
      let party : two.answered.call.caller ≡ one.party = sym two.caller ∙ sym same ∙ one.caller ∙ (k.index.states one.party one.state one.there).caller in
      let ended = (subst (IsEarlier two.answered one.state) one.flies (k.rest.earlier two.number two.answered one.party one.state two.there one.there party)).1 in
      omega arith)
      (λ (two : IsWriteInFlight s.states q w).
      let party : one.party ≡ two.party =
      sym (k.index.states one.party one.state one.there).caller ∙ sym one.caller ∙ same ∙ two.caller ∙ (k.index.states two.party two.state two.there).caller in
      let state : one.state ≡ two.state = some-injective _ _ (sym one.there ∙ ap (get_elem? s.states) party ∙ two.there) in
      let machine : one.machine ≡ two.machine = some_same (sym one.flies ∙ ap (λ (e : PartyState). e.machine) state ∙ two.flies) in
      let place : p ≡ q = some_same (sym one.place ∙ ap (λ (m : Running). placed_in (stage_of m)) machine ∙ two.place) in
      omega arith)
      (k.rest.writes q w at_q))
      (k.rest.writes p v at_p)
    where
      done_place : (a b : Placed) → once.Done a ≡ once.Done b → a.place ≡ b.place
      done_place a b e = cc

  -- the places of the writes are below the limit plus the number of callers, minus one
  pub places_keep_limit : PlacesKeepLimit limit (callers_of begun) s.history
  places_keep_limit =
      late_writes_are_few limit (callers_of begun) s.history
      (λ many. let write = first_there s.history many in (by_caller 0 write.0 write.1).1)
      (λ place write stands. (by_caller place write stands).0)
      alone
