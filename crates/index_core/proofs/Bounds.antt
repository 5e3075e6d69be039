-- How many writes there can be.
use Rattle.std.proofs.Common.{◌≡◌, ◌≢◌, ℕ, zero, suc, ◌+◌, ◌<◌, ◌≤◌, ◌^◌, ◌⊎◌, inl, inr, ⊎_elim, Bool, true, false, List, [], ◌∷◌, ◌++◌, length, set, refl, sym, ap, ◌∙◌, subst, arith, Contains}
use Rattle.std.specs.Prelude.{Option, Some, None, IfSome, IsSome, IsSomeAnd, slice_get, nat_eq}
use Rattle.std.proofs.lemmas.List.{append-nil}
use Rattle.std.proofs.lemmas.Option.{slice_get_within}
use mathlib.Core.Option.{some}
use lib.ListN.{get_elem?}
use Rattle.cat_history.specs.Callers.{callers_among}
use Rattle.cat_history.proofs.CallerLemmas.{late_writes_are_few}
use Rattle.cat_history.specs.Records.{change_of}
use Rattle.cat_history.specs.declared.op.Change.{Change}
use Rattle.cat_history.specs.declared.op.NameOp.{NameOp}
use Rattle.cat_history.specs.declared.op.Write.{Write}
use Rattle.pm_words.specs.Layouts.{IsLayout}
use Rattle.pm_words.specs.declared.layout.Layout.{Layout}
use Rattle.pm_words.specs.declared.machine.Turn.{Turn}
use Rattle.pm_words.specs.declared.machine.Turn.TheVariants.{Go, Done}
use Rattle.call_stages.specs.declared.once.Once.{Once}
use Rattle.call_stages.specs.declared.once.Placed.{Placed}
use Rattle.call_stages.specs.Stages.{Stage, Idle, Saw, Wears, Reads, Holds, Eyes, Splits, Leaves, Meets, Joins, counted, placed_in}
use Rattle.node_ops.specs.declared.call.Call.{Call}
use Rattle.node_ops.specs.Calls.{IsSame}
use Rattle.node_ops.specs.declared.running.Running.{Running}
use Rattle.node_ops.specs.Asked.{IsOf, IsOfAfter, op_in}
use Rattle.node_ops.specs.RunningSteps.{running_call, running_turned, IsRunning}
use Rattle.data_list.specs.WalkStages.{live_sight}
use Rattle.node_ops.specs.CallStages.{stage_of}
use Rattle.node_ops.proofs.OpLaw.{op_told, counts_own_change}
use Rattle.index_law.specs.Facts.{Facts}
use Rattle.index_law.specs.Worlds.{facts, written}
use Rattle.index_law.specs.Lawful.{Sure}
use Rattle.index_law.proofs.Parties.{at_set}
use Rattle.index_core.specs.declared.party.PartyState.{PartyState}
use Rattle.index_core.specs.PartyStates.{machine_stage, party_of, state_after}
use Rattle.index_core.specs.Indexes.{IsOwnWrite, parties_of, Index, IsIndex, HasLimit, IsBounded, MakesCall, world, told}
use Rattle.index_core.proofs.Owing.{merging_counts, part_counts, splitting_counts}
use Rattle.index_core.proofs.Lists.{map_there, got_end, some_same, within}
use Rattle.std.proofs.lemmas.Bool.{cases_lt}
use Rattle.std.proofs.lemmas.Map.Made.{distinct_count-le}
use Rattle.cat_history.specs.Callers.{PlacesKeepLimit}
use Rattle.node_ops.specs.declared.lookup.LookupAt.{LookupAt}
use Rattle.node_ops.specs.declared.finish.Finish.{Finish}
use Rattle.node_ops.specs.declared.finish.FinishAt.{FinishAt}
use Rattle.node_ops.specs.declared.finish.FinishAt.TheVariants as finish_at
use Rattle.node_ops.specs.declared.get.Get.TheVariants as get
use Rattle.node_ops.specs.declared.put.Put.TheVariants as put
use Rattle.node_ops.specs.declared.single_put.SinglePut.TheVariants as single_put
use Rattle.node_ops.specs.declared.del.Del.TheVariants as del
use Rattle.node_ops.specs.declared.single_del.SingleDel.TheVariants as single_del
use Rattle.node_ops.specs.declared.running.Running.TheVariants.{Getting, Putting, Deleting, Parting}
use Rattle.node_ops.specs.CallStages.{lookup_at_stage, finish_at_held}
use Rattle.node_ops.proofs.OpLaw.{lookup_counts}
use Rattle.index_core.specs.declared.party.CoreCall.{CoreCall}
use Rattle.index_core.specs.declared.party.CoreCall.TheVariants as call
use Rattle.index_core.specs.CoreCalls.{machine_of}
use Rattle.index_core.specs.PartyStates.{state_with}
use Rattle.index_core.specs.Indexes.{parties_of, view_of}
use Rattle.node_ops.specs.Endings.{limit_in}

-- the first so many numbers
abbrev numbers : ℕ → List ℕ
numbers zero = []
numbers (suc n) = n ∷ numbers n

numbers-length : (n : ℕ) → length (numbers n) ≡ n
numbers-length zero = refl
numbers-length (suc n) = ap suc (numbers-length n)

numbers-has : (n c : ℕ) → c < n → Contains (numbers n) c
numbers-has zero c less = absurd (omega arith)
numbers-has (suc n) c less = ⊎_elim
    (λ (before : c < n). let behind = numbers-has n c before in (suc behind.0, omega arith, behind.2))
    (λ (last : n ≤ c). let same : n ≡ c = omega arith in (0, omega arith, same))
    (cases_lt c n)

-- there are fewer than an add has room for
pub bounded_small : (s : Index) → IsIndex s → length s.history < 2 ^ 63
bounded_small s is =
    let b = is.bounded in
    let layout : IsLayout s.layout = is.lawful.row.layout in
    let few : PlacesKeepLimit (2 ^ 62) (numbers (parties_of s.layout)) s.history =
    late_writes_are_few (2 ^ 62) (numbers (parties_of s.layout)) s.history (λ some. omega arith) (λ p w at. numbers-has (parties_of s.layout) w.caller (b.writers p w at)) b.late in
    let most : callers_among (numbers (parties_of s.layout)) ≤ length (numbers (parties_of s.layout)) = distinct_count-le nat_eq (numbers (parties_of s.layout)) in
    let long = numbers-length (parties_of s.layout) in
    let at_most = layout.callers.1 in
    ⊎_elim
    (λ (small : length s.history < 2 ^ 63). small)
    (λ (large : 2 ^ 63 ≤ length s.history). let past = few (2 ^ 62 + 17) (omega arith) in absurd (omega arith))
    (cases_lt (length s.history) (2 ^ 63))

-- a call that counts has loaded a clock below its own limit
finish_limit : (finish : Finish) (at : FinishAt) → (finish_at_held finish at).limit ≡ finish.call.limit
finish_limit finish (finish_at.Fence line fence) = refl
finish_limit finish finish_at.Add = refl
finish_limit finish (finish_at.Unlock place) = refl

looking : {P : Type 0} (call : Call) (at : LookupAt) (c : Change) → counted (lookup_at_stage (live_sight []) call at) ≡ Some c → P
looking call at c is = absurd (let both : None ≡ Some c = sym (lookup_counts (live_sight []) call at) ∙ is in cc)

counts_in_time : (m : Running) (c : Change) → counted (stage_of m) ≡ Some c → limit_in (stage_of m) ≡ (running_call m).limit
counts_in_time (Getting (get.Looking lookup)) c is = looking lookup.call lookup.at c is
counts_in_time (Getting (get.Checking call hold old)) c is = refl
counts_in_time (Putting (put.Single (single_put.Looking lookup value))) c is = looking lookup.call lookup.at c is
counts_in_time (Putting (put.Single (single_put.Filling fill))) c is = refl
counts_in_time (Putting (put.Single (single_put.Replacing call hold bitmap hit value))) c is = refl
counts_in_time (Putting (put.Single (single_put.Finishing finish))) c is = finish_limit finish finish.at
counts_in_time (Putting (put.Splitting call hold bitmap value split)) c is = absurd (let both : None ≡ Some c = sym (splitting_counts call hold bitmap value split) ∙ is in cc)
counts_in_time (Deleting (del.Single (single_del.Looking lookup))) c is = looking lookup.call lookup.at c is
counts_in_time (Deleting (del.Single (single_del.Next call hold bitmap hit))) c is = refl
counts_in_time (Deleting (del.Single (single_del.Taking call hold bitmap hit take))) c is = refl
counts_in_time (Deleting (del.Single (single_del.Refusing call hold bitmap hit))) c is = refl
counts_in_time (Deleting (del.Single (single_del.Clearing call hold bitmap hit line))) c is = refl
counts_in_time (Deleting (del.Single (single_del.Finishing finish line))) c is = finish_limit finish finish.at
counts_in_time (Deleting (del.Merging call hold old place merge)) c is = absurd (let both : None ≡ Some c = sym (merging_counts call hold old place merge) ∙ is in cc)
counts_in_time (Parting p) c is = absurd (let both : None ≡ Some c = sym (part_counts p) ∙ is in cc)

-- it has no place yet, and began below the limit
record CountsBelow (stage : Stage) (since : ℕ) : Type 0 where
  unplaced : placed_in stage ≡ None
  below : IfSome (limit_in stage) (λ most. since < most)

counts_below : (l : Layout) (g : ℕ) (f : Facts) (caller index since : ℕ) (stage : Stage) (c : Change) → Sure l g f caller index since stage → counted stage ≡ Some c → CountsBelow stage since
counts_below l g f caller index since Idle c sure is = absurd cc
counts_below l g f caller index since (Saw n v w k) c sure is = absurd cc
counts_below l g f caller index since (Wears n v) c sure is = absurd cc
counts_below l g f caller index since (Reads n v sight told) c sure is = absurd cc
counts_below l g f caller index since (Eyes n w h m v u free) c sure is = absurd cc
counts_below l g f caller index since (Splits left fresh phase) c sure is = absurd cc
counts_below l g f caller index since (Leaves left) c sure is = absurd cc
counts_below l g f caller index since (Meets n w h right) c sure is = absurd cc
counts_below l g f caller index since (Joins h left right pace) c sure is = absurd cc
counts_below l g f caller index since (Holds n w h) c sure is = record { unplaced = at h.ready h.pending is sure.shown; below = sure.below }
  where
    at : (ready : Bool) (pending : Option Change) → elim ready [ true ↦ pending | false ↦ None ] ≡ Some c → IfSome pending (λ d. (h.placed ≡ None) × IsSome h.old) → h.placed ≡ None
    at true (Some d) e shown = shown.0
    at true None e shown = absurd cc
    at false pending e shown = absurd cc

under : (o : Option ℕ) (since most : ℕ) → IsSomeAnd o (λ limit. limit ≤ most) → IfSome o (λ limit. since < limit) → since < most
under None since most fits below = absurd fits
under (Some limit) since most fits below = omega arith

-- what is read behind a step's history is earlier, or the step's own
abbrev Own : List Write → ℕ → Option Change → ℕ → Write → Type 0
Own h caller o p w = (p ≡ length h) × (w.caller ≡ caller) × (c : Change) × (o ≡ Some c)

earlier_or_own : (h : List Write) (caller index : ℕ) (o : Option Change) (p : ℕ) (w : Write) → slice_get (h ++ written caller index o) p ≡ Some w → (slice_get h p ≡ Some w) ⊎ Own h caller o p w
earlier_or_own h caller index None p w at = inl (subst (λ (l : List Write). slice_get l p ≡ Some w) (append-nil h) at)
earlier_or_own h caller index (Some c) p w at = ⊎_elim
    (λ (before : slice_get h p ≡ Some w). inl before)
    (λ (last : (p ≡ length h) × (record { caller = caller; index = index; change = c } ≡ w)). inr (last.0, ap (λ (u : Write). u.caller) (sym last.1), c, refl))
    (got_end h (record { caller = caller; index = index; change = c }) w p at)

module _ (s : Index) (i : ℕ) (e : PartyState) (m : Running) (is : IsIndex s) (there : get_elem? s.states i ≡ some e) (flies : e.machine ≡ Some m) where
  of : IsOf (op_in m) m
  of = subst (λ (o : Option Running). IfSome o (λ q. IsOf (op_in q) q)) flies (is.states i e there).op

  -- earlier writes of a call's caller that counts stand below 2^62
  earlier : (c : Change) → counted (stage_of m) ≡ Some c → (p : ℕ) (w : Write) → slice_get s.history p ≡ Some w → w.caller ≡ e.caller → p + 1 < 2 ^ 62
  earlier c counts p w at by =
      let sure = subst (Sure s.layout s.generation (facts (world s)) e.caller e.index e.since) (ap machine_stage flies) (is.lawful.sure i (party_of e) (map_there party_of s.states i e there)) in
      let known = counts_below s.layout s.generation (facts (world s)) e.caller e.index e.since (stage_of m) c sure counts in
      let asks : change_of (op_in m) ≡ Some c = subst (λ (o : Option Change). IfSome o (λ d. change_of (op_in m) ≡ Some d)) counts (counts_own_change (op_in m) m of) in
      let fits : IsSomeAnd (running_call m).limit (λ most. most ≤ 2 ^ 62) = subst (λ (o : Option Change). IfSome o (λ _. IsSomeAnd (running_call m).limit (λ most. most ≤ 2 ^ 62))) asks (is.bounded.limits i e m there flies) in
      let below = under (running_call m).limit e.since (2 ^ 62) fits (subst (λ (o : Option ℕ). IfSome o (λ most. e.since < most)) (counts_in_time m c counts) known.below) in
      ⊎_elim
      (λ (before : p < e.since). omega arith)
      (λ (own : IsOwnWrite e m p w). absurd (let both : None ≡ Some p = sym known.unplaced ∙ own.placed in cc))
      (is.ordered i p e m w there flies at by)

  limit_on : (next : Running) → IsSame (running_call m) (running_call next) → op_in next ≡ op_in m → HasLimit m → HasLimit next
  limit_on next call op has =
      let limit : (running_call next).limit ≡ (running_call m).limit = ap (λ (c : Call). c.limit) call in
      subst (λ (x : Option ℕ × NameOp). IfSome (change_of x.1) (λ _. IsSomeAnd x.0 (λ most. most ≤ 2 ^ 62))) (λ k. (sym limit k, sym op k)) has

  turned_limit : (turn : Turn Running (Once Placed)) → MakesCall (running_call m) turn → IsOfAfter (op_in m) turn → (next : Running) → (state_after e turn).machine ≡ Some next → HasLimit next
  turned_limit (Go now) calls ops next goes =
      let same : now ≡ next = some_same goes in
      subst HasLimit same (limit_on now calls (op_told (op_in m) now ops) (is.bounded.limits i e m there flies))
  turned_limit (Done answer) calls ops next goes = absurd (cc)

  -- a step keeps the bounds
  pub step_bounded : MakesCall (running_call m) (running_turned m (told s m)) → IsOfAfter (op_in m) (running_turned m (told s m))
      → IsBounded (parties_of s.layout) (set s.states i (state_after e (running_turned m (told s m)))) (s.history ++ written e.caller e.index (counted (stage_of m)))
  step_bounded keeps_call keeps_op = record {
    limits = λ j state next at goes. ⊎_elim
        (λ (mine : (j ≡ i) × (state_after e (running_turned m (told s m)) ≡ state)). turned_limit (running_turned m (told s m)) keeps_call keeps_op next (ap (λ (d : PartyState). d.machine) mine.1 ∙ goes))
        (λ (other : (j ≢ i) × (get_elem? s.states j ≡ some state)). is.bounded.limits j state next other.1 goes)
        (at_set s.states i j (state_after e (running_turned m (told s m))) state at);
    writers = λ p w at. ⊎_elim
        (λ (before : slice_get s.history p ≡ Some w). is.bounded.writers p w before)
        (λ (own : Own s.history e.caller (counted (stage_of m)) p w).
        let number = (is.states i e there).caller in
        let inside = within s.states i e there in
        let many = is.parties in
        let by = own.1 in
        omega arith)
        (earlier_or_own s.history e.caller e.index (counted (stage_of m)) p w at);
    late = λ p q v w at_p at_q less far same. ⊎_elim
        (λ (old_q : slice_get s.history q ≡ Some w). ⊎_elim
        (λ (old_p : slice_get s.history p ≡ Some v). is.bounded.late p q v w old_p old_q less far same)
        (λ (own : Own s.history e.caller (counted (stage_of m)) p v). let inside = slice_get_within s.history q w old_q in let here = own.0 in absurd (omega arith))
        (earlier_or_own s.history e.caller e.index (counted (stage_of m)) p v at_p))
        (λ (last : Own s.history e.caller (counted (stage_of m)) q w). ⊎_elim
        (λ (old_p : slice_get s.history p ≡ Some v). let small = earlier last.2 last.3 p v old_p (same ∙ last.1) in absurd (omega arith))
        (λ (own : Own s.history e.caller (counted (stage_of m)) p v). let here = own.0 in let there = last.0 in absurd (omega arith))
        (earlier_or_own s.history e.caller e.index (counted (stage_of m)) p v at_p))
        (earlier_or_own s.history e.caller e.index (counted (stage_of m)) q w at_q);
  }

call_limit : (s : Index) (party : ℕ) (c : CoreCall) → IsRunning (machine_of (view_of s party) c) → HasLimit (machine_of (view_of s party) c)
call_limit s party (call.Put name value limit) here = here.0.call.limit
call_limit s party (call.Get name) here = tt
call_limit s party (call.Del name limit) here = here.0.call.limit
call_limit s party (call.Part low count) here = tt
call_limit s party (call.Recheck node version) here = tt
call_limit s party (call.Turn stamp release) here = tt

-- and so does the start of a call
pub start_bounded : (s : Index) (i : ℕ) (e : PartyState) (c : CoreCall) → IsIndex s → IsRunning (machine_of (view_of s i) c) → IsBounded (parties_of s.layout) (set s.states i (state_with e (length s.history) (machine_of (view_of s i) c))) s.history
start_bounded s i e c is here = record {
  limits = λ j state next at goes. ⊎_elim
      (λ (mine : (j ≡ i) × (state_with e (length s.history) (machine_of (view_of s i) c) ≡ state)).
      let same : machine_of (view_of s i) c ≡ next = some_same (ap (λ (d : PartyState). d.machine) mine.1 ∙ goes) in subst HasLimit same (call_limit s i c here))
      (λ (other : (j ≢ i) × (get_elem? s.states j ≡ some state)). is.bounded.limits j state next other.1 goes)
      (at_set s.states i j (state_with e (length s.history) (machine_of (view_of s i) c)) state at);
  writers = is.bounded.writers;
  late = is.bounded.late;
}

-- and another index of an idle party
pub reindex_bounded : (s : Index) (i : ℕ) (e : PartyState) (index : ℕ) → IsIndex s → e.machine ≡ None → IsBounded (parties_of s.layout) (set s.states i (record e { index = index })) s.history
reindex_bounded s i e index is idle = record {
  limits = λ j state next at goes. ⊎_elim
      (λ (mine : (j ≡ i) × (now ≡ state)). absurd (let both : None ≡ Some next = sym idle ∙ ap (λ (d : PartyState). d.machine) mine.1 ∙ goes in cc))
      (λ (other : (j ≢ i) × (get_elem? s.states j ≡ some state)). is.bounded.limits j state next other.1 goes)
      (at_set s.states i j now state at);
  writers = is.bounded.writers;
  late = is.bounded.late;
}
  where
    now : PartyState
    now = record e { index = index }
