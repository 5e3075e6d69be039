-- Each call that was begun is answered or in flight, as often as it was begun: that stays along a schedule.
use Rattle.std.proofs.Common.{◌≡◌, ℕ, zero, suc, List, [], ◌∷◌, ◌++◌, set, refl, sym, ap, ◌∙◌, subst, append_assoc, arith}
use Rattle.std.specs.Prelude.{Contains, Option, Some, map}
use Rattle.std.specs.List.Sorted.{IsPermutation}
use Rattle.std.proofs.lemmas.List.{map-append}
use Rattle.std.proofs.lemmas.List.Elements.{Contains-append_left, Contains-append_right}
use Rattle.std.proofs.lemmas.List.Sorted.{Contains-permutation, IsPermutation-append_comm, IsPermutation-append_left, IsPermutation-append_right, IsPermutation-sym, IsPermutation-trans}
use mathlib.Core.Option.{some, some-injective, some-ne-none}
use lib.ListN.{get_elem?}
use Rattle.index_core.specs.declared.party.PartyState.{PartyState}
use Rattle.node_ops.specs.declared.running.Running.{Running}
use Rattle.index_core.specs.Schedules.{BegunCall, AnsweredCall, flying_call, flying_in, calls_in_flight, EachIsAnsweredOrFlies}

-- the first of three parts goes behind the second
swap_parts : {A : Type 0} (xs ys zs : List A) → IsPermutation (xs ++ (ys ++ zs)) (ys ++ (xs ++ zs))
swap_parts {A = A} xs ys zs =
    subst (λ (l : List A). IsPermutation l (ys ++ (xs ++ zs))) (append_assoc xs ys zs)
    (subst (IsPermutation ((xs ++ ys) ++ zs)) (append_assoc ys xs zs) (IsPermutation-append_left zs (xs ++ ys) (ys ++ xs) (IsPermutation-append_comm xs ys)))

abbrev flight : PartyState → List BegunCall
flight state = flying_in state state.machine

-- one party's call in flight in the place of another
flights_set : (l : List PartyState) (i : ℕ) (was now : PartyState) → get_elem? l i ≡ some was → IsPermutation (flight was ++ calls_in_flight (set l i now)) (flight now ++ calls_in_flight l)
flights_set [] i was now there = absurd (some-ne-none was (sym there))
flights_set (x ∷ xs) zero was now there =
    subst (λ (e : PartyState). IsPermutation (flight was ++ (flight now ++ calls_in_flight xs)) (flight now ++ (flight e ++ calls_in_flight xs))) (sym (some-injective x was there))
    (swap_parts (flight was) (flight now) (calls_in_flight xs))
flights_set (x ∷ xs) (suc i) was now there =
    IsPermutation-trans _ (flight x ++ (flight was ++ calls_in_flight (set xs i now))) _ (swap_parts (flight was) (flight x) (calls_in_flight (set xs i now)))
    (IsPermutation-trans _ (flight x ++ (flight now ++ calls_in_flight xs)) _
    (IsPermutation-append_right (flight x) (flight was ++ calls_in_flight (set xs i now)) (flight now ++ calls_in_flight xs) (flights_set xs i was now there))
    (swap_parts (flight x) (flight now) (calls_in_flight xs)))

-- a party whose call goes on has the same in flight
flights_same : (l : List PartyState) (i : ℕ) (was now : PartyState) → get_elem? l i ≡ some was → flight now ≡ flight was → calls_in_flight (set l i now) ≡ calls_in_flight l
flights_same [] i was now there same = refl
flights_same (x ∷ xs) zero was now there same = ap (λ (l : List BegunCall). l ++ calls_in_flight xs) (same ∙ ap flight (sym (some-injective x was there)))
flights_same (x ∷ xs) (suc i) was now there same = ap (λ (l : List BegunCall). flight x ++ l) (flights_same xs i was now there same)

module _ (begun : List BegunCall) (calls : List AnsweredCall) (states : List PartyState) (each : EachIsAnsweredOrFlies begun calls states) (i : ℕ) (was now : PartyState) (there : get_elem? states i ≡ some was) where
  abbrev answered : List BegunCall
  answered = map (λ (c : AnsweredCall). c.call) calls

  -- the call goes on
  pub each_goes_on : flight now ≡ flight was → EachIsAnsweredOrFlies begun calls (set states i now)
  each_goes_on same = subst (λ (l : List BegunCall). IsPermutation begun (answered ++ l)) (sym (flights_same states i was now there same)) each

  -- one call more is begun, and is in flight
  module _ (b : BegunCall) where
    one_more : IsPermutation (begun ++ b ∷ []) (answered ++ ((b ∷ []) ++ calls_in_flight states))
    one_more =
        IsPermutation-trans _ ((answered ++ calls_in_flight states) ++ b ∷ []) _ (IsPermutation-append_left (b ∷ []) begun (answered ++ calls_in_flight states) each)
        (subst (λ (l : List BegunCall). IsPermutation l (answered ++ ((b ∷ []) ++ calls_in_flight states))) (sym (append_assoc answered (calls_in_flight states) (b ∷ [])))
        (IsPermutation-append_right answered (calls_in_flight states ++ b ∷ []) ((b ∷ []) ++ calls_in_flight states) (IsPermutation-append_comm (calls_in_flight states) (b ∷ []))))

    pub each_starts : flight was ≡ [] → flight now ≡ b ∷ [] → EachIsAnsweredOrFlies (begun ++ b ∷ []) calls (set states i now)
    each_starts idle flies =
        let moved : IsPermutation (calls_in_flight (set states i now)) ((b ∷ []) ++ calls_in_flight states) =
        subst (λ (q : List BegunCall × List BegunCall). IsPermutation (q.0 ++ calls_in_flight (set states i now)) (q.1 ++ calls_in_flight states)) (λ k. (idle k, flies k)) (flights_set states i was now there) in
        IsPermutation-trans _ _ _ one_more
        (IsPermutation-append_right answered _ _ (IsPermutation-sym (calls_in_flight (set states i now)) ((b ∷ []) ++ calls_in_flight states) moved))

  -- the call is answered
  module _ (c : AnsweredCall) where
    answered_more : (l : List BegunCall) → map (λ (d : AnsweredCall). d.call) (calls ++ c ∷ []) ++ l ≡ answered ++ ((c.call ∷ []) ++ l)
    answered_more l = ap (λ (m : List BegunCall). m ++ l) (map-append (λ (d : AnsweredCall). d.call) calls (c ∷ [])) ∙ append_assoc answered (c.call ∷ []) l

    pub each_ends : flight was ≡ c.call ∷ [] → flight now ≡ [] → EachIsAnsweredOrFlies begun (calls ++ c ∷ []) (set states i now)
    each_ends flew idle =
        let moved : IsPermutation ((c.call ∷ []) ++ calls_in_flight (set states i now)) (calls_in_flight states) =
        subst (λ (q : List BegunCall × List BegunCall). IsPermutation (q.0 ++ calls_in_flight (set states i now)) (q.1 ++ calls_in_flight states)) (λ k. (flew k, idle k)) (flights_set states i was now there) in
        subst (IsPermutation begun) (sym (answered_more (calls_in_flight (set states i now))))
        (IsPermutation-trans _ _ _ each
        (IsPermutation-append_right answered _ _ (IsPermutation-sym ((c.call ∷ []) ++ calls_in_flight (set states i now)) (calls_in_flight states) moved)))

    -- a whole call is begun and answered
    pub each_alone : flight was ≡ [] → flight now ≡ [] → EachIsAnsweredOrFlies (begun ++ c.call ∷ []) (calls ++ c ∷ []) (set states i now)
    each_alone idle idle' =
        subst (IsPermutation (begun ++ c.call ∷ [])) (sym (answered_more (calls_in_flight (set states i now))))
        (subst (λ (l : List BegunCall). IsPermutation (begun ++ c.call ∷ []) (answered ++ ((c.call ∷ []) ++ l))) (sym (flights_same states i was now there (idle' ∙ sym idle))) (one_more c.call))

module _ (begun : List BegunCall) (calls : List AnsweredCall) (states : List PartyState) (each : EachIsAnsweredOrFlies begun calls states) where
  -- a call that was answered was begun
  pub answered_begun : (n : ℕ) (c : AnsweredCall) → get_elem? calls n ≡ some c → Contains begun c.call
  answered_begun n c there =
      Contains-permutation (map (λ (d : AnsweredCall). d.call) calls ++ calls_in_flight states) begun c.call (IsPermutation-sym begun _ each)
      (Contains-append_left (map (λ (d : AnsweredCall). d.call) calls) (calls_in_flight states) c.call (at calls n there))
    where
      at : (l : List AnsweredCall) (n : ℕ) → get_elem? l n ≡ some c → Contains (map (λ (d : AnsweredCall). d.call) l) c.call
      at [] n there = absurd (some-ne-none c (sym there))
      at (d ∷ l) zero there = (0, omega arith, ap (λ (e : AnsweredCall). e.call) (some-injective d c there))
      at (d ∷ l) (suc n) there = Contains-append_right (d.call ∷ []) (map (λ (e : AnsweredCall). e.call) l) c.call (at l n there)

  -- and so was one that is in flight
  pub flying_begun : (i : ℕ) (state : PartyState) (machine : Running) → get_elem? states i ≡ some state → state.machine ≡ Some machine → Contains begun (flying_call state machine)
  flying_begun i state machine there flies =
      let c = flying_call state machine in
      Contains-permutation (map (λ (d : AnsweredCall). d.call) calls ++ calls_in_flight states) begun c (IsPermutation-sym begun _ each)
      (Contains-append_right (map (λ (d : AnsweredCall). d.call) calls) (calls_in_flight states) c (at states i there))
    where
      own : Contains (flight state) (flying_call state machine)
      own = subst (λ (o : Option Running). Contains (flying_in state o) (flying_call state machine)) (sym flies) (0, omega arith, refl)

      at : (l : List PartyState) (i : ℕ) → get_elem? l i ≡ some state → Contains (calls_in_flight l) (flying_call state machine)
      at [] i there = absurd (some-ne-none state (sym there))
      at (e ∷ l) zero there =
          Contains-append_left (flight e) (calls_in_flight l) (flying_call state machine) (subst (λ (d : PartyState). Contains (flight d) (flying_call state machine)) (sym (some-injective e state there)) own)
      at (e ∷ l) (suc i) there = Contains-append_right (flight e) (calls_in_flight l) (flying_call state machine) (at l i there)
