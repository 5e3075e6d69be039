-- What the code reads at a party's place is its state.
use Rattle.std.proofs.Common.{◌≡◌, ℕ, ◌<◌, ◌≤◌, length, get_or, true, sym, ap, ◌∙◌, subst, arith}
use Rattle.std.specs.Prelude.{Bool, Option, Some, None, IfSome, IsSomeAnd, is_some}
use Rattle.std.proofs.lemmas.Bool.{false_from_ne_true}
use mathlib.Core.Option.{some}
use lib.ListN.{get_elem?}
use Rattle.index_core.specs.declared.index.Core.TheInside.{Inside}
use Rattle.index_core.specs.declared.party.PartyState.{PartyState}
use Rattle.index_core.specs.PartyStates.{is_busy}
use Rattle.index_core.specs.Cores.{index_of, index_with}
use Rattle.index_core.specs.Indexes.{HasInFlight, Index, IsBusy, IsIndex}
use Rattle.index_core.proofs.Busy.{busy_told, idle_told}
use Rattle.index_core.proofs.Either.{busy_there, held_told, tells_held}
use Rattle.index_core.proofs.Lists.{there_at, within}

module _ (inside : Inside) (old : Index) (i : ℕ) (view : index_of inside ≡ old) where
  -- there is a place for it
  pub party_within : (e : PartyState) → get_elem? old.states i ≡ some e → i < length inside.states.items
  party_within e there = within inside.states.items i e (ap (λ (v : Index). get_elem? v.states i) view ∙ there)

  pub busy_within : IsBusy old i → i < length inside.states.items
  busy_within busy = let here = busy_there old i busy in party_within here.0 here.1

  pub caller_within : IsIndex (index_with inside 0) → i ≤ old.layout.callers → i < length inside.states.items
  caller_within is least =
      let callers = ap (λ (v : Index). v.layout.callers) view in
      omega (arith, is.parties, callers, least)

  module _ (r : PartyState) (place : i < length inside.states.items) (found : r ≡ get_or inside.states.items i r) where
    pub party_read : get_elem? old.states i ≡ some r
    party_read = sym (ap (λ (v : Index). get_elem? v.states i) view) ∙ there_at inside.states.items i r place found

    -- a test of the state tells what holds of the party
    pub test_tells : (told : Bool) (test : PartyState → Bool) (P : Type 0) → told ≡ test r
        → ((e : PartyState) → get_elem? old.states i ≡ some e → test e ≡ true → P)
        → ((e : PartyState) → get_elem? old.states i ≡ some e → P → test e ≡ true)
        → (told ≡ true → P) × (P → told ≡ true)
    test_tells told test P is makes tells =
        (λ yes. makes r party_read (sym is ∙ yes), λ holds. is ∙ tells r party_read holds)

    -- one that isn't busy has nothing in flight
    pub idle_read : (IsBusy old i → ⊥) → (r.machine ≡ None) × (r.turn ≡ None) × (r.recheck ≡ None)
    idle_read free = idle_told r (false_from_ne_true (is_busy r) (λ busy. free (busy_told old i r party_read busy)))

-- Where the party is known to be busy, one tells whether it has this in flight.
pub busy_tests : {A : Type 0} → (held : PartyState → Option A) (inside : Inside) (old : Index) (i : ℕ)
    (view : index_of inside ≡ old) → IsBusy old i → (r : PartyState) → r ≡ get_or inside.states.items i r
    → (told : Bool) → told ≡ is_some (held r)
    → (told ≡ true → HasInFlight held old i) × (HasInFlight held old i → told ≡ true)
busy_tests held inside old i view busy r found told is =
    test_tells inside old i view r (busy_within inside old i view busy) found told
    (λ (d : PartyState). is_some (held d)) (HasInFlight held old i) is (held_told held old i) (tells_held held old i)

-- The state r that it reads is e, which has this machine in flight: what is said of the machine in r is so of this one,
pub told_of : {A : Type 0} → (held : PartyState → Option A) (r e : PartyState) (m : A) → r ≡ e → held e ≡ Some m
    → (P : PartyState → A → Type 0) → IfSome (held r) (P r) → P e m
told_of {A} held r e m read has P says =
    subst (λ (o : Option A). IfSome o (P e)) has (subst (λ (d : PartyState). IfSome (held d) (P d)) read says)

-- and the other way about.
pub holds_in : {A : Type 0} → (held : PartyState → Option A) (r e : PartyState) (m : A) → r ≡ e → held e ≡ Some m
    → (P : A → Type 0) → P m → IsSomeAnd (held r) P
holds_in {A} held r e m read has P holds = subst (λ (o : Option A). IsSomeAnd o P) (sym (ap held read ∙ has)) holds

-- What a start has read of its party: a state that has nothing in flight.
pub record IsIdle (inside : Inside) (old : Index) (i : ℕ) (r : PartyState) : Type 0 where
  pub there : get_elem? inside.states.items i ≡ some r
  pub before : get_elem? old.states i ≡ some r
  pub idle : (r.machine ≡ None) × (r.turn ≡ None) × (r.recheck ≡ None)

pub reads_idle : (inside : Inside) (old : Index) (i : ℕ) → index_of inside ≡ old → (r : PartyState)
    → IsIndex (index_with inside 0) → i ≤ old.layout.callers → r ≡ get_or inside.states.items i r
    → (IsBusy old i → ⊥) → IsIdle inside old i r
reads_idle inside old i view r is least found free =
    let place = caller_within inside old i view is least in
    record {
      there = there_at inside.states.items i r place found;
      before = party_read inside old i view r place found;
      idle = idle_read inside old i view r place found free;
    }
