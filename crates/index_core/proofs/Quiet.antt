-- An index with no call in flight.
use Rattle.std.proofs.Common.{◌≡◌, ◌≢◌, ◌⊎◌, ℕ, inl, ⊎_elim, List, slice_set, sym, ap, ◌∙◌, subst}
use Rattle.std.specs.Prelude.{Option, None}
use Rattle.std.proofs.lemmas.Bool.{cases_eq}
use mathlib.Core.Option.{some, some-injective}
use lib.ListN.{get_elem?}
use Rattle.call_stages.specs.Lines.{HeldLine}
use Rattle.call_stages.specs.Stages.{Idle}
use Rattle.node_ops.specs.declared.running.Running.{Running}
use Rattle.index_law.specs.Worlds.{Party}
use Rattle.index_law.specs.Lawful.{Each}
use Rattle.index_law.specs.Laws.{IsAtRest}
use Rattle.index_law.proofs.Parties.{at_set, set_else, set_here}
use Rattle.index_law.proofs.Starts.{idle_law}
use Rattle.lone_hops_law.specs.lone_call_law.specs.There.{CanWalk}
use Rattle.lone_hops_law.specs.lone_updater_law.proofs.TurnSteps.{walks_are_quiet}
use Rattle.updater.specs.declared.making.MakeTurn.{MakeTurn}
use Rattle.index_core.specs.declared.party.PartyState.{PartyState}
use Rattle.index_core.specs.PartyStates.{machine_footing, machine_stage, party_of}
use Rattle.index_core.specs.Indexes.{Index, world, footed, layered, IsIndex}
use Rattle.index_core.specs.Lone.{HasNoCalls, HasNoRechecks, HoldsLock, IsQuiet, IsStill}
use Rattle.index_core.proofs.Lists.{map_from}

-- with no call in flight all parties are idle
pub idle_parties : (s : Index) → HasNoCalls s → Each (λ p. p.stage ≡ Idle) (world s).parties
idle_parties s none i p at =
    let from = map_from party_of s.states i p at in
    subst (λ (q : Party). q.stage ≡ Idle) from.2 (ap machine_stage (none i from.0 from.1))

pub quiet_parties : (s : Index) → IsQuiet s → Each (λ p. p.stage ≡ Idle) (world s).parties
quiet_parties s quiet = idle_parties s quiet.calls

-- and no log line is in a hand
pub idle_lines : (s : Index) → HasNoCalls s → (i : ℕ) (e : Option HeldLine) → get_elem? (footed s).lines i ≡ some e → e ≡ None
idle_lines s none i e at =
    let from = map_from (λ (state : PartyState). (machine_footing state.machine).line) s.states i e at in
    sym from.2 ∙ ap (λ (machine : Option Running). (machine_footing machine).line) (none i from.0 from.1)

-- an index with no call in flight is at rest
pub rests : (s : Index) → IsIndex s → HasNoCalls s → IsAtRest (world s)
rests s is none = idle_law (world s) is.lawful (idle_parties s none)

-- walks come to their targets there
pub walks_come : (s : Index) → IsIndex s → HasNoCalls s → CanWalk s.layout s.generation s.words
walks_come s is none =
    let active = is.layered.active in
    record {
      quiet = walks_are_quiet (layered s) is.layered (idle_parties s none);
      order = (is.layered.rows active.0 active.1 active.2 active.3).order;
    }

pub can_walk : (s : Index) → IsIndex s → IsQuiet s → CanWalk s.layout s.generation s.words
can_walk s is quiet = walks_come s is quiet.calls

-- a quiet index is still, for each party
pub quiet_is_still : (party : ℕ) (s : Index) → IsQuiet s → IsStill party s
quiet_is_still party s quiet = record { calls = quiet.calls; turns = λ i state at. inl (quiet.turns i state at); rechecks = quiet.rechecks }

-- One party is another.
module _ (s new : Index) (i : ℕ) (now : PartyState) (states : new.states ≡ slice_set s.states i now) where
  pub stood_before : (j : ℕ) (e : PartyState) → get_elem? new.states j ≡ some e → ((j ≡ i) × (now ≡ e)) ⊎ ((j ≢ i) × (get_elem? s.states j ≡ some e))
  stood_before j e at = at_set s.states i j now e (ap (λ (l : List PartyState). get_elem? l j) (sym states) ∙ at)

  -- what no party has, none has then, if this one has none then
  pub none_now : {A : Type 0} → (held : PartyState → Option A) → held now ≡ None → ((j : ℕ) (e : PartyState) → get_elem? s.states j ≡ some e → held e ≡ None)
      → (j : ℕ) (e : PartyState) → get_elem? new.states j ≡ some e → held e ≡ None
  none_now held here each j e at = ⊎_elim
      (λ (mine : (j ≡ i) × (now ≡ e)). ap held (sym mine.1) ∙ here)
      (λ (other : (j ≢ i) × (get_elem? s.states j ≡ some e)). each j e other.1)
      (stood_before j e at)

-- So it is where the party has no call on a name in flight then, and the same turn of the updater and recheck.
module _ (s new : Index) (i : ℕ) (state now : PartyState) (there : get_elem? s.states i ≡ some state) (states : new.states ≡ slice_set s.states i now) (idle : now.machine ≡ None) (turn : now.turn ≡ state.turn) (recheck : now.recheck ≡ state.recheck) where
  -- what none has then, none has, if this one has what it has then
  none_before : {A : Type 0} → (held : PartyState → Option A) → held now ≡ held state → ((j : ℕ) (e : PartyState) → get_elem? new.states j ≡ some e → held e ≡ None)
      → (j : ℕ) (e : PartyState) → get_elem? s.states j ≡ some e → held e ≡ None
  none_before held stays each j e at = ⊎_elim
      (λ (same : j ≡ i).
      ap held (some-injective _ _ (sym at ∙ ap (get_elem? s.states) same ∙ there))
      ∙ sym stays ∙ each i now (ap (λ (l : List PartyState). get_elem? l i) states ∙ set_here s.states i now state there))
      (λ (other : j ≢ i). each j e (ap (λ (l : List PartyState). get_elem? l j) states ∙ set_else s.states i j now other ∙ at))
      (cases_eq j i)

  pub none_then : HasNoCalls s → HasNoCalls new
  none_then none = none_now s new i now states (λ (d : PartyState). d.machine) idle none

  rechecks_then : HasNoRechecks s → HasNoRechecks new
  rechecks_then none = none_now s new i now states (λ (d : PartyState). d.recheck) (recheck ∙ none i state there) none

  pub quiet_then : IsQuiet s → IsQuiet new
  quiet_then quiet = record {
    calls = none_then quiet.calls;
    turns = none_now s new i now states (λ (d : PartyState). d.turn) (turn ∙ quiet.turns i state there) quiet.turns;
    rechecks = rechecks_then quiet.rechecks;
  }

  -- and it was quiet, if it is
  pub quiet_was : HasNoCalls s → IsQuiet new → IsQuiet s
  quiet_was calls quiet = record {
    calls = calls;
    turns = none_before (λ (d : PartyState). d.turn) turn quiet.turns;
    rechecks = none_before (λ (d : PartyState). d.recheck) recheck quiet.rechecks;
  }

  pub still_then : (party : ℕ) → IsStill party s → IsStill party new
  still_then party still = record {
    calls = none_then still.calls;
    turns = λ j e at. ⊎_elim
        (λ (mine : (j ≡ i) × (now ≡ e)).
        subst (λ (q : ℕ × Option MakeTurn). (q.1 ≡ None) ⊎ ((q.0 ≢ party) × HoldsLock q.1))
        (λ k. (sym mine.0 k, (sym turn ∙ ap (λ (d : PartyState). d.turn) mine.1) k)) (still.turns i state there))
        (λ (other : (j ≢ i) × (get_elem? s.states j ≡ some e)). still.turns j e other.1)
        (stood_before s new i now states j e at);
    rechecks = rechecks_then still.rechecks;
  }
