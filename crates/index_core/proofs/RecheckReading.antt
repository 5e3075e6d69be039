-- A recheck that begins, and its steps: what they need and leave.
use Rattle.std.proofs.Common.{◌≡◌, ℕ, List, length, get_or, set, refl, sym, subst, arith}
use Rattle.std.specs.Prelude.{Option, Some, IfSome}
use mathlib.Core.Option.{some}
use lib.ListN.{get_elem?}
use Rattle.pm_words.specs.Images.{Row}
use Rattle.pm_words.specs.Rows.{CanAct, acted}
use Rattle.pm_words.specs.Turns.{GoesBelow}
use Rattle.pm_words.specs.declared.machine.Turn.{Turn}
use Rattle.pm_words.specs.declared.machine.Turn.TheVariants.{Go, Done}
use Rattle.call_stages.specs.declared.once.Once.{Once}
use Rattle.index_law.specs.Worlds.{facts}
use Rattle.index_image_law.specs.index_layer_law.specs.Layers.{IsLayered}
use Rattle.node_ops.specs.declared.recheck.Recheck.{Recheck}
use Rattle.node_ops.specs.declared.recheck.Recheck.TheVariants.{Dating, Checking}
use Rattle.node_ops.specs.declared.recheck.Same.{Same}
use Rattle.node_ops.specs.RecheckSteps.{IsRecheck, recheck_asks, recheck_left, recheck_takes, recheck_turned}
use Rattle.node_ops.specs.Rechecks.{IsRechecked}
use Rattle.index_core.specs.declared.party.PartyState.{PartyState}
use Rattle.index_core.specs.declared.party.Rechecking.{Rechecking}
use Rattle.index_core.specs.PartyStates.{IsRecheckingOf, party_of, recheck_after, recheck_reply, state_rechecked}
use Rattle.index_core.specs.Indexes.{Index, IsIndex, IsRechecking, layered, view_of, world}
use Rattle.index_core.specs.Rechecks.{GoesOnSame, IsRecheckOf, recheck_begun, recheck_told, rechecked_index}
use Rattle.index_core.proofs.Beside.{beside_index}
use Rattle.index_core.proofs.Checks.{checks_with}
use Rattle.index_core.proofs.Footings.{line_of, debt_of}
use Rattle.index_core.proofs.Layering.{turn_of, map_own}
use Rattle.index_core.proofs.Found.{Found, finds}
use Rattle.index_core.proofs.Permuting.{same_row}
use Rattle.index_core.proofs.Rechecks.{goes_same, rechecks_act, rechecks_are_answered, rechecks_go_on}

-- An index in which one party has another recheck is one, if that relies on what it may.
module _ (s : Index) (i : ℕ) (state : PartyState) (recheck : Option Rechecking) (there : get_elem? s.states i ≡ some state) where
  abbrev now : PartyState
  now = record state { recheck = recheck }

  abbrev states : List PartyState
  states = set s.states i now

  pub unchecked_layered : layered s ≡ layered (record s { states = states })
  unchecked_layered = λ k. record {
    whole = record {
      world = record (world s) { parties = sym (map_own party_of s.states i state now there refl) k };
      lines = sym (map_own line_of s.states i state now there refl) k;
      debts = sym (map_own debt_of s.states i state now there refl) k;
    };
    turns = sym (map_own turn_of s.states i state now there refl) k;
  }

  pub with_recheck : IsIndex s → IfSome recheck (IsRecheckingOf s.layout s.generation s.history) → IsIndex (record s { states = states })
  with_recheck is relies =
      beside_index s i state state.turn recheck there s.words is (subst IsLayered unchecked_layered is.layered) (same_row s.layout s.words) (is.states i state there).turn
      (checks_with s.layout s.generation s.history s.history (omega arith) s.states i now relies is.rechecks)

pub recheck_begins : (s : Index) (i : ℕ) (state : PartyState) (node version : ℕ) → IsIndex s → get_elem? s.states i ≡ some state → IsRecheck (Dating (view_of s i) node version) → IsIndex (recheck_begun s i state node version)
recheck_begins s i state node version is there sound =
    with_recheck s i state (Some (record { since = length s.history; machine = Dating (view_of s i) node version })) there is
    (record { sound = sound; layout = refl; generation = refl; sure = omega arith })

-- What a step of a recheck needs, and leaves.
pub record RecheckLaw (s : Index) (i : ℕ) (state : PartyState) (r : Rechecking) : Type 0 where
  pub sound : IsRecheck r.machine
  pub can : CanAct s.layout s.words (recheck_asks r.machine)
  pub takes : recheck_takes r.machine (recheck_told s r.machine)
  pub leaves : acted s.layout s.words (recheck_asks r.machine) ≡ s.words
  pub kept : IsIndex (rechecked_index s i state r)
  pub same : GoesOnSame r.machine (recheck_turned r.machine (recheck_told s r.machine))
  pub tells : IfSome (recheck_reply (recheck_turned r.machine (recheck_told s r.machine))) (IsRechecked r.since (facts (world s)) r.machine)
  pub fewer : GoesBelow recheck_left (recheck_left r.machine) (recheck_turned r.machine (recheck_told s r.machine))

goes_below : (r : Recheck) (x : ℕ) → GoesBelow recheck_left (recheck_left r) (recheck_turned r x)
goes_below (Dating view node version) x = omega arith
goes_below (Checking view node version clock) x = tt

pub recheck_step_law : (s : Index) (i : ℕ) (state : PartyState) (r : Rechecking) → IsIndex s → get_elem? s.states i ≡ some state → state.recheck ≡ Some r → RecheckLaw s i state r
recheck_step_law s i state r is there checks =
    let own : IsRecheckingOf s.layout s.generation s.history r = subst (λ (o : Option Rechecking). IfSome o (IsRecheckingOf s.layout s.generation s.history)) checks (is.rechecks i state there) in
    let of : IsRecheckOf s r.machine = record { here = own.sound; layout = own.layout; generation = own.generation } in
    let act = rechecks_act s r.machine is of in
    let x = recheck_told s r.machine in
    let by = by_turn own of (recheck_turned r.machine x) refl in
    record {
      sound = own.sound;
      can = act.can;
      takes = act.takes;
      leaves = act.leaves;
      kept = with_recheck s i state (recheck_after r.since (recheck_turned r.machine x)) there is by.0;
      same = by.1;
      tells = by.2;
      fewer = goes_below r.machine x;
    }
  where
    by_turn : IsRecheckingOf s.layout s.generation s.history r → IsRecheckOf s r.machine → (t : Turn Recheck (Once Same)) → recheck_turned r.machine (recheck_told s r.machine) ≡ t
        → IfSome (recheck_after r.since t) (IsRecheckingOf s.layout s.generation s.history) × GoesOnSame r.machine t × IfSome (recheck_reply t) (IsRechecked r.since (facts (world s)) r.machine)
    by_turn own of (Go next) goes =
        let on = goes_same s r.machine next (recheck_told s r.machine) of goes in
        (record { sound = on.1.here; layout = on.1.layout; generation = on.1.generation; sure = rechecks_go_on s r.since r.machine next is of own.sure goes }, on.0, tt)
    by_turn own of (Done answer) done = (tt, tt, rechecks_are_answered s r.since r.machine answer is of own.sure done)

-- What the code of a step has in hand.
pub record RecheckRead (s : Index) (i : ℕ) (e r : PartyState) (m read : Rechecking) : Type 0 where
  pub found : Found s i e r m read
  pub law : RecheckLaw s i e m

pub recheck_reads : (s old : Index) (i : ℕ) (f : IsRechecking old i) (r : PartyState) (read : Rechecking) → s.states ≡ old.states → IsIndex s → r ≡ get_or s.states i r → r.recheck ≡ Some read → RecheckRead s i f.state r f.machine read
recheck_reads s old i f r read states is found has =
    let at = finds (λ (d : PartyState). d.recheck) s old i f r read states found has in
    record { found = at; law = recheck_step_law s i f.state f.machine is at.there f.flies }

-- The index that a step leaves, at values that are equal to its own.
pub recheck_at : (s : Index) (i : ℕ) (e now : PartyState) (m : Rechecking) (row : Row) (spare : ℕ) → row ≡ record { layout = s.layout; words = s.words } → now ≡ state_rechecked e m.since (recheck_turned m.machine (recheck_told s m.machine)) → spare ≡ s.spare
    → Path Index (record { layout = row.layout; generation = s.generation; words = row.words; states = set s.states i now; base = s.base; history = s.history; spare = spare }) (rechecked_index s i e m)
recheck_at s i e now m row spare at_row at_now at_spare = λ k. record { layout = (at_row k).layout; generation = s.generation; words = (at_row k).words; states = set s.states i (at_now k); base = s.base; history = s.history; spare = at_spare k }
