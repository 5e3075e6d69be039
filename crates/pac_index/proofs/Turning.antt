-- Turns of the updater that are answered, or cut off, and the caller that they leave.
use Rattle.std.proofs.Common.{◌≡◌, ℕ, ⊎_elim, inl, inr, sym, ap, ◌∙◌, subst}
use Rattle.std.specs.Prelude.{None, Some}
use Rattle.updater.specs.declared.making.TurnReply.{TurnReply}
use Rattle.updater.specs.declared.making.TurnReply.TheVariants as reply
use Rattle.epochs.specs.Kept.{first_epoch}
use Rattle.index_core.specs.declared.party.PartyState.{PartyState}
use Rattle.pac_index.specs.declared.caller.Caller.{Caller}
use Rattle.pac_index.specs.declared.shared.Shared.{Shared}
use Rattle.pac_index.specs.declared.tried.TriedTurn.{TriedTurn}
use Rattle.pac_index.specs.declared.tried.TriedTurn.TheVariants as turn
use Rattle.pac_index.specs.Callers.{IsAtRest, IsCallerOf, StaysCaller, TellsCut, pairs, pins_of, seen_by}
use Rattle.pac_index.specs.CutTurns.{StopsDated, StopsUndated, TurnStops, TurnStopsAt}
use Rattle.pac_index.specs.Outcomes.{TurnTryRests}
use Rattle.pac_index.specs.Turns.{MadeTurn, OnTurn, TurnAnswers, TurnHeld}
use Rattle.pac_index.proofs.Remaining.{IsSeated, rests_tells, unplaced_caller}

-- what one try leaves of its caller, which was at rest
module _ (s : Shared) (b a : Caller) (is : IsCallerOf s b) (rests : IsAtRest b) (seated : IsSeated s b a) (kept : pairs a.kept.items ≡ pairs b.kept.items) (cut : a.cut ≡ b.cut) where
  answered_so : (epoch : ℕ) (answer : TurnReply) → TurnAnswers epoch (seen_by b) answer (seen_by a) → IsCallerOf s a × IsAtRest a
  answered_so epoch answer told =
      let now : IsAtRest a = (ap (λ (e : PartyState). e.machine) told.state ∙ rests.0, ap (λ (e : PartyState). e.turn) told.state, cut ∙ rests.2) in
      (unplaced_caller s b a is seated (record { kept = kept; about = told.leaves.about; caller = ap (λ (e : PartyState). e.caller) told.state; own = told.leaves.own }) (rests_tells a now) (inl now), now)

  stopped_so : (epoch : ℕ) → a.left ≡ Some 0 → TurnStopsAt epoch (seen_by b) (seen_by a) → IsCallerOf s a
  stopped_so epoch spent t =
      let idle : (seen_by a).state.machine ≡ None = ap (λ (e : PartyState). e.machine) t.state ∙ rests.0 in
      unplaced_caller s b a is seated (record { kept = kept; about = t.leaves.about; caller = ap (λ (e : PartyState). e.caller) t.state; own = t.leaves.own }) (subst (λ o. TellsCut o (seen_by a).state) (sym (cut ∙ rests.2)) idle) (inr spent)

  abbrev Ran : TriedTurn → Type 0
  Ran t = OnTurn t (λ turned epoch advanced. MadeTurn s.epochs.parties (seen_by b) (pins_of b) turned epoch advanced (seen_by a) (pins_of a)) (λ word. TurnHeld word (seen_by b) (seen_by a) × (pins_of a ≡ pins_of b))
      ((a.left ≡ Some 0) × TurnStops s.epochs.parties (seen_by b) (pins_of b) (seen_by a) (pins_of a))

  turned_caller : (t : TriedTurn) → Ran t → IsCallerOf s a
  turned_caller (turn.Turned turned epoch advanced) ran = (answered_so epoch (reply.Turned turned) ran.answers).0
  turned_caller (turn.Held word) ran = (answered_so first_epoch (reply.Held word) (ran.0 first_epoch)).0
  turned_caller turn.Cut ran = ⊎_elim
      (λ (first : StopsUndated (seen_by b) (pins_of b) (seen_by a) (pins_of a)). stopped_so first_epoch ran.0 first.stops)
      (λ (later : StopsDated s.epochs.parties (seen_by b) (pins_of b) (seen_by a) (pins_of a)). stopped_so later.epoch ran.0 later.stops)
      ran.1

  pub turned_stays : (t : TriedTurn) → Ran t → StaysCaller s b a
  turned_stays t ran = (turned_caller t ran, seated.number)

  pub turned_rests : (t : TriedTurn) → Ran t → TurnTryRests t a
  turned_rests (turn.Turned turned epoch advanced) ran = (answered_so epoch (reply.Turned turned) ran.answers).1
  turned_rests (turn.Held word) ran = (answered_so first_epoch (reply.Held word) (ran.0 first_epoch)).1
  turned_rests turn.Cut ran = tt
