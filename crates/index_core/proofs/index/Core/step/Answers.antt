use Rattle.std.proofs.Common.{◌≡◌, ℕ, inl, inr, refl, sym, ◌∙◌}
use Rattle.std.proofs.lemmas.Bool.{false≢true}
use Rattle.std.specs.Prelude.{None, Some}
use Rattle.index_core.specs.declared.party.CoreReply.{CoreReply}
use Rattle.index_core.specs.declared.party.Stepped.TheVariants.{Answered, Going}
use Rattle.index_core.specs.Indexes.{Index, IsBusy, IsInFlight, IsRechecking, IsTurning}
use Rattle.index_core.proofs.Either.{name_goes_on, recheck_goes_on, recheck_keeps_room, turn_goes_on, turn_keeps_room}
use Rattle.index_core.proofs.index.Core.step.Goals as goal

-- what it has in flight is a recheck, where it is neither of the others
rechecks : (s : Index) (i : ℕ) → IsBusy s i → (IsInFlight s i → ⊥) → (IsTurning s i → ⊥) → IsRechecking s i
rechecks s i (inl flies) grounded still = absurd (grounded flies)
rechecks s i (inr (inl turns)) grounded still = absurd (still turns)
rechecks s i (inr (inr checks)) grounded still = checks

is_answered : (reply : CoreReply) → Answered reply ≡ Going → ⊥
is_answered reply is = cc

pub step_recheck-requires : goal.step_recheck-requires
step_recheck-requires g c =
    record {
      checks = rechecks c.args.self.now c.args.party c.requires.flies
          (λ flies. false≢true (sym c.if-flies.false ∙ c.flies.ensures.1 flies))
          (λ turns. false≢true (sym c.if-turns.false ∙ c.turns.ensures.1 turns));
    }

pub returns-then-flies : goal.returns-then-flies
returns-then-flies g c =
    let step = c.step_name.ensures in
    let flies = c.flies.ensures.0 c.if-flies.true in
    record {
      stepped = λ _. step.stepped;
      turned = λ grounded. absurd (grounded flies);
      rechecked = λ grounded. absurd (grounded flies);
      flies = name_goes_on c.args.self.now c.step_name.new.self c.args.party c.step_name.result step.stepped;
      spare = step.spare;
      tick = step.tick;
      index = step.index;
    }

pub returns-in-None : goal.returns-in-None
returns-in-None g c =
    let step = c.in-None.ensures in
    record {
      stepped = λ flies. absurd (false≢true (sym c.if-flies.false ∙ c.flies.ensures.1 flies));
      turned = λ grounded. λ turns. record { answer = None; steps = step.stepped; comes_to = refl };
      rechecked = λ grounded. λ still. absurd (still (c.turns.ensures.0 c.if-turns.true));
      flies = turn_goes_on c.args.self.now c.step_turn.new.self c.args.party Going
          (record { answer = None; steps = step.stepped; comes_to = refl });
      spare = turn_keeps_room c.args.self.now c.step_turn.new.self c.args.party None step.stepped;
      tick = step.tick;
      index = step.index;
    }

pub returns-in-Some : goal.returns-in-Some
returns-in-Some g c =
    let step = c.in-Some.ensures in
    record {
      stepped = λ flies. absurd (false≢true (sym c.if-flies.false ∙ c.flies.ensures.1 flies));
      turned = λ grounded. λ turns. record { answer = Some c.in-Some.turned; steps = step.stepped; comes_to = refl };
      rechecked = λ grounded. λ still. absurd (still (c.turns.ensures.0 c.if-turns.true));
      flies = λ is. absurd (is_answered _ is);
      spare = turn_keeps_room c.args.self.now c.step_turn.new.self c.args.party (Some c.in-Some.turned) step.stepped;
      tick = step.tick;
      index = step.index;
    }

pub returns-in-None-step_recheck : goal.returns-in-None-step_recheck
returns-in-None-step_recheck g c =
    let step = c.in-None-step_recheck.ensures in
    record {
      stepped = λ flies. absurd (false≢true (sym c.if-flies.false ∙ c.flies.ensures.1 flies));
      turned = λ grounded. λ turns. absurd (false≢true (sym c.if-turns.false ∙ c.turns.ensures.1 turns));
      rechecked = λ grounded. λ still. record { answer = None; steps = step.stepped; comes_to = refl };
      flies = recheck_goes_on c.args.self.now c.step_recheck.new.self c.args.party Going
          (record { answer = None; steps = step.stepped; comes_to = refl });
      spare = recheck_keeps_room c.args.self.now c.step_recheck.new.self c.args.party None step.stepped;
      tick = step.tick;
      index = step.index;
    }

pub returns-in-Some-step_recheck : goal.returns-in-Some-step_recheck
returns-in-Some-step_recheck g c =
    let step = c.in-Some-step_recheck.ensures in
    record {
      stepped = λ flies. absurd (false≢true (sym c.if-flies.false ∙ c.flies.ensures.1 flies));
      turned = λ grounded. λ turns. absurd (false≢true (sym c.if-turns.false ∙ c.turns.ensures.1 turns));
      rechecked = λ grounded. λ still.
          record { answer = Some c.in-Some-step_recheck.answer; steps = step.stepped; comes_to = refl };
      flies = λ is. absurd (is_answered _ is);
      spare = recheck_keeps_room c.args.self.now c.step_recheck.new.self c.args.party
          (Some c.in-Some-step_recheck.answer) step.stepped;
      tick = step.tick;
      index = step.index;
    }
