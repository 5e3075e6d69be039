-- Steps of a turn and of others, one after another.
use Rattle.std.proofs.Common.{◌≡◌, ℕ, refl, subst}
use Rattle.updater_law.specs.Facts.{TurnTerms, TurnFacts}
use Rattle.updater_law.specs.TurnStages.{TurnStage, Resting, IsUnworn, Frees}
use Rattle.updater_law.specs.TurnSteps.{TurnStep, unstamps}
use Rattle.updater_law.specs.Lawful.{IsReleased, TurnLawful}
use Rattle.updater_law.specs.Traces.{Trace, starts, turns, others, evicts, WasStamped, FreedWereStamped, TracesKeep}
use Rattle.updater_law.proofs.TurnLaw.{turn_keeps}
use Rattle.updater_law.proofs.Others.{other_keeps}
use Rattle.updater_law.proofs.Crash.{layer_evicts}

keeps : (c : TurnTerms) {f f' : TurnFacts} {s t : TurnStage} → TurnLawful c f s → Trace c f s f' t → TurnLawful c f' t
keeps c law starts = law
keeps c law (turns {f' = f'} {f'' = f''} {t = t} {u = u} trace step) = turn_keeps c f' f'' t u (keeps c law trace) step
keeps c law (others {f' = f'} {f'' = f''} {t = t} trace step) = other_keeps c f' f'' t (keeps c law trace) step
keeps c law (evicts {f' = f'} {t = t} safe trace durable) = layer_evicts c f' t safe (keeps c law trace) durable

pub traces_keep : TracesKeep
traces_keep c f f' s t law trace = keeps c law trace

was : (c : TurnTerms) (n : ℕ) {f f' : TurnFacts} {t : TurnStage} → TurnLawful c f Resting → Trace c f Resting f' t → t ≡ Frees n → WasStamped c f n
was c n law starts is = absurd (cc)
was c n law (others trace step) is = was c n law trace is
was c n law (evicts safe trace durable) is = was c n law trace is
was c n {f = f} law (turns {f' = f'} {f'' = f''} {t = t} {u = u} trace step) is = last step trace is
  where
    last : {g g' : TurnFacts} {s u : TurnStage} → TurnStep c g s g' u → Trace c f Resting g s → u ≡ Frees n → WasStamped c f n
    last {g = g} (unstamps m) trace is =
        let node : m ≡ n = cc in
        record {
          then_facts = g;
          earlier = subst (λ k. Trace c f Resting g (IsUnworn k)) node trace;
          released = subst (λ k. IsReleased c g k) node (keeps c law trace).sure.0;
        }
    last _ trace is = absurd (cc)

pub freed_were_stamped : FreedWereStamped
freed_were_stamped c f f' n law trace = was c n law trace refl
