-- A whole turn is a step on a row of words and a watch at each of its turns.
use Rattle.std.proofs.Common.{◌≡◌, ℕ, inl, inr, refl, sym, subst, arith}
use Rattle.std.proofs.lemmas.Bool.{cases_eq, ne_eqb}
use Rattle.pm_words.specs.declared.machine.Turn.{Turn}
use Rattle.pm_words.specs.declared.machine.Turn.TheVariants.{Go, Done}
use Rattle.call_stages.specs.Watches.{Nothing}
use Rattle.updater_row_law.specs.RowStages.{Resting}
use Rattle.updater_row_law.specs.Turnings.{Turning, TurnFoot}
use Rattle.updater.specs.declared.making.MakeTurn.TheVariants.{Taking, Working}
use Rattle.updater.specs.declared.terms.Terms.{Terms}
use Rattle.updater.specs.declared.terms.Turned.{Turned}
use Rattle.updater.specs.declared.work.Work.{Work}
use Rattle.updater.specs.Laws.{WorkStays}
use Rattle.updater.specs.Steps.{row_terms, stage_taken}
use Rattle.updater.specs.Takings.{taking_asks, took_of}
use Rattle.updater.specs.Works.{IsTerms, work_from, work_asks, work_turned}
use Rattle.updater.specs.Watches.{turning_at, work_turning, turning_after}
use Rattle.updater.specs.Makings.{worked, lock_found, turning_made, MakingStays, MakingsStaySound, MakingsAreFeet}
use Rattle.updater.proofs.FootLaw.{takings_are_feet, works_are_feet}
use Rattle.updater.proofs.WorkSound.{works_stay_sound}

-- what its work goes on as
worked_stays : (terms : Terms) (turn : Turn Work Turned) → WorkStays terms turn → MakingStays terms (worked turn)
worked_stays terms (Go work) stays = stays
worked_stays terms (Done answer) stays = tt

worked_turning : (terms : Terms) (turn : Turn Work Turned) → turning_after terms turn ≡ turning_made terms (worked turn)
worked_turning terms (Go work) = refl
worked_turning terms (Done answer) = refl

-- its work begins with these terms
begins_work : (terms : Terms) → IsTerms terms → MakingStays terms (Go (Working (work_from terms.layout terms.generation terms.stamp terms.release)))
begins_work terms is = (record { terms = is; here = omega (arith, is.layout.callers) }, refl)

-- by what it finds in the lock
found_stays : (terms : Terms) (word : ℕ) → IsTerms terms → MakingStays terms (lock_found terms word)
found_stays terms word is = elim (cases_eq word 0) [
  | inl e ↦ subst (λ k. MakingStays terms (lock_found terms k)) (sym e) (begins_work terms is)
  | inr other ↦ rw (ne_eqb word 0 other) tt
]

found_turning : (terms : Terms) (word : ℕ) → turning_at (row_terms terms) (stage_taken (took_of word)) Nothing ≡ turning_made terms (lock_found terms word)
found_turning terms word = elim (cases_eq word 0) [
  | inl e ↦ subst (λ k. turning_at (row_terms terms) (stage_taken (took_of k)) Nothing ≡ turning_made terms (lock_found terms k)) (sym e) refl
  | inr other ↦ rw (ne_eqb word 0 other) refl
]

pub makings_stay_sound : MakingsStaySound
makings_stay_sound (Taking terms) x takes = found_stays terms x takes.0
makings_stay_sound (Working work) x takes = worked_stays work.terms (work_turned work x) (works_stay_sound work x takes)

pub makings_are_feet : MakingsAreFeet
makings_are_feet (Taking terms) x takes =
    subst (λ (t : Turning). TurnFoot (row_terms terms) (turning_at (row_terms terms) Resting Nothing) (taking_asks terms.layout) x t) (found_turning terms x)
    (takings_are_feet (row_terms terms) x)
makings_are_feet (Working work) x takes =
    subst (λ (t : Turning). TurnFoot (row_terms work.terms) (work_turning work) (work_asks work) x t) (worked_turning work.terms (work_turned work x)) (works_are_feet work x takes)
