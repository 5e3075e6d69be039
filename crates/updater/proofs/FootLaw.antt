-- Each turn is at once a step on a row of words, and a watch of its walk.
use Rattle.std.proofs.Common.{◌≡◌, ℕ, refl, ap}
use Rattle.pm_words.specs.declared.machine.Turn.{Turn}
use Rattle.pm_words.specs.declared.machine.Turn.TheVariants.{Go, Done}
use Rattle.call_stages.specs.Watches.{lets_go}
use Rattle.updater_row_law.specs.RowStages.{RowLine, RowTarget, Resting, Between, HasTarget}
use Rattle.updater_row_law.specs.RowSteps.{RowStep}
use Rattle.updater_row_law.specs.Turnings.{SeesTarget, TurnFoot}
use Rattle.updater.specs.declared.taking.Took.{Took}
use Rattle.updater.specs.declared.taking.Took.TheVariants.{Taken, Held}
use Rattle.updater.specs.declared.terms.Terms.{Terms}
use Rattle.updater.specs.declared.terms.Turned.{Turned}
use Rattle.updater.specs.declared.work.Work.{Work}
use Rattle.updater.specs.Laws.{WorkStays}
use Rattle.updater.specs.Steps.{row_terms, work_stage, stage_after, stage_taken}
use Rattle.updater.specs.Takings.{took_of}
use Rattle.updater.specs.Watches.{work_watching, WorkWatches, work_turning, turning_after, TakingsAreFeet, WorksAreFeet}
use Rattle.updater.specs.Works.{work_asks, work_turned}
use Rattle.updater.proofs.StepLaw.{takings_are_steps, works_are_steps}
use Rattle.updater.proofs.WatchLaw.{works_are_watches, targets_are_seen}
use Rattle.updater.proofs.WorkSound.{works_stay_sound}

-- both laws of a turn at once
works_are_feet_at : (work : Work) (x : ℕ) (turn : Turn Work Turned) → RowStep (row_terms work.terms) (work_stage work) (work_asks work) x (stage_after turn)
    → WorkWatches work.terms (work_watching work) (work_asks work) x turn → WorkStays work.terms turn
    → ((e : RowLine) (target : RowTarget) → stage_after turn ≡ HasTarget e target → SeesTarget (row_terms work.terms) (work_watching work) (work_asks work) x e target)
    → TurnFoot (row_terms work.terms) (work_turning work) (work_asks work) x (turning_after work.terms turn)
works_are_feet_at work x (Go next) row watch stays sees =
    record { row = row; watch = watch.0; found = sees; stamp = ap (λ (t : Terms). t.stamp) stays.1; release = ap (λ (t : Terms). t.release) stays.1 }
works_are_feet_at work x (Done answer) row watch stays sees =
    record { row = row; watch = lets_go; found = λ e target is. absurd (let no : Resting ≡ HasTarget e target = is in cc); stamp = refl; release = refl }

pub works_are_feet : WorksAreFeet
works_are_feet work x takes =
    works_are_feet_at work x (work_turned work x) (works_are_steps work x takes) (works_are_watches work x takes) (works_stay_sound work x takes) (λ e target is. targets_are_seen work x e target takes is)

pub takings_are_feet : TakingsAreFeet
takings_are_feet terms x = record {
  row = takings_are_steps terms x;
  watch = lets_go;
  found = λ e target is. none (took_of x) e target is;
  stamp = refl;
  release = refl;
}
  where
    none : {A : Type 0} (took : Took) (e : RowLine) (target : RowTarget) → stage_taken took ≡ HasTarget e target → A
    none Taken e target is = absurd (let no : Between 0 ≡ HasTarget e target = is in cc)
    none (Held word) e target is = absurd (let no : Resting ≡ HasTarget e target = is in cc)
