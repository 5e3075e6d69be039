-- Each action of a turn can be done, may be told what that gives, and keeps the index with its search layer.
use Rattle.std.proofs.Common.{◌≡◌, ◌≢◌, ℕ, zero, suc, ◌^◌, ◌<◌, inl, inr, List, sym, subst, ap, ◌∙◌}
use Rattle.std.proofs.lemmas.Bool.{cases_eq}
use mathlib.Core.Option.{some}
use lib.ListN.{get_elem?}
use Rattle.pm_words.specs.Rows.{got}
use Rattle.pm_words.specs.Codes.{ready_state}
use Rattle.index_law.specs.Worlds.{World}
use Rattle.updater_law.specs.Facts.{TurnTerms, TurnFacts}
use Rattle.updater_law.specs.Lawful.{SureTurn}
use Rattle.index_layer_law.specs.updater_row_law.specs.Columns as rows
use Rattle.index_layer_law.specs.updater_row_law.specs.RowStages.{Resting, reading_stage, turn_stage}
use Rattle.index_layer_law.specs.updater_row_law.specs.Turnings.{Turning}
use Rattle.updater.specs.declared.terms.Terms.{Terms}
use Rattle.updater.specs.declared.terms.Tally.{Tally}
use Rattle.updater.specs.declared.work.Work.{Work}
use Rattle.updater.specs.declared.work.WorkAt.{WorkAt}
use Rattle.updater.specs.declared.work.WorkAt.TheVariants as at
use Rattle.updater.specs.Steps.{work_at_stage}
use Rattle.updater.specs.Watches.{work_turning, turning_after}
use Rattle.updater.specs.Works.{IsWork, work_asks, work_turned, work_takes}
use Rattle.updater.proofs.FootLaw.{works_are_feet}
use Rattle.index_layer_law.specs.Turnings.{terms_of, AreRestingBut}
use Rattle.index_layer_law.specs.Layers.{Layered, IsLayered, turn_facts}
use Rattle.index_layer_law.proofs.TurnSteps.{turn_step_keeps}
use Rattle.lone_updater_law.specs.Laws.{terms_in, TurnActs, TurnsAct}
use Rattle.lone_updater_law.proofs.Told.{ReadsReady, told_any, told_of_line}

-- beside a turn that doesn't rest all others do
resting_beside : (z : Layered) (i : ℕ) (t : Turning) → IsLayered z → get_elem? z.turns i ≡ some t → t.stage ≢ Resting → AreRestingBut z.turns i
resting_beside z i t is there busy = elim (cases_eq is.active.0 i) [
  | inl same ↦ subst (AreRestingBut z.turns) same is.active.3
  | inr other ↦ absurd (busy (is.active.3 i t there (λ e. other (sym e))))
]

-- a line that is read is READY
read_ready : (c : TurnTerms) (f : TurnFacts) (j offset : ℕ) (seen : List ℕ) → SureTurn c f (reading_stage j offset seen) → f.line.state j ≡ ready_state
read_ready c f j zero seen sure = sure
read_ready c f j (suc zero) seen sure = sure
read_ready c f j (suc (suc zero)) seen sure = sure.0
read_ready c f j (suc (suc (suc more))) seen sure = sure.0

module _ (z : Layered) (i stamp release : ℕ) (tally : Tally) (state : WorkAt) (x : ℕ) (is : IsLayered z)
    (there : get_elem? z.turns i ≡ some (work_turning (record { terms = terms_in z.whole.world stamp release; tally = tally; at = state })))
    (small : stamp < 2 ^ 64) (sound : IsWork (record { terms = terms_in z.whole.world stamp release; tally = tally; at = state }))
    (told : x ≡ got z.whole.world.layout z.whole.world.words (work_asks (record { terms = terms_in z.whole.world stamp release; tally = tally; at = state }))) where
  abbrev w : World
  w = z.whole.world

  abbrev work : Work
  work = record { terms = terms_in z.whole.world stamp release; tally = tally; at = state }

  reads_ready : ReadsReady w.layout w.words state
  reads_ready read reads =
      let busy : work_at_stage (terms_in w stamp release) state ≢ Resting = λ rests. absurd (let no : work_at_stage (terms_in w stamp release) (at.Reading read) ≡ Resting = ap (work_at_stage (terms_in w stamp release)) (sym reads) ∙ rests in cc) in
      let lawful = is.rows i (work_turning work) there (resting_beside z i (work_turning work) is there busy) in
      let c : TurnTerms = rows.terms_of (terms_of w (work_turning work)) in
      let f : TurnFacts = turn_facts w is.holder (work_turning work) in
      read_ready c f read.line read.offset read.words (subst (λ (s : WorkAt). SureTurn c f (turn_stage (work_at_stage (terms_in w stamp release) s))) reads lawful.law.sure)

  takes : work_takes work x
  takes = subst (λ y. work_takes work y) (sym told)
      (sound, told_any w (work_asks work) is.whole.joint.lawful, told_of_line (terms_in w stamp release) tally state w.words sound.terms sound.here is.whole.joint.fit reads_ready)

  acts : TurnActs z i work x
  acts =
      let kept = turn_step_keeps z i (work_turning work) (turning_after work.terms (work_turned work x)) (work_asks work) x is there small (works_are_feet work x takes) told in
      record { can = kept.0; takes = takes; kept = kept.1 }

pub turns_act : TurnsAct
turns_act z i work x is there terms small sound told =
    subst (λ (t : Terms). Acts (record { terms = t; tally = work.tally; at = work.at })) (sym terms)
    (λ there sound told. acts z i work.terms.stamp work.terms.release work.tally work.at x is there small sound told) there sound told
  where
    Acts : Work → Type 0
    Acts work = get_elem? z.turns i ≡ some (work_turning work) → IsWork work → x ≡ got z.whole.world.layout z.whole.world.words (work_asks work) → TurnActs z i work x
