use Rattle.std.proofs.Common.{◌≡◌, ℕ, ◌+◌, Bool, true, false, cond, sym, ◌∙◌, ⊎_elim, arith}
use Rattle.std.specs.Prelude.{None, Some}
use Rattle.std.specs.Bool.{MatchBool}
use Rattle.pm_words.specs.Images.{Row}
use Rattle.image_recovery.specs.declared.making.Making.{Making}
use Rattle.image_recovery.specs.declared.stepping.Recovery.{Recovery as Moves}
use Rattle.image_recovery.specs.Recoveries.{HasEnded, MakesOne}
use Rattle.recovery.specs.Stops.{StepsOne}
use Rattle.recovery.specs.declared.stopping.Recovery.{Recovery}
use Rattle.recovery.proofs.Breaks.{goes_on}
use Rattle.recovery.proofs.stopping.Recovery.step.Goals as goal

none-some : {making : Making} → None ≡ Some making → ⊥
none-some is = cc

not-ended : (old new : Moves) (row after : Row) → MakesOne old row new after → HasEnded old → ⊥
not-ended old new row after made ended = ⊎_elim (λ at. none-some (sym ended.0 ∙ at.1)) (λ next. omega (arith, next.2, ended.1)) made.taken.which

steps-one : (old new : Recovery) (before after : ℕ) (made : Bool)
    → MatchBool made (MakesOne old.moves old.memory new.moves new.memory) (HasEnded old.moves × (new.moves ≡ old.moves) × (new.memory ≡ old.memory)) → after ≡ cond made (before + 1) before
    → StepsOne old before new after
steps-one old new before after true acts counts = record { one = λ still. (acts, counts); none = λ ended. absurd (not-ended old.moves new.moves old.memory new.memory acts ended) }
steps-one old new before after false acts counts = record { one = λ still. absurd (still acts.0); none = λ ended. (acts.1, acts.2, counts) }

pub step-requires : goal.step-requires
step-requires g c = record { image = c.requires.image; recoverable = c.requires.is.recoverable; recovering = c.requires.is.recovering }

pub returns-clause-goes : goal.returns-clause-goes
returns-clause-goes g c image is = goes_on image c.args.self.now c.step.new.self c.step.new.memory is (c.step.ensures.goes image is.recoverable is.recovering)

pub returns-clause-one : goal.returns-clause-one
returns-clause-one g c = steps-one c.args.self.now _ c.args.steps.now c.step.new.steps c.step.result c.step.ensures.acts c.step.ensures.counts

pub returns-clause-done : goal.returns-clause-done
returns-clause-done g c = c.is_done.ensures
