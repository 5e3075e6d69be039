-- The stage of each state of a turn, and that its turns are steps of the kinds of turns on rows of words.
use Rattle.std.specs.Prelude.{◌≡◌, ℕ}
use Rattle.pm_words.specs.declared.machine.Turn.{Turn}
use Rattle.pm_words.specs.declared.machine.Turn.TheVariants.{Go, Done}
use Rattle.pm_alloc.specs.declared.gone.ReleaseAt.{ReleaseAt}
use Rattle.pm_alloc.specs.declared.gone.ReleaseAt.TheVariants as release_at
use Rattle.updater_row_law.specs.search_layer.specs.ChangeStages.{stage_of}
use Rattle.smo_log.specs.declared.line.Entry.{Entry}
use Rattle.updater_row_law.specs.Columns.{RowTerms}
use Rattle.updater_row_law.specs.RowStages.{RowLine, RowTarget, RowStage, Resting, Between, Reads, Lands, HasTarget}
use Rattle.updater_row_law.specs.RowStages.{Changes}
use Rattle.updater_row_law.specs.RowStages.{Stamps, Clears, Sweeps, Gone, HasStamp, IsUnworn, Frees, Counts}
use Rattle.updater_row_law.specs.RowSteps.{RowStep}
use Rattle.updater.specs.declared.taking.Took.{Took}
use Rattle.updater.specs.declared.taking.Took.TheVariants.{Taken}
use Rattle.updater.specs.declared.terms.Terms.{Terms}
use Rattle.updater.specs.declared.terms.Turned.{Turned}
use Rattle.updater.specs.declared.terms.Found.{Found}
use Rattle.updater.specs.declared.work.Work.{Work}
use Rattle.updater.specs.declared.work.WorkAt.{WorkAt}
use Rattle.updater.specs.declared.work.WorkAt.TheVariants as at
use Rattle.updater.specs.Takings.{taking_asks, took_of}
use Rattle.updater.specs.Works.{work_from, work_asks, work_turned, work_takes}

abbrev pub row_terms : Terms → RowTerms
row_terms terms = record {
  layout = terms.layout;
  generation = terms.generation;
  stamp = terms.stamp;
  release = terms.release;
}

abbrev pub line_of : ℕ → Entry → RowLine
line_of line entry = record { line = line; kind = entry.kind; node = entry.node; anchor = entry.anchor }

abbrev pub target_of : Found → RowTarget
target_of found = record { node = found.node; version = found.version; low = found.low }

abbrev pub release_stage : ReleaseAt → ℕ → RowStage
release_stage release_at.Stamp node = IsUnworn node
release_stage release_at.Status node = Frees node

abbrev pub work_at_stage : Terms → WorkAt → RowStage
work_at_stage terms (at.State line) = Between line
work_at_stage terms (at.Reading read) = Reads read.line read.offset read.words
work_at_stage terms (at.Landing line entry floor) = Lands (line_of line entry)
work_at_stage terms (at.Walking line entry walk) = Lands (line_of line entry)
work_at_stage terms (at.Seeing line entry found) = HasTarget (line_of line entry) (target_of found)
work_at_stage terms (at.Setting line entry set) =
    Changes (line_of line entry) set.change.word (stage_of set.change)
work_at_stage terms (at.Unsetting line entry unset) =
    Changes (line_of line entry) unset.change.word (stage_of unset.change)
work_at_stage terms (at.Stamping line entry) = Stamps (line_of line entry)
work_at_stage terms (at.Clearing clear) = Clears clear.line
work_at_stage terms (at.Status node) = Sweeps node
work_at_stage terms (at.Stamp node) = Gone node
work_at_stage terms (at.Version node) = HasStamp node
work_at_stage terms (at.Releasing release) = release_stage release.at release.node
work_at_stage terms (at.Counting node none) = Counts node none
work_at_stage terms (at.Leaving none) = Counts terms.layout.nodes none

abbrev pub work_stage : Work → RowStage
work_stage work = work_at_stage work.terms work.at

-- once it is done, it has given the updater lock back
abbrev pub stage_after : Turn Work Turned → RowStage
stage_after (Go work) = work_stage work
stage_after (Done answer) = Resting

-- where it has the lock, its work begins at the first line
abbrev pub stage_taken : Took → RowStage
stage_taken Taken = Between 0
stage_taken _ = Resting

-- An attempt at the updater lock is a step, whatever it finds, and a turn's work begins where that leads.
abbrev pub TakingsAreSteps : Type 0
TakingsAreSteps = (terms : RowTerms) (x : ℕ) →
    RowStep terms Resting (taking_asks terms.layout) x (stage_taken (took_of x))

abbrev pub WorksStart : Type 0
WorksStart = (terms : Terms) →
    work_stage (work_from terms.layout terms.generation terms.stamp terms.release) ≡ Between 0

-- Each turn of the work is a step of its stage, whatever it is told of what its action may give.
abbrev pub WorksAreSteps : Type 0
WorksAreSteps = (work : Work) (x : ℕ) → work_takes work x →
    RowStep (row_terms work.terms) (work_stage work) (work_asks work) x (stage_after (work_turned work x))
