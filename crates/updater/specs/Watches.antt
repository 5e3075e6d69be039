-- What a turn of the updater relies on while it walks, and what it has seen of the target to which its walk comes.
use Rattle.std.specs.Prelude.{◌≡◌, ◌↔◌, ℕ, List}
use Rattle.pm_words.specs.declared.action.Action.{Action}
use Rattle.pm_words.specs.declared.machine.Turn.{Turn}
use Rattle.pm_words.specs.declared.machine.Turn.TheVariants.{Go, Done}
use Rattle.call_stages.specs.Kinds.{Told}
use Rattle.call_stages.specs.Watches.{Watching, Nothing, Watch}
use Rattle.call_stages.specs.data_node.specs.Lists.{number_of}
use Rattle.data_list.specs.declared.walk.Walk.{Walk}
use Rattle.data_list.specs.Walks.{walk_asks}
use Rattle.data_list.specs.WalkStages.{walk_watching}
use Rattle.layer_map.specs.Keys.{key_number}
use Rattle.smo_log.specs.declared.line.Entry.{Entry}
use Rattle.updater_row_law.specs.Columns.{RowTerms}
use Rattle.updater_row_law.specs.RowStages.{RowLine, RowTarget, RowStage, Resting, HasTarget}
use Rattle.updater_row_law.specs.Turnings.{Turning, SeesTarget, TurnFoot}
use Rattle.updater.specs.declared.terms.Terms.{Terms}
use Rattle.updater.specs.declared.terms.Turned.{Turned}
use Rattle.updater.specs.declared.work.Work.{Work}
use Rattle.updater.specs.declared.work.WorkAt.{WorkAt}
use Rattle.updater.specs.declared.work.WorkAt.TheVariants as at
use Rattle.updater.specs.Works.{IsWork, work_asks, work_turned, work_takes}
use Rattle.updater.specs.Steps.{row_terms, line_of, target_of, work_stage, stage_after, stage_taken}
use Rattle.updater.specs.Takings.{taking_asks, took_of}

-- while it walks, what its walk relies on
abbrev pub work_at_watching : WorkAt → Watching
work_at_watching (at.Walking line entry walk) = walk_watching walk
work_at_watching _ = Nothing

abbrev pub work_watching : Work → Watching
work_watching work = work_at_watching work.at

-- Where the walk has found a target, it sees that.
abbrev pub SeesFound : Terms → Watching → Action → ℕ → WorkAt → Type 0
SeesFound terms watching action x (at.Seeing line entry found) =
    SeesTarget (row_terms terms) watching action x (line_of line entry) (target_of found)
SeesFound terms watching action x _ = Unit {0}

-- A turn that relied on that, whose action gave x: it is a watch, and sees the target that it finds.
abbrev pub WorkWatches : Terms → Watching → Action → ℕ → Turn Work Turned → Type 0
WorkWatches terms watching action x (Go work) =
    Watch terms.layout terms.generation watching action x (work_watching work) ×
    SeesFound terms watching action x work.at
WorkWatches terms watching action x (Done answer) = Unit {0}

-- So is each turn of the work, whatever it is told of what its action may give.
abbrev pub WorksAreWatches : Type 0
WorksAreWatches = (work : Work) (x : ℕ) → work_takes work x →
    WorkWatches work.terms (work_watching work) (work_asks work) x (work_turned work x)

-- By stages: the step that leads to a target sees it.
abbrev pub TargetsAreSeen : Type 0
TargetsAreSeen = (work : Work) (x : ℕ) (e : RowLine) (target : RowTarget) → work_takes work x →
    stage_after (work_turned work x) ≡ HasTarget e target →
    SeesTarget (row_terms work.terms) (work_watching work) (work_asks work) x e target

-- The walk's number of a key is that of the layer.
abbrev pub KeysHaveOneNumber : Type 0
KeysHaveOneNumber = (words : List ℕ) → number_of words ≡ key_number words

-- While it walks, it may be told just what its walk may be told: a walk loads no word of a log line.
abbrev pub WalksAreTold : Type 0
WalksAreTold = (work : Work) (x line : ℕ) (entry : Entry) (walk : Walk) → IsWork work →
    work.at ≡ at.Walking line entry walk →
    (work_takes work x ↔ Told walk.layout walk.generation (walk_asks walk) x)

-- A turn of these terms, which is at this stage, and whose walk relies on that.
abbrev pub turning_at : RowTerms → RowStage → Watching → Turning
turning_at terms stage watching =
    record { stamp = terms.stamp; release = terms.release; stage = stage; watch = watching }

abbrev pub work_turning : Work → Turning
work_turning work = turning_at (row_terms work.terms) (work_stage work) (work_watching work)

abbrev pub turning_after : Terms → Turn Work Turned → Turning
turning_after terms (Go work) = work_turning work
turning_after terms (Done answer) = turning_at (row_terms terms) Resting Nothing

-- So an attempt at the updater lock, and each turn of the work, is a step of the row and a watch at once.
abbrev pub TakingsAreFeet : Type 0
TakingsAreFeet = (terms : RowTerms) (x : ℕ) →
    TurnFoot terms (turning_at terms Resting Nothing) (taking_asks terms.layout) x
    (turning_at terms (stage_taken (took_of x)) Nothing)

abbrev pub WorksAreFeet : Type 0
WorksAreFeet = (work : Work) (x : ℕ) → work_takes work x →
    TurnFoot (row_terms work.terms) (work_turning work) (work_asks work) x
    (turning_after work.terms (work_turned work x))
