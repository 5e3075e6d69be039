-- What every turn on a log line is.
use Rattle.std.specs.Prelude.{◌≡◌, ◌≢◌, ℕ, ◌+◌, ◌*◌, ◌^◌, ◌<◌, Option, IfSome}
use Rattle.pm_words.specs.declared.layout.Layout.{Layout}
use Rattle.pm_words.specs.declared.action.Action.{Action}
use Rattle.pm_words.specs.declared.machine.Turn.{Turn}
use Rattle.pm_words.specs.declared.machine.Turn.TheVariants.{Go, Done}
use Rattle.pm_words.specs.Codes.{empty_state}
use Rattle.call_stages.specs.Lines.{HeldLine, Notes}
use Rattle.call_stages.specs.AnySteps.{IsBeside}
use Rattle.smo_log.specs.declared.line.Entry.{Entry}
use Rattle.smo_log.specs.declared.take.Taken.{Taken}
use Rattle.smo_log.specs.declared.take.Taken.TheVariants.{Line, Full}
use Rattle.smo_log.specs.declared.take.Take.{Take}
use Rattle.smo_log.specs.declared.take.TakeAt.{TakeAt}
use Rattle.smo_log.specs.declared.take.TakeAt.TheVariants as at
use Rattle.smo_log.specs.declared.open.Open.{Open}
use Rattle.smo_log.specs.declared.state.Ready.{Ready}
use Rattle.smo_log.specs.declared.read.ReadLine.{ReadLine}
use Rattle.smo_log.specs.Takes.{IsTake, take_asks, take_turned, take_held, TakeNotes}
use Rattle.smo_log.specs.Opens.{IsOpen, open_asks, open_turned, open_held, OpenNotes}
use Rattle.smo_log.specs.States.{IsReady, ready_asks, ready_turned, ready_held, ReadyNotes}
use Rattle.smo_log.specs.Reads.{IsRead, read_asks, read_turned, ReadNotes, HasRead, ReadsOn}

-- Each turn of a look for a line, whatever word it is told, is a step on a line,
abbrev pub TakesAreNotes : Type 0
TakesAreNotes = (take : Take) (x : ℕ) → IsTake take → x < 2 ^ 64 →
    TakeNotes take.layout take.caller (take_held take) (take_asks take) x (take_turned take x)

-- and so is each of its opening,
abbrev pub OpensAreNotes : Type 0
OpensAreNotes = (open_ : Open) (x : ℕ) → IsOpen open_ → x < 2 ^ 64 →
    OpenNotes open_.layout open_.line open_.entry (open_held open_) (open_asks open_) x (open_turned open_ x)

-- of its state READY,
abbrev pub ReadiesAreNotes : Type 0
ReadiesAreNotes = (ready : Ready) (entry : Entry) (x : ℕ) → IsReady ready → x < 2 ^ 64 →
    ReadyNotes ready.layout ready.line entry (ready_held entry ready) (ready_asks ready) x (ready_turned ready x)

-- and each of a read, which relies on nothing.
abbrev pub ReadsAreNotes : Type 0
ReadsAreNotes = (read : ReadLine) (x : ℕ) → IsRead read →
    ReadNotes read.layout read.line (read_asks read) x (read_turned read x)

-- None of a caller's first so many lines was EMPTY, where it was told their states.
abbrev pub NoneEmpty : (ℕ → ℕ) → ℕ → Type 0
NoneEmpty told most = (index : ℕ) → index < most → told index ≢ empty_state

-- What a look for a line answers that was told these states: the first EMPTY line, or none.
abbrev pub TakeTells : ℕ → (ℕ → ℕ) → ℕ → Taken → Type 0
TakeTells c told index (Line line) = (line ≡ 8 * c + index) × (index < 8) × (told index ≡ empty_state) × NoneEmpty told index
TakeTells c told index Full = NoneEmpty told 8

-- The states that it has loaded so far are so.
abbrev pub HasLooked : (ℕ → ℕ) → ℕ → TakeAt → Type 0
HasLooked told index at.State = NoneEmpty told index
HasLooked told index (at.Fence fence) = NoneEmpty told index × (told index ≡ empty_state)

abbrev pub TakeHeeds : ℕ → (ℕ → ℕ) → ℕ → Turn Take Taken → Type 0
TakeHeeds c told index (Go take) = HasLooked told take.index take.at
TakeHeeds c told index (Done answer) = TakeTells c told index answer

-- The answer follows from the states that it was told, whatever its fence is told.
abbrev pub TakesHeed : Type 0
TakesHeed = (take : Take) (told : ℕ → ℕ) (x : ℕ) → IsTake take → (take.at ≡ at.State → x ≡ told take.index) →
    HasLooked told take.index take.at →
    TakeHeeds take.caller told take.index (take_turned take x)

-- A read tells the words as it was told them.
abbrev pub ReadsHeed : Type 0
ReadsHeed = (read : ReadLine) (told : ℕ → ℕ) → IsRead read → HasRead told read.words read.offset →
    ReadsOn told (read_turned read (told read.offset))

-- Each of these steps on a line, of a line that is the layout's, is one beside nodes.
abbrev pub NotesAreBeside : Type 0
NotesAreBeside = (l : Layout) (line after : Option HeldLine) (action : Action) (x : ℕ) →
    IfSome line (λ e. (e.caller < l.callers) × (e.number < 8)) → Notes l line action x after → IsBeside l action

-- A machine that goes on after a turn is one of which this holds.
abbrev pub StaysSo : {M A : Type 0} → (M → Type 0) → Turn M A → Type 0
StaysSo fits (Go machine) = fits machine
StaysSo fits (Done answer) = Unit {0}
