-- What the program owes: what each command prints, and what each status says of source, sink and shelf.
use Rattle.std.specs.Prelude.{◌≡◌, ℕ, ◌<◌, ◌⊎◌, ◌↔◌, List, [], ◌∷◌, Option, IfSome, Some, length, take, fold}
use Rattle.std.specs.FinMap.{empty, insert, remove}
use Rattle.std.specs.Io.KnownBytes.{Appends, Keeps}
use Rattle.cat_command.specs.Commands.{IsCommand}
use Rattle.cat_command.specs.declared.command.Command.{Command}
use Rattle.cat_command.specs.declared.command.Command.TheVariants.{Play, Gen}
use Rattle.cat_history.specs.Maps.{Map}
use Rattle.cat_history.specs.declared.op.CallerOp.{CallerOp}
use Rattle.cat_history.specs.declared.op.Op.{Op}
use Rattle.cat_history.specs.declared.op.Op.TheVariants.{Put, Get, Del, Scan}
use Rattle.cat_script.specs.Generators.{generated_plan, generated_calls}
use Rattle.cat_script.specs.declared.fault.ScriptFault.{ScriptFault}
use Rattle.cat_script.specs.declared.fault.ScriptFault.TheVariants.{Bytes}
use Rattle.cat_script.specs.declared.fault.TheConstants.{MOST_BYTES}
use Rattle.cat_script.specs.declared.script.Script.{Script}
use Rattle.cat_text.specs.Summaries.{summary_line}
use Rattle.cat_text.specs.declared.report.RoundReport.{RoundReport}
use Rattle.cat_text.specs.Shelves.{FileMap, KeepsFiles}
use Rattle.pm_words.specs.Bytes.{HasNoFault, IsFault, bytes_of, words_in}
use Rattle.pm_words.specs.Images.{Row, fresh_words}
use Rattle.pm_words.specs.declared.layout.Layout.{Layout}
use Rattle.catalog_cli.specs.Files.{Formats, FormatsSome, HasBytes, HasFile, HasImage, HasNoFile, ListsSome}
use Rattle.catalog_cli.specs.Files.{ListsWords, MakesFile, NamesFile, RunsScript, file_of, formatted_line, lines_told}
use Rattle.catalog_cli.specs.Reports.{IsAccepted, IsRefusedBy, IsReportOf, empty_opening}
use Rattle.crowd_rounds.specs.core_rounds.specs.Rounds.{ArePlayed}
use Rattle.shapes.specs.Anchors.{Anchors}
use Rattle.catalog_cli.specs.Runs.{AreBytesLeft, HasScript, IsFileAfterRun, IsNoScript, IsOpenable}
use Rattle.catalog_cli.specs.Runs.{IsRefusedOnFile, IsRunFileCause, IsRunOnFile, IsRunRefusal}
use Rattle.crowd_rounds.specs.core_rounds.specs.Summaries.{full_in, summary_of}
use Rattle.catalog_cli.specs.declared.status.ImageRefusal.{ImageRefusal}
use Rattle.catalog_cli.specs.declared.status.ImageRefusal.TheVariants as image
use Rattle.catalog_cli.specs.declared.status.Status.{Status}
use Rattle.catalog_cli.specs.declared.status.Status.TheVariants as status

-- ---- commands and scripts

-- The words of a command that reads a script, to play it on an empty catalogue of this layout. (A run on a file has
-- those of `RunsScript`.)
abbrev pub ReadsScript : List (List ℕ) → Layout → Type 0
ReadsScript words layout = IsCommand words (Play layout)

-- The words of a command that plays the calls that a seed makes, so many, for so many callers.
abbrev pub Generates : List (List ℕ) → ℕ → ℕ → ℕ → Type 0
Generates words seed count callers = IsCommand words (Gen seed count callers)

-- ---- generated rounds

-- The map once a call is done on it.
abbrev pub done : Map → Op → Map
done m (Put name value) = insert m name value
done m (Get name) = m
done m (Del name) = remove m name
done m (Scan from count) = m

-- The map once these calls are done on it, in their order.
abbrev pub all_done : Map → List CallerOp → Map
all_done m asked = fold (λ now (a : CallerOp). done now a.op) m asked

-- The text is the summary of a legal round of the calls that a seed makes for so many callers, from an empty catalogue
-- of 1024 nodes of 64 slots, whose one member weighs 32. Where no call was answered that there is no room, the map at
-- its end is that of the calls done in their order.
pub record IsSummaryOf (seed count callers : ℕ) (text : List ℕ) : Type 0 where
  pub report : RoundReport
  pub end : Map
  pub shape : Anchors
  pub played : ArePlayed 64 1024 32 0 empty ([] ∷ []) (generated_plan seed count callers ∷ []) (report ∷ []) end shape
  pub told : text ≡ summary_line (summary_of (generated_calls seed count callers) report.records end)
  pub in_order : full_in report.records ≡ 0 → end ≡ all_done empty (generated_calls seed count callers)

-- ---- source and sink

-- What is told of source and shelf: the bytes that the source had left, the files that there were and those that there
-- are now, and how many calls of each had failed before the run and after it.
pub record Seen : Type 0 where
  pub left : Option (List ℕ)
  pub files : Option FileMap
  pub files' : Option FileMap
  pub reads : ℕ
  pub reads' : ℕ
  pub shelves : ℕ
  pub shelves' : ℕ

abbrev pub seen : Option (List ℕ) → (files files' : Option FileMap) → (reads reads' shelves shelves' : ℕ) → Seen
seen left files files' reads reads' shelves shelves' = record {
  left = left;
  files = files;
  files' = files';
  reads = reads;
  reads' = reads';
  shelves = shelves;
  shelves' = shelves';
}

-- The text that a command prints: the report of the script that the source had left, played on an empty catalogue or on
-- a file, which then has what those very rounds leave; the summary of a generated round; the line of a fresh image; or
-- those of words of the file that there was.
pub data Prints (words : List (List ℕ)) (told : Seen) (text : List ℕ) : Type 0 where
  reports : (layout : Layout) (bytes : List ℕ) → ReadsScript words layout → AreBytesLeft told.left bytes →
      IsReportOf (empty_opening layout) bytes text → Prints words told text
  runs : RunsScript words → IsRunOnFile told.left told.files told.files' (file_of words) text → Prints words told text
  sums_up : (seed count callers : ℕ) → Generates words seed count callers → IsSummaryOf seed count callers text →
      Prints words told text
  makes_file : (layout : Layout) → Formats words layout → HasNoFile told.files (file_of words) →
      text ≡ formatted_line layout → Prints words told text
  lists_words : (from count : ℕ) (bytes : List ℕ) → ListsWords words from count →
      HasBytes told.files (file_of words) bytes → HasNoFault bytes →
      text ≡ lines_told from count (words_in bytes) → Prints words told text

-- What the command prints was appended to the sink.
pub record PrintsAll (words : List (List ℕ)) (told : Seen) (written written' : Option (List ℕ)) : Type 0 where
  pub text : List ℕ
  pub prints : Prints words told text
  pub sink : Appends written written' text

-- A beginning of it was appended.
pub record PrintsPart (words : List (List ℕ)) (told : Seen) (written written' : Option (List ℕ)) : Type 0 where
  pub text : List ℕ
  pub count : ℕ
  pub short : count < length text
  pub prints : Prints words told text
  pub sink : Appends written written' (take count text)

-- What the sink has at each status: what the command prints where the program is done, a beginning of it or nothing
-- where a write failed or memory ran out, and else what it had.
abbrev pub LeavesSink : List (List ℕ) → Seen → Status → Option (List ℕ) → Option (List ℕ) → Type 0
LeavesSink words told status.Done written written' = PrintsAll words told written written'
LeavesSink words told status.Usage written written' = Keeps written written'
LeavesSink words told (status.Script fault) written written' = Keeps written written'
LeavesSink words told status.Read written written' = Keeps written written'
LeavesSink words told status.Write written written' = PrintsPart words told written written'
LeavesSink words told status.Shelf written written' = Keeps written written'
LeavesSink words told status.NoMemory written written' =
    Keeps written written' ⊎ PrintsPart words told written written'
LeavesSink words told (status.Image refusal) written written' = Keeps written written'

-- The file that the command names wasn't there, it is the fresh image of the command's layout now, and no other file
-- changed.
abbrev pub SavesFresh : List (List ℕ) → Option FileMap → Option FileMap → Type 0
SavesFresh words files files' = (layout : Layout) × Formats words layout ×
    MakesFile files files' (file_of words) (bytes_of (fresh_words layout))

-- The file that the command names has what a run of the script leaves in it, and no other file changed.
abbrev pub SavesRun : List (List ℕ) → Seen → Type 0
SavesRun words told = RunsScript words × IsFileAfterRun told.left told.files told.files' (file_of words)

-- What a command leaves that was done or whose text could not be written whole: a new file, the file of its run, or
-- each file as it was.
abbrev pub LeavesFiles : List (List ℕ) → Seen → Type 0
LeavesFiles words told = SavesFresh words told.files told.files' ⊎ SavesRun words told ⊎
    ((¬ FormatsSome words) × (¬ RunsScript words) × KeepsFiles told.files told.files')

-- What one leaves that was ended on its way: each file as it was, or a new one or that of its run, whole.
abbrev pub LeavesOldOrNew : List (List ℕ) → Seen → Type 0
LeavesOldOrNew words told =
    KeepsFiles told.files told.files' ⊎ SavesFresh words told.files told.files' ⊎ SavesRun words told

-- What the shelf has at each status: the file that the command makes or changes where it is done or its text could not
-- be written; where the shelf failed or memory ran out, that or what it had; and else what it had.
abbrev pub LeavesShelf : List (List ℕ) → Seen → Status → Type 0
LeavesShelf words told status.Done = LeavesFiles words told
LeavesShelf words told status.Usage = KeepsFiles told.files told.files'
LeavesShelf words told (status.Script fault) = KeepsFiles told.files told.files'
LeavesShelf words told status.Read = KeepsFiles told.files told.files'
LeavesShelf words told status.Write = LeavesFiles words told
LeavesShelf words told status.Shelf = LeavesOldOrNew words told
LeavesShelf words told status.NoMemory = LeavesOldOrNew words told
LeavesShelf words told (status.Image refusal) = KeepsFiles told.files told.files'

-- The status is that of a run that wrote nothing.
abbrev pub WritesNothing : Status → Type 0
WritesNothing status.Done = ⊥
WritesNothing status.Usage = Unit {0}
WritesNothing (status.Script fault) = Unit {0}
WritesNothing status.Read = Unit {0}
WritesNothing status.Write = ⊥
WritesNothing status.Shelf = Unit {0}
WritesNothing status.NoMemory = ⊥
WritesNothing (status.Image refusal) = Unit {0}

-- The status is that of words alone: nothing is read for it.
abbrev pub IsOfWords : Status → Type 0
IsOfWords status.Done = ⊥
IsOfWords status.Usage = Unit {0}
IsOfWords (status.Script fault) = ⊥
IsOfWords status.Read = ⊥
IsOfWords status.Write = ⊥
IsOfWords status.Shelf = ⊥
IsOfWords status.NoMemory = ⊥
IsOfWords (status.Image refusal) = ⊥

-- The status comes only when the source was read to its end, where a script is read.
abbrev pub IsAfterReading : Status → Type 0
IsAfterReading status.Done = Unit {0}
IsAfterReading status.Usage = ⊥
IsAfterReading (status.Script fault) = fault ≡ Bytes → ⊥
IsAfterReading status.Read = ⊥
IsAfterReading status.Write = Unit {0}
IsAfterReading status.Shelf = Unit {0}
IsAfterReading status.NoMemory = ⊥
IsAfterReading (status.Image refusal) = Unit {0}

-- ---- causes

-- Some command that plays a script on an empty catalogue has these words,
abbrev pub PlaysScript : List (List ℕ) → Type 0
PlaysScript words = (layout : Layout) × ReadsScript words layout

-- or some command that reads a script.
abbrev pub ReadsSome : List (List ℕ) → Type 0
ReadsSome words = PlaysScript words ⊎ RunsScript words

-- Some command that plays a generated round has these words.
abbrev pub GeneratesSome : List (List ℕ) → Type 0
GeneratesSome words = (seed count callers : ℕ) × Generates words seed count callers

-- Some command that plays rounds in memory alone has these words.
abbrev pub PlaysSome : List (List ℕ) → Type 0
PlaysSome words = PlaysScript words ⊎ GeneratesSome words

-- Some command has these words.
abbrev pub NamesCommand : List (List ℕ) → Type 0
NamesCommand words = PlaysSome words ⊎ NamesFile words

-- The bytes that the source had left are refused so. Where they are too many for a script, that is all that is known of
-- those of a source that doesn't tell them.
abbrev pub IsRefusalOf : ℕ → Option (List ℕ) → Status → Type 0
IsRefusalOf callers left answer =
    ((answer ≡ status.Script Bytes) × IfSome left (λ bytes. MOST_BYTES < length bytes)) ⊎
    ((bytes : List ℕ) × AreBytesLeft left bytes × IsRefusedBy callers bytes answer)

-- A command that reads a script has these words, and the bytes that the source had left are refused so.
abbrev pub IsScriptCause : List (List ℕ) → Seen → Status → Type 0
IsScriptCause words told answer =
    ((layout : Layout) × ReadsScript words layout × IsRefusalOf layout.callers told.left answer) ⊎
    (RunsScript words × IsRunRefusal told.left told.files (file_of words) answer)

-- The words are those of a command that reads a file; of a run, the source had left a script.
abbrev pub ReadsFile : List (List ℕ) → Option (List ℕ) → Type 0
ReadsFile words left = ListsSome words ⊎ (RunsScript words × HasScript left)

-- The words are those of a command on a file; a run comes to its file only with a script.
abbrev pub ReachesFile : List (List ℕ) → Option (List ℕ) → Type 0
ReachesFile words left = FormatsSome words ⊎ ReadsFile words left

-- Why a file is refused: one to be made is there, one to be read isn't, its bytes are no image, with this fault, or one
-- on which a script is to be run has a rule broken, this one first, or is too late for it.
abbrev pub IsFileCause : List (List ℕ) → Option (List ℕ) → Option FileMap → ImageRefusal → Type 0
IsFileCause words left files image.Missing = ReadsFile words left × HasNoFile files (file_of words)
IsFileCause words left files image.Exists = FormatsSome words × HasFile files (file_of words)
IsFileCause words left files (image.Bytes fault) =
    ReadsFile words left × ((bytes : List ℕ) × HasBytes files (file_of words) bytes × IsFault bytes fault)
IsFileCause words left files (image.Damaged rule word) = (RunsScript words × HasScript left) ×
    IsRunFileCause left files (file_of words) (image.Damaged rule word)
IsFileCause words left files image.Generations = (RunsScript words × HasScript left) ×
    IsRunFileCause left files (file_of words) image.Generations

-- A run can be done on the file of this name with what the source had left: there is an image, and a script that fits
-- its layout and has rounds that can be played on it.
pub record CanBeRun (left : Option (List ℕ)) (files : Option FileMap) (name : List ℕ) : Type 0 where
  pub bytes : List ℕ
  pub source : AreBytesLeft left bytes
  pub old : Row
  pub had : HasImage files name old
  pub script : Script
  pub openable : IsOpenable old script.rounds
  pub accepted : IsAccepted old.layout.callers bytes script

-- The file is one that the command can be done on: there is none yet, or it has the bytes of an image, or a run can be
-- done on it.
abbrev pub CanBeDone : List (List ℕ) → Option (List ℕ) → Option FileMap → Type 0
CanBeDone words left files = (FormatsSome words × HasNoFile files (file_of words)) ⊎
    (ListsSome words × ((bytes : List ℕ) × HasBytes files (file_of words) bytes × HasNoFault bytes)) ⊎
    (RunsScript words × CanBeRun left files (file_of words))

-- Why a run ended so. Of the sink it is told how many of its calls failed before it and after it.
abbrev pub IsCauseOf : List (List ℕ) → Seen → (writes writes' : ℕ) → Status → Type 0
IsCauseOf words told writes writes' status.Done = NamesCommand words
IsCauseOf words told writes writes' status.Usage = (command : Command) → ¬ IsCommand words command
IsCauseOf words told writes writes' (status.Script fault) = IsScriptCause words told (status.Script fault)
IsCauseOf words told writes writes' status.Read = ReadsSome words × (told.reads < told.reads')
IsCauseOf words told writes writes' status.Write = NamesCommand words × (writes < writes')
IsCauseOf words told writes writes' status.Shelf =
    ReachesFile words told.left × (told.shelves < told.shelves')
IsCauseOf words told writes writes' status.NoMemory = NamesCommand words
IsCauseOf words told writes writes' (status.Image refusal) = IsFileCause words told.left told.files refusal

-- The status blames no source, sink or shelf of which this holds.
abbrev pub BlamesNoSteady : (source sink shelf : Type 0) → Status → Type 0
BlamesNoSteady source sink shelf status.Read = ¬ source
BlamesNoSteady source sink shelf status.Write = ¬ sink
BlamesNoSteady source sink shelf status.Shelf = ¬ shelf
BlamesNoSteady source sink shelf other = Unit {0}

-- Why a command has nothing to print.
abbrev pub HasNoText : List (List ℕ) → Seen → Status → Type 0
HasNoText words told status.Done = ⊥
HasNoText words told status.Usage = (command : Command) → ¬ IsCommand words command
HasNoText words told (status.Script fault) = IsScriptCause words told (status.Script fault)
HasNoText words told status.Read = ReadsSome words × (told.reads < told.reads')
HasNoText words told status.Write = ⊥
HasNoText words told status.Shelf =
    ReachesFile words told.left × (told.shelves < told.shelves')
HasNoText words told status.NoMemory = NamesCommand words
HasNoText words told (status.Image refusal) = IsFileCause words told.left told.files refusal

-- Why no report was made of what a source had left, on a layout of so many callers.
abbrev pub HasNoReport : ℕ → Option (List ℕ) → (reads reads' : ℕ) → Status → Type 0
HasNoReport callers left reads reads' status.Done = ⊥
HasNoReport callers left reads reads' status.Usage = ⊥
HasNoReport callers left reads reads' (status.Script fault) = IsRefusalOf callers left (status.Script fault)
HasNoReport callers left reads reads' status.Read = reads < reads'
HasNoReport callers left reads reads' status.Write = ⊥
HasNoReport callers left reads reads' status.Shelf = ⊥
HasNoReport callers left reads reads' status.NoMemory = Unit {0}
HasNoReport callers left reads reads' (status.Image refusal) = ⊥

-- ---- exactly

-- This comes, unless memory runs out.
abbrev pub Comes : Status → Status → Type 0
Comes answer wanted = (answer ≡ wanted) ⊎ (answer ≡ status.NoMemory)

-- Where the source tells its bytes and no read of it fails, a command that reads a script answers as they are refused.
abbrev pub TellsRefusal : List (List ℕ) → Seen → Status → Type 0
TellsRefusal words told answer = (layout : Layout) (bytes : List ℕ) (wanted : Status) →
    ReadsScript words layout → told.left ≡ Some bytes → told.reads' ≡ told.reads →
    IsRefusedBy layout.callers bytes wanted → Comes answer wanted

-- Where besides no write fails, it is done with a script that is accepted.
abbrev pub FinishesAccepted : List (List ℕ) → Seen → (writes writes' : ℕ) → Status → Type 0
FinishesAccepted words told writes writes' answer = (layout : Layout) (bytes : List ℕ) (script : Script) →
    ReadsScript words layout → told.left ≡ Some bytes → told.reads' ≡ told.reads → writes' ≡ writes →
    IsAccepted layout.callers bytes script → Comes answer status.Done

-- Where no write fails, a command that plays a generated round is done.
abbrev pub FinishesGenerated : List (List ℕ) → (writes writes' : ℕ) → Status → Type 0
FinishesGenerated words writes writes' answer =
    GeneratesSome words → writes' ≡ writes → Comes answer status.Done

-- Where the source tells its bytes and no read of it fails, a run on a file answers as they are refused; and where they
-- are refused for the file's layout, that is where the shelf tells its files and no call of it fails.
pub record TellsRunRefusal (words : List (List ℕ)) (told : Seen) (answer : Status) : Type 0 where
  pub no_script : (bytes : List ℕ) (fault : ScriptFault) → RunsScript words → told.left ≡ Some bytes →
      told.reads' ≡ told.reads → IsNoScript (Some bytes) fault → Comes answer (status.Script fault)
  pub on_file : (bytes : List ℕ) (files : FileMap) (wanted : Status) → RunsScript words → told.left ≡ Some bytes →
      told.reads' ≡ told.reads → told.files ≡ Some files → told.shelves' ≡ told.shelves →
      IsRefusedOnFile (Some bytes) (Some files) (file_of words) wanted → Comes answer wanted

-- The source tells its bytes, and no read of it fails.
pub record TellsSource (told : Seen) : Type 0 where
  pub bytes : List ℕ
  pub left : told.left ≡ Some bytes
  pub reads : told.reads' ≡ told.reads

-- Where the shelf tells its files and no call of it fails, and for a run so does the source, a file that is refused is
-- told so.
abbrev pub TellsFile : List (List ℕ) → Seen → Status → Type 0
TellsFile words told answer = (files : FileMap) (refusal : ImageRefusal) → told.files ≡ Some files →
    told.shelves' ≡ told.shelves → (RunsScript words → TellsSource told) →
    IsFileCause words told.left (Some files) refusal → Comes answer (status.Image refusal)

-- Where besides no write fails, a command on a file on which it can be done is done.
abbrev pub FinishesOnFile : List (List ℕ) → Seen → (writes writes' : ℕ) → Status → Type 0
FinishesOnFile words told writes writes' answer = (files : FileMap) → told.files ≡ Some files →
    told.shelves' ≡ told.shelves → (RunsScript words → TellsSource told) → writes' ≡ writes →
    CanBeDone words told.left (Some files) → Comes answer status.Done

-- ---- all of it

-- What a run of a command comes to that ended with this answer: what it leaves of the sink and of the shelf, and why it
-- ended so; and which answer comes where nothing fails: a script that is refused is told so, one that is accepted is
-- played, and so is a generated round, and a command on a file is done where that can be, and else says why not.
pub record IsRunOf (words : List (List ℕ)) (told : Seen) (written written' : Option (List ℕ)) (writes writes' : ℕ)
    (answer : Status) : Type 0 where
  pub sink : LeavesSink words told answer written written'
  pub files : LeavesShelf words told answer
  pub cause : IsCauseOf words told writes writes' answer
  pub usage : (answer ≡ status.Usage) ↔ ((command : Command) → ¬ IsCommand words command)
  pub refused : TellsRefusal words told answer
  pub accepted : FinishesAccepted words told writes writes' answer
  pub run_refused : TellsRunRefusal words told answer
  pub generated : FinishesGenerated words writes writes' answer
  pub file_refused : TellsFile words told answer
  pub file_done : FinishesOnFile words told writes writes' answer
