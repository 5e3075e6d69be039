-- A run on a file: what it reports, what it makes of the file, and why it is refused.
use Rattle.std.specs.Prelude.{◌≡◌, ℕ, suc, ◌+◌, ◌<◌, ◌≤◌, ◌⊎◌, List, Option, IfSome, length}
use Rattle.cat_script.specs.Scripts.{IsScript, IsFirstFault}
use Rattle.cat_script.specs.declared.fault.ScriptFault.{ScriptFault}
use Rattle.cat_script.specs.declared.fault.ScriptFault.TheVariants.{Bytes}
use Rattle.cat_script.specs.declared.fault.TheConstants.{MOST_BYTES}
use Rattle.cat_script.specs.declared.script.Script.{Script}
use Rattle.cat_text.specs.Shelves.{FileMap, KeepsFiles}
use Rattle.cat_text.specs.declared.report.RoundReport.{RoundReport}
use Rattle.index_law.specs.Anchors.{image_anchors}
use Rattle.pm_words.specs.Bytes.{IsFault}
use Rattle.pm_words.specs.Images.{Row}
use Rattle.image_rules.specs.Rules.{header_generation}
use Rattle.image_rules.specs.Sound.{IsMapOf, image_map}
use Rattle.image_layer_rules.specs.Sound.{IsFirstOfAll, IsSoundByAll}
use Rattle.version_lock.specs.Versions.{IsGeneration}
use Rattle.crowd_rounds.specs.core_rounds.specs.CoreMaps.{ImageHasNoLines, ImageWaits}
use Rattle.crowd_rounds.specs.core_rounds.specs.Waiting.{HaveNoTurns, changes_made, puts_asked, writes_asked}
use Rattle.cat_history.specs.declared.plan.RoundPlan.{RoundPlan}
use Rattle.catalog_cli.specs.Files.{HasBytes, HasImage, HasNoFile, SavesImage}
use Rattle.catalog_cli.specs.Reports.{IsRefusedBy, IsReportOf, image_opening}
use Rattle.crowd_rounds.specs.core_rounds.specs.LoneCalls.{AreJoined, AreLoneRounds, restarts}
use Rattle.crowd_rounds.specs.core_rounds.specs.Rounds.{RoundsEndWithTurn}
use Rattle.cat_history.specs.Maps.{Map}
use Rattle.shapes.specs.Anchors.{Anchors}
use Rattle.catalog_cli.specs.declared.status.ImageRefusal.{ImageRefusal}
use Rattle.catalog_cli.specs.declared.status.ImageRefusal.TheVariants as image
use Rattle.catalog_cli.specs.declared.status.Status.{Status}
use Rattle.catalog_cli.specs.declared.status.Status.TheVariants as status

-- These are the bytes that the source has left, where it tells them.
abbrev pub AreBytesLeft : Option (List ℕ) → List ℕ → Type 0
AreBytesLeft left bytes = IfSome left (λ told. told ≡ bytes)

-- ---- files

-- The generation in which these rounds leave an image: it is opened in its next one, and opened again, in one more,
-- behind each round that a crash ends, and behind each other one of several callers.
abbrev pub generation_after : Row → List RoundPlan → ℕ
generation_after image plans = suc (header_generation image.layout image.words + restarts plans)

-- These rounds can be played on this image: it is sound by all rules, keeps the map that its nodes have, and there are
-- generations enough.
pub record IsOpenable (image : Row) (plans : List RoundPlan) : Type 0 where
  pub sound : IsSoundByAll image.layout image.words
  pub keeps : IsMapOf image.layout image.words (image_map image.layout image.words)
  pub next : IsGeneration (generation_after image plans)

-- The new image is what these rounds leave that were played on the old one, to this map and this shape: it is of the
-- same layout, sound by all rules, and of the generation of the last opening; and it has that map in that shape.
pub record IsImageAfter (old : Row) (plans : List RoundPlan) (end : Map) (shape : Anchors) (new : Row) : Type 0 where
  pub layout : new.layout ≡ old.layout
  pub sound : IsSoundByAll new.layout new.words
  pub generation : header_generation new.layout new.words ≡ generation_after old plans
  pub keeps : IsMapOf new.layout new.words end
  pub anchors : image_anchors new.layout new.words ≡ shape

-- So many log lines of the new image wait as calls of these rounds split and merged members of the old one.
abbrev pub LinesWait : Row → List RoundReport → Row → Type 0
LinesWait old reports new = ImageWaits new
    (changes_made old.layout.slots (image_map old.layout old.words) (image_anchors old.layout old.words) reports)

-- Rounds of one caller each that no crash ends make no turn, of the updater or of their own: at most eight of their
-- calls are puts or deletes, as many as a caller has log lines, and their puts and the members of the image are fewer
-- than its nodes.
pub record NeedNoTurns (old : Row) (plans : List RoundPlan) : Type 0 where
  pub lone : AreLoneRounds plans
  pub joined : AreJoined plans
  pub none : HaveNoTurns plans
  pub lines : writes_asked plans ≤ 8
  pub nodes : length (image_anchors old.layout old.words) + puts_asked plans < old.layout.nodes

-- The bytes, read as a script, are played on the old image: the text is that of the report, and the new image is what
-- those very rounds leave. Where a turn of the updater is due behind the last call of the last round, no log line waits
-- there; and where the index is opened again behind no round and no turn is made, a line waits for each split and each
-- merge.
pub record IsRunOn (old : Row) (bytes text : List ℕ) (new : Row) : Type 0 where
  pub report : IsReportOf (image_opening old) bytes text
  pub openable : IsOpenable old report.script.rounds
  pub after : IsImageAfter old report.script.rounds report.end report.shape new
  pub turned : RoundsEndWithTurn report.script.rounds → ImageHasNoLines new
  pub waits : NeedNoTurns old report.script.rounds → LinesWait old report.reports new

-- The script that the source had left is played on the image that the file of this name had: the text is that of the
-- report, the file has now the image that those very rounds leave, and no other file changed.
pub record IsRunOnFile (left : Option (List ℕ)) (files files' : Option FileMap) (name text : List ℕ) : Type 0 where
  pub bytes : List ℕ
  pub source : AreBytesLeft left bytes
  pub old : Row
  pub had : HasImage files name old
  pub new : Row
  pub run : IsRunOn old bytes text new
  pub saves : SavesImage files files' name new

-- The files are as some such run leaves them.
abbrev pub IsFileAfterRun : Option (List ℕ) → Option FileMap → Option FileMap → List ℕ → Type 0
IsFileAfterRun left files files' name = (text : List ℕ) × IsRunOnFile left files files' name text

-- ---- refusals

-- The source had left a script.
abbrev pub HasScript : Option (List ℕ) → Type 0
HasScript left = (bytes : List ℕ) × (script : Script) × AreBytesLeft left bytes × IsScript bytes script

-- What the source had left is no script, whatever it is played on: it is too much, or has this first fault. Where it is
-- too much, that is all that is known of what a source had that doesn't tell it.
abbrev pub IsNoScript : Option (List ℕ) → ScriptFault → Type 0
IsNoScript left fault = ((fault ≡ Bytes) × IfSome left (λ bytes. MOST_BYTES < length bytes)) ⊎
    ((bytes : List ℕ) × AreBytesLeft left bytes × IsFirstFault bytes fault)

-- The script that the source had left is stopped so by the image that the file of this name has.
pub record IsStoppedOnFile (Stops : Row → List ℕ → List RoundPlan → Type 0) (left : Option (List ℕ))
    (files : Option FileMap) (name : List ℕ) : Type 0 where
  pub bytes : List ℕ
  pub source : AreBytesLeft left bytes
  pub script : Script
  pub is_script : IsScript bytes script
  pub old : Row
  pub had : HasImage files name old
  pub stops : Stops old bytes script.rounds

-- A script is refused so on a file: the file is one on which its rounds could be played, and the script doesn't fit its
-- layout.
abbrev pub IsRefusedOnFile : Option (List ℕ) → Option FileMap → List ℕ → Status → Type 0
IsRefusedOnFile left files name answer =
    IsStoppedOnFile (λ old bytes plans. IsOpenable old plans × IsRefusedBy old.layout.callers bytes answer)
    left files name

-- A run is refused so for what the source had left: that comes before all that concerns the file where it is no script,
-- and after that where it is one.
abbrev pub IsRunRefusal : Option (List ℕ) → Option FileMap → List ℕ → Status → Type 0
IsRunRefusal left files name answer =
    ((fault : ScriptFault) × IsNoScript left fault × (answer ≡ status.Script fault)) ⊎
    IsRefusedOnFile left files name answer

-- The image is sound, and there is no generation in which these rounds could leave it.
abbrev pub IsTooLate : Row → List RoundPlan → Type 0
IsTooLate image plans = IsSoundByAll image.layout image.words × ¬ IsGeneration (generation_after image plans)

-- The file of this name has an image that is so for the rounds of the script that the source had left.
abbrev pub IsTooLateOnFile : Option (List ℕ) → Option FileMap → List ℕ → Type 0
IsTooLateOnFile left files name = IsStoppedOnFile (λ old bytes plans. IsTooLate old plans) left files name

-- Why the script that the source had left can't be played on what the file of this name has: there is no such file, its
-- bytes are no image, with this first fault, or they are one that breaks this rule first, at this word, or is too late.
abbrev pub IsRunFileCause : Option (List ℕ) → Option FileMap → List ℕ → ImageRefusal → Type 0
IsRunFileCause left files name image.Missing = HasNoFile files name
IsRunFileCause left files name image.Exists = ⊥
IsRunFileCause left files name (image.Bytes fault) = (bytes : List ℕ) × HasBytes files name bytes × IsFault bytes fault
IsRunFileCause left files name (image.Damaged rule word) = (old : Row) × HasImage files name old ×
    IsFirstOfAll old.layout old.words (record { rule = rule; word = word })
IsRunFileCause left files name image.Generations = IsTooLateOnFile left files name

-- Why the bytes, which are a script of these rounds, aren't played on an image to their end, and their report made.
abbrev pub IsPlayRefused : Row → List ℕ → List RoundPlan → Status → Type 0
IsPlayRefused old bytes plans (status.Script fault) =
    IsOpenable old plans × IsRefusedBy old.layout.callers bytes (status.Script fault)
IsPlayRefused old bytes plans status.NoMemory = Unit {0}
IsPlayRefused old bytes plans (status.Image (image.Damaged rule word)) =
    IsFirstOfAll old.layout old.words (record { rule = rule; word = word })
IsPlayRefused old bytes plans (status.Image image.Generations) = IsTooLate old plans
IsPlayRefused old bytes plans other = ⊥

-- Why a run on a file came to no report. As many calls of the source and of the shelf had failed before as the first
-- number says, and now as the second.
abbrev pub IsRunRefused : Option (List ℕ) → Option FileMap → List ℕ → (reads reads' shelves shelves' : ℕ) → Status →
    Type 0
IsRunRefused left files name reads reads' shelves shelves' (status.Script fault) =
    IsRunRefusal left files name (status.Script fault)
IsRunRefused left files name reads reads' shelves shelves' status.Read = reads < reads'
IsRunRefused left files name reads reads' shelves shelves' status.Shelf = HasScript left × (shelves < shelves')
IsRunRefused left files name reads reads' shelves shelves' status.NoMemory = Unit {0}
IsRunRefused left files name reads reads' shelves shelves' (status.Image refusal) =
    HasScript left × IsRunFileCause left files name refusal
IsRunRefused left files name reads reads' shelves shelves' other = ⊥

-- What it leaves of the files then: each as it was, or, where the shelf failed, as a run leaves them.
abbrev pub IsRunLeft : Option (List ℕ) → Option FileMap → Option FileMap → List ℕ → Status → Type 0
IsRunLeft left files files' name status.Shelf = KeepsFiles files files' ⊎ IsFileAfterRun left files files' name
IsRunLeft left files files' name other = KeepsFiles files files'
