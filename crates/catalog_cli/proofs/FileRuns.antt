-- A run on a file, from what it read, what it played, and what it saved.
use Rattle.std.proofs.Common.{ℕ, ◌≤◌, List, subst, refl, arith, inl, inr}
use Rattle.std.specs.Prelude.{Option, Some, None}
use Rattle.cat_script.specs.Scripts.{IsScript}
use Rattle.cat_script.specs.declared.script.Script.{Script}
use Rattle.cat_text.specs.Shelves.{FileMap, KeepsFiles, SavesFile}
use Rattle.pm_words.specs.Images.{Row}
use Rattle.catalog_cli.specs.Files.{HasImage, IsLoadRefused, IsSaveRefused, SavesImage}
use Rattle.catalog_cli.specs.Refused.{IsUnread}
use Rattle.catalog_cli.specs.Runs.{AreBytesLeft, HasScript, IsPlayRefused, IsRunLeft, IsRunOn, IsRunOnFile, IsRunRefused}
use Rattle.catalog_cli.specs.declared.status.ImageRefusal.TheVariants as image
use Rattle.catalog_cli.specs.declared.status.Status.{Status}
use Rattle.catalog_cli.specs.declared.status.Status.TheVariants as status

-- a load leaves the files for the save
keeps-after : (files between files' : Option FileMap) → KeepsFiles files between → KeepsFiles between files' → KeepsFiles files files'
keeps-after None between files' kept then = tt
keeps-after (Some told) between files' kept then = subst (λ (fs : Option FileMap). KeepsFiles fs files') kept then

saves-after : (files between files' : Option FileMap) (name bytes : List ℕ) → KeepsFiles files between → SavesFile between files' name bytes → SavesFile files files' name bytes
saves-after None between files' name bytes kept saves = tt
saves-after (Some told) between files' name bytes kept saves = subst (λ (fs : Option FileMap). SavesFile fs files' name bytes) kept saves

image-after : (files between files' : Option FileMap) (name : List ℕ) (new : Row) → KeepsFiles files between → SavesImage between files' name new → SavesImage files files' name new
image-after files between files' name new kept saves = record { bytes = saves.bytes; saves = saves-after files between files' name saves.bytes kept saves.saves; sound = saves.sound; is = saves.is }

-- a script that isn't played to its end on the image of a file
pub not-played-on : (left : Option (List ℕ)) (files : Option FileMap) (name bytes : List ℕ) (script : Script) (old : Row) (reads reads' shelves shelves' : ℕ) (answer : Status) → AreBytesLeft left bytes → IsScript bytes script →
    HasImage files name old → IsPlayRefused old bytes script.rounds answer → IsRunRefused left files name reads reads' shelves shelves' answer
not-played-on left files name bytes script old reads reads' shelves shelves' status.Done source is had refused = absurd refused
not-played-on left files name bytes script old reads reads' shelves shelves' status.Usage source is had refused = absurd refused
not-played-on left files name bytes script old reads reads' shelves shelves' (status.Script what) source is had refused =
    inr (record { bytes = bytes; source = source; script = script; is_script = is; old = old; had = had; stops = refused })
not-played-on left files name bytes script old reads reads' shelves shelves' status.Read source is had refused = absurd refused
not-played-on left files name bytes script old reads reads' shelves shelves' status.Write source is had refused = absurd refused
not-played-on left files name bytes script old reads reads' shelves shelves' status.Shelf source is had refused = absurd refused
not-played-on left files name bytes script old reads reads' shelves shelves' status.NoMemory source is had refused = tt
not-played-on left files name bytes script old reads reads' shelves shelves' (status.Image image.Missing) source is had refused = absurd refused
not-played-on left files name bytes script old reads reads' shelves shelves' (status.Image image.Exists) source is had refused = absurd refused
not-played-on left files name bytes script old reads reads' shelves shelves' (status.Image (image.Bytes fault)) source is had refused = absurd refused
not-played-on left files name bytes script old reads reads' shelves shelves' (status.Image (image.Damaged rule word)) source is had refused = ((bytes, script, source, is), (old, had, refused))
not-played-on left files name bytes script old reads reads' shelves shelves' (status.Image image.Generations) source is had refused =
    ((bytes, script, source, is), record { bytes = bytes; source = source; script = script; is_script = is; old = old; had = had; stops = refused })

-- one that is, and whose image is saved
pub ran-on-file : (left : Option (List ℕ)) (files between files' : Option FileMap) (name bytes text : List ℕ) (old new : Row) → AreBytesLeft left bytes → HasImage files name old → IsRunOn old bytes text new →
    KeepsFiles files between → SavesImage between files' name new → IsRunOnFile left files files' name text
ran-on-file left files between files' name bytes text old new source had run kept saves =
    record { bytes = bytes; source = source; old = old; had = had; new = new; run = run; saves = image-after files between files' name new kept saves }

-- or isn't
pub not-saved : (left : Option (List ℕ)) (files between files' : Option FileMap) (name bytes text : List ℕ) (old new : Row) (shelves shelves' : ℕ) (answer : Status) → AreBytesLeft left bytes → HasImage files name old →
    IsRunOn old bytes text new → KeepsFiles files between → IsSaveRefused between files' shelves shelves' name new answer → IsRunLeft left files files' name answer
not-saved left files between files' name bytes text old new shelves shelves' status.Done source had run kept refused = absurd refused
not-saved left files between files' name bytes text old new shelves shelves' status.Usage source had run kept refused = absurd refused
not-saved left files between files' name bytes text old new shelves shelves' (status.Script what) source had run kept refused = absurd refused
not-saved left files between files' name bytes text old new shelves shelves' status.Read source had run kept refused = absurd refused
not-saved left files between files' name bytes text old new shelves shelves' status.Write source had run kept refused = absurd refused
not-saved left files between files' name bytes text old new shelves shelves' status.Shelf source had run kept (rose, inl same) = inl (keeps-after files between files' kept same)
not-saved left files between files' name bytes text old new shelves shelves' status.Shelf source had run kept (rose, inr saves) =
    inr (text, ran-on-file left files between files' name bytes text old new source had run kept saves)
not-saved left files between files' name bytes text old new shelves shelves' status.NoMemory source had run kept refused = keeps-after files between files' kept refused
not-saved left files between files' name bytes text old new shelves shelves' (status.Image refusal) source had run kept refused = absurd refused

-- what leaves the files as they were, whatever it is answered
pub left-so : (left : Option (List ℕ)) (files files' : Option FileMap) (name : List ℕ) (answer : Status) → KeepsFiles files files' → IsRunLeft left files files' name answer
left-so left files files' name status.Done kept = kept
left-so left files files' name status.Usage kept = kept
left-so left files files' name (status.Script what) kept = kept
left-so left files files' name status.Read kept = kept
left-so left files files' name status.Write kept = kept
left-so left files files' name status.Shelf kept = inl kept
left-so left files files' name status.NoMemory kept = kept
left-so left files files' name (status.Image refusal) kept = kept

-- a script that wasn't read
pub not-read-on : (left : Option (List ℕ)) (files : Option FileMap) (name : List ℕ) (reads reads' shelves shelves' : ℕ) (answer : Status) →
    IsUnread left reads reads' answer → IsRunRefused left files name reads reads' shelves shelves' answer
not-read-on left files name reads reads' shelves shelves' status.Done refused = absurd refused
not-read-on left files name reads reads' shelves shelves' status.Usage refused = absurd refused
not-read-on left files name reads reads' shelves shelves' (status.Script what) refused = inl (what, refused, refl)
not-read-on left files name reads reads' shelves shelves' status.Read refused = refused
not-read-on left files name reads reads' shelves shelves' status.Write refused = absurd refused
not-read-on left files name reads reads' shelves shelves' status.Shelf refused = absurd refused
not-read-on left files name reads reads' shelves shelves' status.NoMemory refused = tt
not-read-on left files name reads reads' shelves shelves' (status.Image refusal) refused = absurd refused

-- a file that wasn't loaded
pub not-loaded : (left : Option (List ℕ)) (files : Option FileMap) (name : List ℕ) (reads reads' shelves shelves' : ℕ) (answer : Status) → HasScript left →
    IsLoadRefused files shelves shelves' name answer → IsRunRefused left files name reads reads' shelves shelves' answer
not-loaded left files name reads reads' shelves shelves' status.Done script refused = absurd refused
not-loaded left files name reads reads' shelves shelves' status.Usage script refused = absurd refused
not-loaded left files name reads reads' shelves shelves' (status.Script what) script refused = absurd refused
not-loaded left files name reads reads' shelves shelves' status.Read script refused = absurd refused
not-loaded left files name reads reads' shelves shelves' status.Write script refused = absurd refused
not-loaded left files name reads reads' shelves shelves' status.Shelf script refused = (script, refused)
not-loaded left files name reads reads' shelves shelves' status.NoMemory script refused = tt
not-loaded left files name reads reads' shelves shelves' (status.Image image.Missing) script refused = (script, refused)
not-loaded left files name reads reads' shelves shelves' (status.Image image.Exists) script refused = absurd refused
not-loaded left files name reads reads' shelves shelves' (status.Image (image.Bytes fault)) script refused = (script, refused)
not-loaded left files name reads reads' shelves shelves' (status.Image (image.Damaged rule word)) script refused = absurd refused
not-loaded left files name reads reads' shelves shelves' (status.Image image.Generations) script refused = absurd refused

-- or not saved
pub not-saved-on : (left : Option (List ℕ)) (files between files' : Option FileMap) (name : List ℕ) (new : Row) (reads reads' before shelves shelves' : ℕ) (answer : Status) → HasScript left → before ≤ shelves →
    IsSaveRefused between files' shelves shelves' name new answer → IsRunRefused left files name reads reads' before shelves' answer
not-saved-on left files between files' name new reads reads' before shelves shelves' status.Done script rises refused = absurd refused
not-saved-on left files between files' name new reads reads' before shelves shelves' status.Usage script rises refused = absurd refused
not-saved-on left files between files' name new reads reads' before shelves shelves' (status.Script what) script rises refused = absurd refused
not-saved-on left files between files' name new reads reads' before shelves shelves' status.Read script rises refused = absurd refused
not-saved-on left files between files' name new reads reads' before shelves shelves' status.Write script rises refused = absurd refused
not-saved-on left files between files' name new reads reads' before shelves shelves' status.Shelf script rises refused = (script, (let rose = refused.0 in omega (arith, rose, rises)))
not-saved-on left files between files' name new reads reads' before shelves shelves' status.NoMemory script rises refused = tt
not-saved-on left files between files' name new reads reads' before shelves shelves' (status.Image refusal) script rises refused = absurd refused

-- what wasn't touched
pub kept-first : (files : Option FileMap) → KeepsFiles files files
kept-first None = tt
kept-first (Some told) = refl
