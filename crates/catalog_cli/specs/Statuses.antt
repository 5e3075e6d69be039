-- Statuses: their exit codes, what is told of them, and which of them the faults below come to.
use Rattle.std.specs.Prelude.{ℕ, List, ◌++◌, codes, decimal}
use Rattle.cat_script.specs.Faults.{script_fault_text}
use Rattle.cat_script.specs.declared.fault.ScriptFault.{ScriptFault}
use Rattle.cat_script.specs.declared.fault.ScriptFault.TheVariants as script
use Rattle.cat_text.specs.declared.outside.source.ReadFault.{ReadFault}
use Rattle.cat_text.specs.declared.outside.source.ReadFault.TheVariants as read
use Rattle.cat_text.specs.declared.outside.fault.OutsideFault.{OutsideFault}
use Rattle.cat_text.specs.declared.outside.fault.OutsideFault.TheVariants as outside
use Rattle.pm_words.specs.declared.bytes.ImageFault.{ImageFault}
use Rattle.pm_words.specs.declared.bytes.ImageFault.TheVariants as fault
use Rattle.pm_words.specs.declared.layout.Field.TheVariants as field
use Rattle.crowd_rounds.specs.image_recovery.specs.declared.recovering.OpenFault.{OpenFault}
use Rattle.crowd_rounds.specs.image_recovery.specs.declared.recovering.OpenFault.TheVariants as opening
use Rattle.catalog_cli.specs.declared.status.ImageRefusal.{ImageRefusal}
use Rattle.catalog_cli.specs.declared.status.ImageRefusal.TheVariants as image
use Rattle.catalog_cli.specs.declared.status.Status.{Status}
use Rattle.catalog_cli.specs.declared.status.Status.TheVariants.{Done, Usage, Script, Read, Write, Shelf, NoMemory}
use Rattle.catalog_cli.specs.declared.status.Status.TheVariants.{Image}

-- The exit code of a status.
abbrev pub code_of : Status → ℕ
code_of Done = 0
code_of Usage = 2
code_of (Script fault) = 3
code_of Read = 4
code_of Write = 5
code_of Shelf = 6
code_of NoMemory = 7
code_of (Image refusal) = 8

-- The forms of the command line.
abbrev pub usage_text : List ℕ
usage_text = codes "usage: catalog format FILE NODES SLOTS CALLERS, run FILE, play NODES SLOTS CALLERS, " ++
    codes "gen SEED COUNT CALLERS, words FILE FROM COUNT"

-- What is told of bytes that are no image.
abbrev pub image_fault_text : ImageFault → List ℕ
image_fault_text (fault.Length found) = codes "length " ++ decimal found
image_fault_text fault.Magic = codes "magic"
image_fault_text (fault.Format found) = codes "format " ++ decimal found
image_fault_text (fault.Layout field.Nodes) = codes "nodes"
image_fault_text (fault.Layout field.Slots) = codes "slots"
image_fault_text (fault.Layout field.Callers) = codes "callers"
image_fault_text fault.NoMemory = codes "out of memory"

-- What is told of a file that is refused.
abbrev pub refusal_text : ImageRefusal → List ℕ
refusal_text image.Missing = codes "missing"
refusal_text image.Exists = codes "exists"
refusal_text (image.Bytes fault) = image_fault_text fault
refusal_text (image.Damaged rule word) = codes "rule " ++ decimal rule ++ codes " at word " ++ decimal word
refusal_text image.Generations = codes "generations"

-- What is told of a status.
abbrev pub status_text : Status → List ℕ
status_text Done = codes "done"
status_text Usage = usage_text
status_text (Script fault) = script_fault_text fault
status_text Read = codes "script: cannot read"
status_text Write = codes "report: cannot write"
status_text Shelf = codes "file: cannot load or save"
status_text NoMemory = codes "out of memory"
status_text (Image refusal) = codes "image: " ++ refusal_text refusal

-- What a source comes to that was not read whole.
abbrev pub status_of_read : ReadFault → Status
status_of_read read.Failed = Read
status_of_read read.TooLong = Script script.Bytes
status_of_read read.NoMemory = NoMemory

-- What a text comes to that is no script, or one that doesn't fit.
abbrev pub status_of_script : ScriptFault → Status
status_of_script script.Bytes = Script script.Bytes
status_of_script (script.Rounds line) = Script (script.Rounds line)
status_of_script (script.Calls line) = Script (script.Calls line)
status_of_script (script.Scans line) = Script (script.Scans line)
status_of_script (script.Line line reason) = Script (script.Line line reason)
status_of_script script.NoMemory = NoMemory

-- What a shelf comes to that gave no answer on a file, or didn't save it.
abbrev pub status_of_shelf : OutsideFault → Status
status_of_shelf outside.Failed = Shelf
status_of_shelf outside.NoMemory = NoMemory

-- What an image comes to that isn't opened.
abbrev pub status_of_open : OpenFault → Status
status_of_open (opening.Damaged rule word) = Image (image.Damaged rule word)
status_of_open opening.Generations = Image image.Generations
status_of_open opening.NoMemory = NoMemory

-- What bytes come to that are no image.
abbrev pub status_of_bytes : ImageFault → Status
status_of_bytes (fault.Length found) = Image (image.Bytes (fault.Length found))
status_of_bytes fault.Magic = Image (image.Bytes fault.Magic)
status_of_bytes (fault.Format found) = Image (image.Bytes (fault.Format found))
status_of_bytes (fault.Layout out) = Image (image.Bytes (fault.Layout out))
status_of_bytes fault.NoMemory = NoMemory
