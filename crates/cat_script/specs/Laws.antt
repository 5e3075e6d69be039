-- Laws of the grammar of scripts.
use Rattle.std.specs.Prelude.{◌≡◌, ℕ, ◌≤◌, ◌⊎◌, List, length, All}
use Rattle.cat_script.specs.Fits.{FitsCallers, IsFirstUnfit}
use Rattle.cat_script.specs.Scripts.{IsScript, IsFirstFault}
use Rattle.cat_script.specs.declared.fault.ScriptFault.{ScriptFault}
use Rattle.cat_script.specs.declared.fault.TheConstants.{MOST_BYTES}
use Rattle.cat_script.specs.declared.line.Reason.{Reason}
use Rattle.cat_script.specs.declared.script.Script.{Script}
use Rattle.cat_script.specs.declared.script.ScriptLine.{ScriptLine}

-- A text is one script at most.
abbrev pub IsOneScriptAtMost : Type 0
IsOneScriptAtMost = (bytes : List ℕ) (a b : Script) → IsScript bytes a → IsScript bytes b → a ≡ b

-- A text with a first fault is no script.
abbrev pub FaultIsNoScript : Type 0
FaultIsNoScript = (bytes : List ℕ) (what : ScriptFault) (script : Script) → IsFirstFault bytes what →
    ¬ IsScript bytes script

-- A text has one first fault at most.
abbrev pub IsOneFaultAtMost : Type 0
IsOneFaultAtMost = (bytes : List ℕ) (a b : ScriptFault) → IsFirstFault bytes a → IsFirstFault bytes b → a ≡ b

-- A text that isn't too long is a script, or has a first fault.
abbrev pub IsScriptOrHasFault : Type 0
IsScriptOrHasFault = (bytes : List ℕ) → length bytes ≤ MOST_BYTES →
    ((script : Script) × IsScript bytes script) ⊎ ((what : ScriptFault) × IsFirstFault bytes what)

-- Lines fit so many callers, or one of them is the first that doesn't.
abbrev pub FitsOrIsUnfit : Type 0
FitsOrIsUnfit = (callers : ℕ) (lines : List ScriptLine) →
    All (FitsCallers callers) lines ⊎ ((number : ℕ) × (why : Reason) × IsFirstUnfit callers lines number why)

-- Lines with a first that doesn't fit don't all fit.
abbrev pub UnfitFitsNot : Type 0
UnfitFitsNot = (callers : ℕ) (lines : List ScriptLine) (number : ℕ) (why : Reason) →
    IsFirstUnfit callers lines number why → ¬ All (FitsCallers callers) lines

-- One line at most is the first that doesn't fit, for one reason.
abbrev pub IsOneUnfitAtMost : Type 0
IsOneUnfitAtMost = (callers : ℕ) (lines : List ScriptLine) (m n : ℕ) (why other : Reason) →
    IsFirstUnfit callers lines m why → IsFirstUnfit callers lines n other → (m ≡ n) × (why ≡ other)
