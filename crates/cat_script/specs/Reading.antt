-- What was read of a script so far.
use Rattle.std.specs.Prelude.{◌≡◌, ℕ, ◌<◌, ◌⊎◌, List, length, Result, Err}
use Rattle.std.specs.List.{AllZip}
use Rattle.cat_script.specs.Asks.{IsLine}
use Rattle.cat_script.specs.Counts.{AreCounts}
use Rattle.cat_script.specs.Grouping.{IsGrouping}
use Rattle.cat_script.specs.Limits.{KeepLimits}
use Rattle.cat_script.specs.Reasons.{IsFirstReason}
use Rattle.cat_script.specs.Scripts.{IsLineFault, IsFirstFault, numbered}
use Rattle.cat_script.specs.declared.fault.ScriptFault.{ScriptFault}
use Rattle.cat_script.specs.declared.fault.ScriptFault.TheVariants as fault
use Rattle.cat_script.specs.declared.fault.TheConstants.{MOST_BYTES}
use Rattle.cat_script.specs.declared.line.Line.{Line}
use Rattle.cat_script.specs.declared.read.Reading.{Reading}
use Rattle.cat_script.specs.declared.script.Script.{Script}

-- These lines were read.
pub record IsReading (before : List (List ℕ)) (reading : Reading) : Type 0 where
  pub said : List Line
  pub lines : AllZip IsLine before said
  pub counts : AreCounts said reading.counts
  pub rounds : IsGrouping said reading.rounds
  pub told : reading.lines.items ≡ numbered 1 said

-- What is wrong with a line of this number alone, unless memory ran out.
abbrev pub IsReasonAt : List ℕ → ℕ → ScriptFault → Type 0
IsReasonAt line number fault.Bytes = ⊥
IsReasonAt line number (fault.Rounds at) = ⊥
IsReasonAt line number (fault.Calls at) = ⊥
IsReasonAt line number (fault.Scans at) = ⊥
IsReasonAt line number (fault.Line at reason) = (at ≡ number) × IsFirstReason line reason
IsReasonAt line number fault.NoMemory = Unit {0}

-- What is wrong with a line behind those, where nothing is wrong with those.
abbrev pub IsWrongBehind : List (List ℕ) → List ℕ → ScriptFault → Type 0
IsWrongBehind before line what =
    (said : List Line) × AllZip IsLine before said × KeepLimits said × IsLineFault said line what

-- The same, unless memory ran out.
abbrev pub IsRefusedBehind : List (List ℕ) → List ℕ → ScriptFault → Type 0
IsRefusedBehind before line what = (what ≡ fault.NoMemory) ⊎ IsWrongBehind before line what

-- Why bytes are refused: they are too many, or they have this first fault, unless memory ran out.
abbrev pub IsRefusal : List ℕ → ScriptFault → Type 0
IsRefusal bytes what = (what ≡ fault.NoMemory) ⊎ ((what ≡ fault.Bytes) × (MOST_BYTES < length bytes)) ⊎
    IsFirstFault bytes what

-- This is answered, unless memory ran out.
abbrev pub IsAnswer : Result Script ScriptFault → Result Script ScriptFault → Type 0
IsAnswer result answer = (result ≡ answer) ⊎ (result ≡ Err fault.NoMemory)
