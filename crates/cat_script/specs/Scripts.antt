-- The grammar of scripts: which bytes are a script, of which rounds, and what is wrong with those that are none.
use Rattle.std.specs.Prelude.{◌≡◌, ℕ, ◌+◌, ◌≤◌, List, [], ◌∷◌, ◌++◌, length}
use Rattle.std.specs.List.{AllZip}
use Rattle.cat_history.specs.declared.op.Op.{Op}
use Rattle.cat_history.specs.declared.op.Op.TheVariants.{Put, Get, Del, Scan}
use Rattle.cat_script.specs.Asks.{IsLine}
use Rattle.cat_script.specs.Limits.{KeepLimits, PassLimit}
use Rattle.cat_script.specs.Lines.{lines_of}
use Rattle.cat_script.specs.Reasons.{IsFirstReason}
use Rattle.cat_script.specs.Rounds.{AreRounds}
use Rattle.cat_script.specs.declared.fault.ScriptFault.{ScriptFault}
use Rattle.cat_script.specs.declared.fault.ScriptFault.TheVariants as fault
use Rattle.cat_script.specs.declared.fault.TheConstants.{MOST_BYTES}
use Rattle.cat_script.specs.declared.line.Line.{Line}
use Rattle.cat_script.specs.declared.line.Line.TheVariants.{Blank, Call, Join, Crash, Updater, Limit}
use Rattle.cat_script.specs.declared.script.Need.TheVariants.{Caller, Budgets, Nothing}
use Rattle.cat_script.specs.declared.script.Script.{Script}
use Rattle.cat_script.specs.declared.script.ScriptLine.{ScriptLine}

-- The lines that are not blank, each with its number, where the first of all has this number, and with what it asks of
-- a layout: a call its caller, and a crash one caller for each budget.
abbrev pub numbered : ℕ → List Line → List ScriptLine
numbered number [] = []
numbered number (Blank ∷ lines) = numbered (number + 1) lines
numbered number (Call caller op ∷ lines) = record { number = number; need = Caller caller } ∷
    numbered (number + 1) lines
numbered number (Join ∷ lines) = record { number = number; need = Nothing } ∷ numbered (number + 1) lines
numbered number (Crash plan ∷ lines) =
    record { number = number; need = Budgets (length plan.budgets) } ∷ numbered (number + 1) lines
numbered number (Updater turns ∷ lines) = record { number = number; need = Nothing } ∷ numbered (number + 1) lines
numbered number (Limit limit ∷ lines) = record { number = number; need = Nothing } ∷ numbered (number + 1) lines

-- The bytes are this script.
pub record IsScript (bytes : List ℕ) (script : Script) : Type 0 where
  pub short : length bytes ≤ MOST_BYTES
  pub said : List Line
  pub lines : AllZip IsLine (lines_of bytes) said
  pub limits : KeepLimits said
  pub rounds : AreRounds said script.rounds
  pub told : script.lines ≡ numbered 1 said

-- What is wrong with a line behind lines that ask this: it is none of a script, for its first reason, or it passes a
-- limit.
abbrev pub IsLineFault : List Line → List ℕ → ScriptFault → Type 0
IsLineFault said line fault.Bytes = ⊥
IsLineFault said line (fault.Rounds number) =
    (asked : Line) × IsLine line asked × PassLimit (said ++ asked ∷ []) (fault.Rounds number)
IsLineFault said line (fault.Calls number) =
    (asked : Line) × IsLine line asked × PassLimit (said ++ asked ∷ []) (fault.Calls number)
IsLineFault said line (fault.Scans number) =
    (asked : Line) × IsLine line asked × PassLimit (said ++ asked ∷ []) (fault.Scans number)
IsLineFault said line (fault.Line number reason) = (number ≡ length said + 1) × IsFirstReason line reason
IsLineFault said line fault.NoMemory = ⊥

-- The first fault of bytes that are few enough: that of the first line that has one.
pub record IsFirstFault (bytes : List ℕ) (what : ScriptFault) : Type 0 where
  pub short : length bytes ≤ MOST_BYTES
  pub before : List (List ℕ)
  pub line : List ℕ
  pub after : List (List ℕ)
  pub cut : lines_of bytes ≡ before ++ line ∷ after
  pub said : List Line
  pub lines : AllZip IsLine before said
  pub limits : KeepLimits said
  pub fault : IsLineFault said line what
