-- How many rounds, calls and names a script may ask for.
use Rattle.std.specs.Prelude.{◌≡◌, ℕ, ◌≤◌, List, length, sum_by}
use Rattle.cat_history.specs.declared.op.Op.{Op}
use Rattle.cat_history.specs.declared.op.Op.TheVariants.{Put, Get, Del, Scan}
use Rattle.cat_script.specs.declared.fault.ScriptFault.{ScriptFault}
use Rattle.cat_script.specs.declared.fault.ScriptFault.TheVariants as fault
use Rattle.cat_script.specs.declared.line.Line.{Line}
use Rattle.cat_script.specs.declared.line.Line.TheVariants.{Blank, Call, Join, Crash, Updater, Limit}

-- What a line counts for: the rounds that it ends, its calls, and the names that its scans ask for.
pub record LineCounts : Type 0 where
  pub ends : ℕ
  pub calls : ℕ
  pub scans : ℕ

-- The names that a call asks for, if it is a scan.
abbrev pub names_asked : Op → ℕ
names_asked (Put name value) = 0
names_asked (Get name) = 0
names_asked (Del name) = 0
names_asked (Scan from count) = count

abbrev pub counts_of : Line → LineCounts
counts_of Blank = record { ends = 0; calls = 0; scans = 0 }
counts_of (Call caller op) = record { ends = 0; calls = 1; scans = names_asked op }
counts_of Join = record { ends = 1; calls = 0; scans = 0 }
counts_of (Crash plan) = record { ends = 1; calls = 0; scans = 0 }
counts_of (Updater turns) = record { ends = 0; calls = 0; scans = 0 }
counts_of (Limit limit) = record { ends = 0; calls = 0; scans = 0 }

abbrev pub end_count : Line → ℕ
end_count line = (counts_of line).ends

abbrev pub call_count : Line → ℕ
call_count line = (counts_of line).calls

abbrev pub scan_count : Line → ℕ
scan_count line = (counts_of line).scans

abbrev pub HasFewEnds : List Line → Type 0
HasFewEnds lines = sum_by end_count lines ≤ 1000

abbrev pub HasFewCalls : List Line → Type 0
HasFewCalls lines = sum_by call_count lines ≤ 100000

abbrev pub HasFewScans : List Line → Type 0
HasFewScans lines = sum_by scan_count lines ≤ 1000000

-- Lines within all limits: those that end a round, calls, and the names that scans ask for.
pub record KeepLimits (lines : List Line) : Type 0 where
  pub ends : HasFewEnds lines
  pub calls : HasFewCalls lines
  pub scans : HasFewScans lines

-- Which limit the last of these lines passes, whose number it is: that of rounds, else that of calls, else of names.
abbrev pub PassLimit : List Line → ScriptFault → Type 0
PassLimit lines fault.Bytes = ⊥
PassLimit lines (fault.Rounds line) = (line ≡ length lines) × ¬ HasFewEnds lines
PassLimit lines (fault.Calls line) = (line ≡ length lines) × HasFewEnds lines × ¬ HasFewCalls lines
PassLimit lines (fault.Scans line) =
    (line ≡ length lines) × HasFewEnds lines × HasFewCalls lines × ¬ HasFewScans lines
PassLimit lines (fault.Line line reason) = ⊥
PassLimit lines fault.NoMemory = ⊥
