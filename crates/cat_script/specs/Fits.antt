-- Which scripts fit a layout.
use Rattle.std.specs.Prelude.{◌≡◌, ◌≢◌, ℕ, ◌≤◌, List, ◌∷◌, ◌++◌, All}
use Rattle.cat_script.specs.declared.fault.ScriptFault.{ScriptFault}
use Rattle.cat_script.specs.declared.fault.ScriptFault.TheVariants as fault
use Rattle.cat_script.specs.declared.line.Reason.{Reason}
use Rattle.cat_script.specs.declared.line.Reason.TheVariants as reason
use Rattle.cat_script.specs.declared.script.Need.{Need}
use Rattle.cat_script.specs.declared.script.Need.TheVariants.{Caller, Budgets, Nothing}
use Rattle.cat_script.specs.declared.script.ScriptLine.{ScriptLine}

-- Why a line doesn't fit so many callers: it is a call of none of them, or it hasn't one budget for each.
abbrev pub IsUnfit : ℕ → Need → Reason → Type 0
IsUnfit callers (Caller number) why = (why ≡ reason.Caller) × (callers ≤ number)
IsUnfit callers (Budgets count) why = (why ≡ reason.Words) × (count ≢ callers)
IsUnfit callers Nothing why = ⊥

abbrev pub FitsCallers : ℕ → ScriptLine → Type 0
FitsCallers callers line = (why : Reason) → ¬ IsUnfit callers line.need why

-- The first of these lines that doesn't fit so many callers has this number, and this is why.
pub record IsFirstUnfit (callers : ℕ) (lines : List ScriptLine) (number : ℕ) (why : Reason) : Type 0 where
  pub before : List ScriptLine
  pub line : ScriptLine
  pub after : List ScriptLine
  pub cut : lines ≡ before ++ line ∷ after
  pub fitting : All (FitsCallers callers) before
  pub number_is : number ≡ line.number
  pub unfit : IsUnfit callers line.need why

-- The fault of a script that doesn't fit.
abbrev pub IsUnfitBy : ℕ → List ScriptLine → ScriptFault → Type 0
IsUnfitBy callers lines fault.Bytes = ⊥
IsUnfitBy callers lines (fault.Rounds line) = ⊥
IsUnfitBy callers lines (fault.Calls line) = ⊥
IsUnfitBy callers lines (fault.Scans line) = ⊥
IsUnfitBy callers lines (fault.Line line why) = IsFirstUnfit callers lines line why
IsUnfitBy callers lines fault.NoMemory = ⊥
