-- Laws on first lines outside the grammar of reports.
use Rattle.std.specs.Prelude.{◌≡◌, ℕ, List}
use Rattle.report_reader.specs.Faults.{IsText, IsFirstOutside}

-- A text of which a line is the first outside is no report's.
abbrev pub OutsideIsNoText : Type 0
OutsideIsNoText = (bytes : List ℕ) (number : ℕ) → IsFirstOutside bytes number → ¬ IsText bytes

-- One line at most is the first outside.
abbrev pub IsOneFirstAtMost : Type 0
IsOneFirstAtMost = (bytes : List ℕ) (a b : ℕ) → IsFirstOutside bytes a → IsFirstOutside bytes b → a ≡ b
