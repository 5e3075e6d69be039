-- Which line of a text is the first outside the grammar of reports.
use Rattle.std.specs.Prelude.{◌≡◌, ◌≢◌, ℕ, ◌+◌, ◌⊎◌, List, ◌∷◌, ◌++◌, [], length, codes, flat_map, All}
use Rattle.std.specs.Prelude.{Result, Err}
use Rattle.cat_text.specs.ReportGrammar.{IsReportText}
use Rattle.cat_text.specs.declared.report.RoundReport.{RoundReport}
use Rattle.report_reader.specs.declared.fault.LineFault.{LineFault}
use Rattle.report_reader.specs.declared.fault.LineFault.TheVariants.{Outside, NoMemory}
use Rattle.report_reader.specs.declared.fault.ReportFault.{ReportFault}
use Rattle.report_reader.specs.declared.fault.ReportFault.TheVariants as fault

-- A line has no line feed in it.
abbrev pub IsLine : List ℕ → Type 0
IsLine line = All (λ byte. byte ≢ 10) line

-- The text of lines: each with a line feed behind it.
abbrev pub text_of_lines : List (List ℕ) → List ℕ
text_of_lines lines = flat_map (λ line. line ++ codes "\n") lines

-- The bytes are the text of some report.
abbrev pub IsText : List ℕ → Type 0
IsText bytes = (report : List RoundReport) × IsReportText bytes report

-- The text of some report begins with these bytes, or is these bytes.
abbrev pub BeginsText : List ℕ → Type 0
BeginsText bytes = (rest : List ℕ) × IsText (bytes ++ rest)

-- What follows these lines is outside the grammar: either it has a first line with which no report goes on behind
-- them, whatever follows it, or it has no line feed (it is empty, or a line whose line feed is missing) and the whole
-- is no report.
abbrev pub GoesOutside : List (List ℕ) → List ℕ → Type 0
GoesOutside before rest =
    ((line : List ℕ) × (more : List ℕ) × (rest ≡ line ++ codes "\n" ++ more) × IsLine line ×
    ¬ BeginsText (text_of_lines (before ++ line ∷ []))) ⊎
    (IsLine rest × ¬ IsText (text_of_lines before ++ rest))

-- The line of this number, counted from 1, is the first outside the grammar of reports: the text of some report begins
-- with the lines before it, and with it no more. A text that is empty is so at line 1; one that ends with a line feed
-- within a round, at the line behind its last one; one whose last line has no line feed, at that line at the latest,
-- whatever it says. A line with a byte that no report has, or with a number that is none, is outside as any other is.
pub record IsFirstOutside (bytes : List ℕ) (number : ℕ) : Type 0 where
  pub before : List (List ℕ)
  pub rest : List ℕ
  pub cut : bytes ≡ text_of_lines before ++ rest
  pub lines : All IsLine before
  pub counted : number ≡ length before + 1
  pub begins : BeginsText (text_of_lines before)
  pub outside : GoesOutside before rest

-- Why bytes are refused: a line of them is the first outside the grammar, unless memory ran out.
abbrev pub IsRefusal : List ℕ → ReportFault → Type 0
IsRefusal bytes (fault.Line number) = IsFirstOutside bytes number
IsRefusal bytes fault.NoMemory = Unit {0}

-- What is told of the line of this number.
abbrev pub fault_at : ℕ → LineFault → ReportFault
fault_at number Outside = fault.Line number
fault_at number NoMemory = fault.NoMemory

-- This is answered, unless memory ran out.
abbrev pub IsAnswered : Result (List RoundReport) ReportFault → Result (List RoundReport) ReportFault → Type 0
IsAnswered result answer = (result ≡ answer) ⊎ (result ≡ Err fault.NoMemory)
