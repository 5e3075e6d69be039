-- What a line says that isn't that of a scan's part.
use Rattle.std.specs.Prelude.{◌≡◌, ℕ, ◌<◌, ◌^◌, List, [], ◌∷◌, ◌++◌, codes, decimal}
use Rattle.cat_text.specs.Reports.{end_word}
use Rattle.cat_text.specs.ReportGrammar.{IsReportOp}
use Rattle.cat_text.specs.ReportLines.{op_fields}
use Rattle.report_reader.specs.Answers.{IsAnswer, Suits, answer_fields}
use Rattle.report_reader.specs.declared.head.Head.{Head}
use Rattle.report_reader.specs.declared.head.Head.TheVariants.{Call, Last}

abbrev pub IsHead : Head → Type 0
IsHead (Call caller op answer) = (caller < 16) × IsReportOp op × IsAnswer answer × Suits op answer
IsHead (Last crashed writes names) = (writes < 2 ^ 64) × (names < 2 ^ 64)

abbrev pub head_fields : Head → List (List ℕ)
head_fields (Call caller op answer) = decimal caller ∷ (op_fields op ++ codes "->" ∷ answer_fields answer)
head_fields (Last crashed writes names) =
    end_word crashed ∷ decimal writes ∷ codes "names" ∷ decimal names ∷ []

abbrev pub SaysHead : List (List ℕ) → Head → Type 0
SaysHead fields head = IsHead head × (fields ≡ head_fields head)
