-- The lines of a report, each as its fields.
use Rattle.std.specs.Prelude.{ℕ, Bool, true, false, List, [], ◌∷◌, ◌++◌, Option, Some, None, flat_map, codes, decimal}
use Rattle.std.specs.Prelude.{length, map}
use Rattle.cat_key.specs.declared.Pair.{Pair}
use Rattle.cat_history.specs.declared.op.Op.{Op}
use Rattle.cat_history.specs.declared.op.Op.TheVariants.{Put, Get, Del, Scan}
use Rattle.cat_history.specs.declared.record.CutMark.{CutMark}
use Rattle.cat_history.specs.declared.record.CutMark.TheVariants.{At, Open, Found, Lost, Read}
use Rattle.cat_history.specs.declared.record.Record.{Record}
use Rattle.cat_history.specs.declared.record.Reply.{Reply}
use Rattle.cat_history.specs.declared.record.Reply.TheVariants.{Old, Parts, Full, Spent, Cut, Unstarted}
use Rattle.cat_history.specs.declared.record.ScanPart.{ScanPart}
use Rattle.cat_text.specs.Reports.{old_text, listed_parts, end_word}
use Rattle.cat_text.specs.declared.report.RoundReport.{RoundReport}

-- A line: its fields, of which there is at least one, with one space between them, and a line feed.
abbrev pub line_text : List (List ℕ) → List ℕ
line_text [] = []
line_text (field ∷ more) = field ++ flat_map (λ next. codes " " ++ next) more ++ codes "\n"

-- What is asked.
abbrev pub op_fields : Op → List (List ℕ)
op_fields (Put name value) = codes "put" ∷ name ∷ decimal value ∷ []
op_fields (Get name) = codes "get" ∷ name ∷ []
op_fields (Del name) = codes "del" ∷ name ∷ []
op_fields (Scan from count) = codes "scan" ∷ from ∷ decimal count ∷ []

-- A place.
abbrev pub place_field : ℕ → List ℕ
place_field place = codes "@" ++ decimal place

-- What became of a call that was cut off. No report has an open mark.
abbrev pub mark_fields : CutMark → List (List ℕ)
mark_fields (At place) = place_field place ∷ []
mark_fields Open = []
mark_fields Found = codes "found" ∷ []
mark_fields Lost = codes "lost" ∷ []
mark_fields Read = []

-- What follows the number of a scan's parts.
abbrev pub cut_fields : Bool → List (List ℕ)
cut_fields false = codes "parts" ∷ []
cut_fields true = codes "parts" ∷ codes "cut" ∷ []

-- What is answered.
abbrev pub reply_fields : Reply → List (List ℕ)
reply_fields (Old old place) = old_text old ∷ place_field place ∷ []
reply_fields (Parts parts cut) = decimal (length parts) ∷ cut_fields cut
reply_fields Full = codes "full" ∷ []
reply_fields (Spent clock) = codes "spent" ∷ decimal clock ∷ []
reply_fields (Cut mark) = codes "cut" ∷ mark_fields mark
reply_fields Unstarted = codes "unstarted" ∷ []

-- The line of a call: its caller, what is asked, an arrow, and what is answered.
abbrev pub record_fields : Record → List (List ℕ)
record_fields r = decimal r.caller ∷ (op_fields r.op ++ codes "->" ∷ reply_fields r.reply)

-- Where a part ends.
abbrev pub high_fields : Option (List ℕ) → List (List ℕ)
high_fields None = codes "end" ∷ []
high_fields (Some high) = codes "to" ∷ high ∷ []

-- A name with its number.
abbrev pub pair_fields : Pair → List (List ℕ)
pair_fields pair = pair.name ∷ decimal pair.value ∷ []

-- The line of a part of a scan: its bounds, its place, and the names that it lists.
abbrev pub part_fields : ScanPart → List (List ℕ)
part_fields part =
    codes "part" ∷ part.low ∷ (high_fields part.high ++ place_field part.place ∷ flat_map pair_fields part.pairs)

-- The lines that follow that of a call: one for each part of its scan.
abbrev pub reply_lines : Reply → List (List (List ℕ))
reply_lines reply = map part_fields (listed_parts reply)

abbrev pub record_lines : Record → List (List (List ℕ))
record_lines r = record_fields r ∷ reply_lines r.reply

-- The last line of a round.
abbrev pub last_fields : RoundReport → List (List ℕ)
last_fields round = end_word round.crashed ∷ decimal round.writes ∷ codes "names" ∷ decimal round.names ∷ []

-- The lines of a round: those of its calls, in their order, and its last one.
abbrev pub round_lines : RoundReport → List (List (List ℕ))
round_lines round = flat_map record_lines round.records ++ last_fields round ∷ []

-- The lines of a report: those of its rounds, one after another.
abbrev pub report_lines : List RoundReport → List (List (List ℕ))
report_lines rounds = flat_map round_lines rounds
