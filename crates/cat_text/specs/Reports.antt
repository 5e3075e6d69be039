-- The text of reports.
use Rattle.std.specs.Prelude.{ℕ, Bool, true, false, List, [], ◌++◌, Option, Some, None, flat_map, codes, decimal}
use Rattle.std.specs.Prelude.{length}
use Rattle.cat_key.specs.declared.Pair.{Pair}
use Rattle.cat_history.specs.declared.op.Op.{Op}
use Rattle.cat_history.specs.declared.op.Op.TheVariants.{Put, Get, Del, Scan}
use Rattle.cat_history.specs.declared.record.CutMark.{CutMark}
use Rattle.cat_history.specs.declared.record.CutMark.TheVariants.{At, Open, Found, Lost, Read}
use Rattle.cat_history.specs.declared.record.Record.{Record}
use Rattle.cat_history.specs.declared.record.Reply.{Reply}
use Rattle.cat_history.specs.declared.record.Reply.TheVariants.{Old, Parts, Full, Spent, Cut, Unstarted}
use Rattle.cat_history.specs.declared.record.ScanPart.{ScanPart}
use Rattle.cat_text.specs.declared.report.RoundReport.{RoundReport}

abbrev pub op_text : Op → List ℕ
op_text (Put name value) = codes "put " ++ name ++ codes " " ++ decimal value
op_text (Get name) = codes "get " ++ name
op_text (Del name) = codes "del " ++ name
op_text (Scan from count) = codes "scan " ++ from ++ codes " " ++ decimal count

-- A number that a name had, or that it had none.
abbrev pub old_text : Option ℕ → List ℕ
old_text None = codes "none"
old_text (Some value) = decimal value

-- What is said of a call that was cut off. No report has an open mark.
abbrev pub mark_text : CutMark → List ℕ
mark_text (At place) = codes " @" ++ decimal place
mark_text Open = []
mark_text Found = codes " found"
mark_text Lost = codes " lost"
mark_text Read = []

-- Behind the number of a scan's parts.
abbrev pub cut_text : Bool → List ℕ
cut_text false = codes " parts"
cut_text true = codes " parts cut"

abbrev pub reply_text : Reply → List ℕ
reply_text (Old old place) = old_text old ++ codes " @" ++ decimal place
reply_text (Parts parts cut) = decimal (length parts) ++ cut_text cut
reply_text Full = codes "full"
reply_text (Spent clock) = codes "spent " ++ decimal clock
reply_text (Cut mark) = codes "cut" ++ mark_text mark
reply_text Unstarted = codes "unstarted"

-- A name with its number, as a part lists it.
abbrev pub pair_text : Pair → List ℕ
pair_text pair = codes " " ++ pair.name ++ codes " " ++ decimal pair.value

-- Where a part ends.
abbrev pub high_text : Option (List ℕ) → List ℕ
high_text None = codes " end"
high_text (Some high) = codes " to " ++ high

-- The line of a part of a scan.
abbrev pub part_line : ScanPart → List ℕ
part_line part =
    codes "part " ++ part.low ++ high_text part.high ++ codes " @" ++ decimal part.place ++
    flat_map pair_text part.pairs ++ codes "\n"

-- The parts of a scan, where the reply is to one.
abbrev pub listed_parts : Reply → List ScanPart
listed_parts (Old old place) = []
listed_parts (Parts parts cut) = parts
listed_parts Full = []
listed_parts (Spent clock) = []
listed_parts (Cut mark) = []
listed_parts Unstarted = []

-- The lines that follow that of a call: those of a scan's parts.
abbrev pub part_lines : Reply → List ℕ
part_lines reply = flat_map part_line (listed_parts reply)

-- The line of a call: its caller, what it asked and what it was answered.
abbrev pub record_line : Record → List ℕ
record_line r = decimal r.caller ++ codes " " ++ op_text r.op ++ codes " -> " ++ reply_text r.reply ++ codes "\n"

-- The lines of a call.
abbrev pub record_text : Record → List ℕ
record_text r = record_line r ++ part_lines r.reply

-- How a round ended.
abbrev pub end_word : Bool → List ℕ
end_word false = codes "join"
end_word true = codes "crash"

-- The last line of a round: how many writes have a place, and how many names there are then.
abbrev pub last_line : RoundReport → List ℕ
last_line round = end_word round.crashed ++ codes " " ++ decimal round.writes ++ codes " names " ++ decimal
    round.names ++ codes "\n"

abbrev pub round_text : RoundReport → List ℕ
round_text round = flat_map record_text round.records ++ last_line round

-- The text of a report: its rounds, one after another.
abbrev pub report_text : List RoundReport → List ℕ
report_text rounds = flat_map round_text rounds
