-- The grammar of reports: which reports there are, and the text of each.
use Rattle.std.specs.Prelude.{◌≡◌, ℕ, ◌+◌, ◌<◌, ◌≤◌, ◌^◌, ◌⊎◌, List, [], ◌∷◌, All, IfSome, flat_map, length, map}
use Rattle.cat_key.specs.Names.{IsName}
use Rattle.cat_key.specs.declared.Pair.{Pair}
use Rattle.cat_history.specs.Records.{call_of, numbered}
use Rattle.cat_history.specs.Rounds.{IsPut, IsScan, IsWriter}
use Rattle.cat_history.specs.Scans.{Rise}
use Rattle.cat_history.specs.declared.op.CallerOp.{CallerOp}
use Rattle.cat_history.specs.declared.op.Op.{Op}
use Rattle.cat_history.specs.declared.op.Op.TheVariants.{Put, Get, Del, Scan}
use Rattle.cat_history.specs.declared.record.CutMark.{CutMark}
use Rattle.cat_history.specs.declared.record.CutMark.TheVariants.{At, Open, Found, Lost, Read}
use Rattle.cat_history.specs.declared.record.Record.{Record}
use Rattle.cat_history.specs.declared.record.Reply.{Reply}
use Rattle.cat_history.specs.declared.record.Reply.TheVariants.{Old, Parts, Full, Spent, Cut, Unstarted}
use Rattle.cat_history.specs.declared.record.ScanPart.{ScanPart}
use Rattle.cat_text.specs.ReportLines.{line_text, report_lines}
use Rattle.cat_text.specs.Reports.{report_text}
use Rattle.cat_text.specs.declared.report.RoundReport.{RoundReport}

-- What a call of a report asks: of a name, with a number below 2 ^ 64.
abbrev pub IsReportOp : Op → Type 0
IsReportOp (Put name value) = IsName name × (value < 2 ^ 64)
IsReportOp (Get name) = IsName name
IsReportOp (Del name) = IsName name
IsReportOp (Scan from count) = IsName from × (count < 2 ^ 64)

abbrev pub IsGet : Op → Type 0
IsGet (Put name value) = ⊥
IsGet (Get name) = Unit {0}
IsGet (Del name) = ⊥
IsGet (Scan from count) = ⊥

-- A name with a number below 2 ^ 64.
abbrev pub IsReportPair : Pair → Type 0
IsReportPair pair = IsName pair.name × (pair.value < 2 ^ 64)

-- A part of a scan: between two names, or without an upper one, with names that rise.
pub record IsReportPart (part : ScanPart) : Type 0 where
  pub low : IsName part.low
  pub high : IfSome part.high IsName
  pub place : part.place < 2 ^ 64
  pub pairs : All IsReportPair part.pairs
  pub rise : Rise part.pairs

-- What may become of a call that was cut off: a write has its place, or is found or lost; of a get nothing is said.
abbrev pub IsReportMark : Op → CutMark → Type 0
IsReportMark op (At place) = IsWriter op × (place < 2 ^ 64)
IsReportMark op Open = ⊥
IsReportMark op Found = IsWriter op
IsReportMark op Lost = IsWriter op
IsReportMark op Read = IsGet op

-- What a call may be answered: any call but a scan a number or none and its place, a scan its parts, a put that it is
-- full, a put or a delete that it is spent. Any call may be unstarted.
abbrev pub IsReportReply : Op → Reply → Type 0
IsReportReply op (Old old place) = (¬ IsScan op) × IfSome old (λ value. value < 2 ^ 64) × (place < 2 ^ 64)
IsReportReply op (Parts parts cut) = IsScan op × All IsReportPart parts × (length parts < 2 ^ 64)
IsReportReply op Full = IsPut op
IsReportReply op (Spent clock) = IsWriter op × (clock < 2 ^ 64)
IsReportReply op (Cut mark) = IsReportMark op mark
IsReportReply op Unstarted = Unit {0}

-- A call of one of 16 callers.
pub record IsReportRecord (r : Record) : Type 0 where
  pub caller : r.caller < 16
  pub op : IsReportOp r.op
  pub reply : IsReportReply r.op r.reply

-- Records behind that of this call of this caller: the next one is of the caller's next call, or of the first call of
-- a caller with a higher number.
abbrev pub StandBehind : ℕ → ℕ → List Record → Type 0
StandBehind caller index [] = Unit {0}
StandBehind caller index (r ∷ records) =
    (((r.caller ≡ caller) × (r.index ≡ index + 1)) ⊎ ((caller < r.caller) × (r.index ≡ 0))) ×
    StandBehind r.caller r.index records

-- Records by caller, each caller's with the indexes 0, 1, 2 and so on.
abbrev pub StandByCaller : List Record → Type 0
StandByCaller [] = Unit {0}
StandByCaller (r ∷ records) = (r.index ≡ 0) × StandBehind r.caller r.index records

pub record IsReportRound (round : RoundReport) : Type 0 where
  pub records : All IsReportRecord round.records
  pub by_caller : StandByCaller round.records
  pub writes : round.writes < 2 ^ 64
  pub names : round.names < 2 ^ 64

-- A report: one round or more.
pub record IsReport (report : List RoundReport) : Type 0 where
  pub some : 1 ≤ length report
  pub rounds : All IsReportRound report

-- The bytes are the text of this report: its lines, one after another.
pub record IsReportText (bytes : List ℕ) (rounds : List RoundReport) : Type 0 where
  pub report : IsReport rounds
  pub lines : bytes ≡ flat_map line_text (report_lines rounds)

-- A report has one text, the one that is printed.
abbrev pub HasItsText : Type 0
HasItsText = (rounds : List RoundReport) → IsReport rounds → IsReportText (report_text rounds) rounds

abbrev pub HasOneText : Type 0
HasOneText = (rounds : List RoundReport) (a b : List ℕ) → IsReportText a rounds → IsReportText b rounds → a ≡ b

-- A text is that of one report at most.
abbrev pub IsOneReportAtMost : Type 0
IsOneReportAtMost = (bytes : List ℕ) (a b : List RoundReport) → IsReportText bytes a → IsReportText bytes b → a ≡ b

-- Where one caller alone has calls, their records in the order of the script stand by caller.
abbrev pub LoneRecordsStand : Type 0
LoneRecordsStand = (caller : ℕ) (asked : List CallerOp) (records : List Record) →
    All (λ a. a.caller ≡ caller) asked → map call_of records ≡ numbered asked → StandByCaller records
