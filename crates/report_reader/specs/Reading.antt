-- What was read of a report so far.
use Rattle.std.specs.Prelude.{◌≡◌, ℕ, ◌-◌, ◌<◌, ◌≤◌, ◌⊎◌, ◌↔◌, List, [], ◌∷◌, ◌++◌, Option, Some, None, All}
use Rattle.std.specs.Prelude.{length, map, flat_map}
use Rattle.cat_history.specs.declared.record.Record.{Record}
use Rattle.cat_history.specs.declared.record.ScanPart.{ScanPart}
use Rattle.cat_text.specs.ReportGrammar.{IsReportPart, IsReportRecord, IsReportRound, StandByCaller}
use Rattle.cat_text.specs.ReportLines.{part_fields, record_fields, record_lines, last_fields, report_lines}
use Rattle.cat_text.specs.declared.report.RoundReport.{RoundReport}
use Rattle.report_reader.specs.Answers.{count_of}
use Rattle.report_reader.specs.Heads.{IsHead, head_fields}
use Rattle.report_reader.specs.declared.head.Head.TheVariants.{Call}
use Rattle.report_reader.specs.declared.reading.OpenCall.{OpenCall}
use Rattle.report_reader.specs.declared.reading.Reading.{Reading}

-- A record comes next in its round, where so many calls of this caller, the last one, come before it.
abbrev pub ComesNext : ℕ → ℕ → Record → Type 0
ComesNext caller calls r = ((r.caller ≡ caller) × (r.index ≡ calls)) ⊎ ((caller < r.caller) × (r.index ≡ 0))

-- Of so many calls of a round, where those from a first one on are the last caller's, a next call is of this caller,
-- and the caller's first call is this one.
abbrev pub Begins : ℕ → ℕ → ℕ → ℕ → ℕ → Type 0
Begins calls last last_first caller first =
    ((caller ≡ last) × (first ≡ last_first)) ⊎ ((last < caller) × (first ≡ calls))

-- The line of a call.
abbrev pub call_fields : OpenCall → List (List ℕ)
call_fields call = head_fields (Call call.caller call.op call.answer)

-- The call comes next in what was read.
abbrev pub IsCall : Reading → OpenCall → Type 0
IsCall r call = Begins (length r.records.items) r.caller r.first call.caller call.first ×
    IsHead (Call call.caller call.op call.answer)

-- What is known of a call whose parts are still to come, where there is one; these are those that came.
abbrev pub IsOpen : Reading → Option OpenCall → List ScanPart → Type 0
IsOpen r None parts = parts ≡ []
IsOpen r (Some call) parts = IsCall r call × (length parts < count_of call.answer)

-- The lines of such a call.
abbrev pub open_lines : Option OpenCall → List ScanPart → List (List (List ℕ))
open_lines None parts = []
open_lines (Some call) parts = call_fields call ∷ map part_fields parts

-- The lines of what was read.
abbrev pub lines_read : Reading → List (List (List ℕ))
lines_read r =
    report_lines r.rounds.items ++ (flat_map record_lines r.records.items ++ open_lines r.scan r.parts.items)

-- What was read is the beginning of a report.
pub record IsReading (r : Reading) : Type 0 where
  pub rounds : All IsReportRound r.rounds.items
  pub records : All IsReportRecord r.records.items
  pub stand : StandByCaller r.records.items
  pub within : r.first ≤ length r.records.items
  pub next : (q : Record) →
      (StandByCaller (r.records.items ++ q ∷ []) ↔ ComesNext r.caller (length r.records.items - r.first) q)
  pub parts : All IsReportPart r.parts.items
  pub scan : IsOpen r r.scan r.parts.items

-- A line may come next in what was read: that of a part where this call is open, and else that of a call, or the last
-- line of the round.
abbrev pub MayComeBehind : Reading → Option OpenCall → List (List ℕ) → Type 0
MayComeBehind r None line =
    ((q : Record) × IsReportRecord q × StandByCaller (r.records.items ++ q ∷ []) × (line ≡ record_fields q)) ⊎
    ((round : RoundReport) × IsReportRound round × (line ≡ last_fields round))
MayComeBehind r (Some call) line = (part : ScanPart) × IsReportPart part × (line ≡ part_fields part)

abbrev pub MayCome : Reading → List (List ℕ) → Type 0
MayCome r line = MayComeBehind r r.scan line

-- What was read with these lines more.
pub record HasRead (was : Reading) (lines : List (List (List ℕ))) (now : Reading) : Type 0 where
  pub is : IsReading now
  pub more : lines_read now ≡ lines_read was ++ lines
