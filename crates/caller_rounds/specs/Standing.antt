-- How the records of a round of several callers stand in its report, and that a report may have each of them.
use Rattle.std.specs.Prelude.{◌≡◌, ℕ, ◌<◌, ◌^◌, List, All, IfSome, length, map}
use mathlib.Core.Option.{some}
use lib.ListN.{get_elem?}
use Rattle.cat_history.specs.Maps.{Map}
use Rattle.cat_history.specs.CrashRounds.{settled_reply}
use Rattle.cat_history.specs.Records.{call_of, mark_place, numbered}
use Rattle.cat_history.specs.Rounds.{IsAnswer, IsAnswered, IsLegalRound}
use Rattle.cat_history.specs.declared.op.CallerOp.{CallerOp}
use Rattle.cat_history.specs.declared.op.Op.{Op}
use Rattle.cat_history.specs.declared.op.Write.{Write}
use Rattle.cat_history.specs.declared.record.Record.{Record}
use Rattle.cat_history.specs.declared.record.Reply.{Reply}
use Rattle.cat_history.specs.declared.record.Reply.TheVariants.{Old, Parts, Full, Spent, Cut, Unstarted}
use Rattle.cat_text.specs.ReportGrammar.{IsReportOp, IsReportPart, IsReportRecord, IsReportReply, StandByCaller}
use Rattle.caller_rounds.specs.CallerRounds.{by_caller, calls_from}

-- All records of callers that have each made their calls in order.
abbrev pub RecordsStand : Type 0
RecordsStand = (ops : ℕ → List Op) (told : List (List Record)) →
    ((i : ℕ) (records : List Record) → get_elem? told i ≡ some records → map call_of records ≡ calls_from i 0 (ops i)) →
    StandByCaller (by_caller told)

-- The numbers of a reply have 64 bits, and its parts are those of a report.
abbrev pub HasReportNumbers : Reply → Type 0
HasReportNumbers (Old old place) = IfSome old (λ value. value < 2 ^ 64) × (place < 2 ^ 64)
HasReportNumbers (Parts parts cut) = All IsReportPart parts × (length parts < 2 ^ 64)
HasReportNumbers Full = Unit {0}
HasReportNumbers (Spent clock) = clock < 2 ^ 64
HasReportNumbers (Cut mark) = IfSome (mark_place mark) (λ place. place < 2 ^ 64)
HasReportNumbers Unstarted = Unit {0}

-- Such a reply is one of a report, where it answers its call.
abbrev pub AnswersAreTold : Type 0
AnswersAreTold = (base : Map) (history : List Write) (limit : ℕ) (op : Op) (reply : Reply) →
    IsAnswer base history limit op reply → IsAnswered reply → HasReportNumbers reply → IsReportReply op reply

-- So is what a call came to that was cut off or not begun, once it is settled by whatever map.
abbrev pub SettledAreTold : Type 0
SettledAreTold = (base : Map) (history : List Write) (limit : ℕ) (op : Op) (reply : Reply) (end : Map) →
    IsAnswer base history limit op reply → HasReportNumbers reply → IsReportReply op (settled_reply end op reply)

-- A report may have each record of a legal round of calls that it may have, if it may have each reply.
abbrev pub RecordsAreTold : Type 0
RecordsAreTold = (base : Map) (asked : List CallerOp) (limit : ℕ) (records : List Record) (history : List Write) →
    IsLegalRound base (numbered asked) limit records history →
    All (λ a. (a.caller < 16) × IsReportOp a.op) asked → All (λ r. IsReportReply r.op r.reply) records →
    All IsReportRecord records
