-- What one call of a round comes to within a budget.
use Rattle.std.specs.Prelude.{◌≡◌, ℕ, ◌<◌, ◌≤◌, ◌⊎◌, ◌↔◌, Bool, if◌then◌else◌, Contains, Some}
use Rattle.cat_history.specs.Maps.{Map}
use Rattle.cat_history.specs.Writes.{after_all}
use Rattle.cat_history.specs.LoneRounds.{write_of, IsAnswerNow, IsSpent}
use Rattle.cat_history.specs.Rounds.{IsWriter}
use Rattle.cat_history.specs.CrashRounds.{change_cut, settled, settled_reply}
use Rattle.cat_history.specs.declared.op.Change.{Change}
use Rattle.cat_history.specs.declared.op.Op.{Op}
use Rattle.cat_history.specs.declared.record.CutMark.{CutMark}
use Rattle.cat_history.specs.declared.record.CutMark.TheVariants.{At, Open}
use Rattle.cat_history.specs.declared.record.Record.{Record}
use Rattle.cat_history.specs.declared.record.Reply.{Reply}
use Rattle.cat_history.specs.declared.record.Reply.TheVariants.{Full, Unstarted}
use Rattle.cat_text.specs.ReportGrammar.{IsReportRecord, IsReportReply}
use Rattle.shapes.specs.ShapeRounds.{PutsFull, EndsWithMembers, anchors_after}
use Rattle.stopped_rounds.specs.Bounded.{MapState, IsSame}
use Rattle.stopped_rounds.specs.LoneStops.{IsCutNow}

-- Once its mark is settled, by whichever map, a report can tell of the reply, and of the record.
abbrev pub IsTold : Op → Reply → Type 0
IsTold op reply = (end : Map) → IsReportReply op (settled_reply end op reply)

abbrev pub SettlesToReport : Record → Type 0
SettlesToReport r = (end : Map) → IsReportRecord (settled end r)

-- The map is what a call left that was answered so, whoever made it.
abbrev pub IsLeftBy : Map → Op → Reply → Map → Type 0
IsLeftBy base op reply end =
    (caller index : ℕ) → end ≡ after_all base (write_of (record {
      caller = caller;
      index = index;
      op = op;
      reply = reply;
    }))

-- The mark of a write that was cut off: whether it has this place.
abbrev pub write_mark : Bool → ℕ → CutMark
write_mark placed place = if placed then At place else Open

-- It comes too late.
abbrev pub IsLate : ℕ → ℕ → Op → Type 0
IsLate limit place op = IsWriter op × (limit ≤ place)

-- It was answered, by the map and the shape as they were.
pub record WasAnswered (slots most limit : ℕ) (s : MapState) (place : ℕ) (op : Op) (reply : Reply) (new : MapState) :
    Type 0 where
  pub now : IsAnswerNow s.contents place op reply
  pub spent : IsSpent reply ↔ IsLate limit place op
  pub full : (reply ≡ Full) ↔ ((IsLate limit place op → ⊥) × PutsFull slots most s.contents s.anchors op)
  pub bounds : EndsWithMembers s.anchors reply
  pub left : IsLeftBy s.contents op reply new.contents
  pub anchors : new.anchors ≡ anchors_after slots s.contents s.anchors op reply
  pub cut : new.cut ≡ s.cut

-- It was cut off.
pub record WasCutOff (limit : ℕ) (s : MapState) (place : ℕ) (op : Op) (reply : Reply) (new : MapState) : Type 0 where
  pub now : IsCutNow limit s.contents place op reply
  pub left : IsLeftBy s.contents op reply new.contents
  pub cut : (c : Change) → Contains new.cut c → change_cut op reply ≡ Some c

-- It was not begun, without a budget; else it was answered, or it was cut off and has used up the budget.
abbrev pub Replies : ℕ → ℕ → ℕ → MapState → ℕ → Op → ℕ → Reply → ℕ → MapState → Type 0
Replies slots most limit s place op budget reply left new =
    ((budget ≡ 0) × (left ≡ 0) × (reply ≡ Unstarted) × IsSame s new)
    ⊎ ((0 < budget) × (WasAnswered slots most limit s place op reply new ⊎
    ((left ≡ 0) × WasCutOff limit s place op reply new)))
