-- The calls of a round, and what its records tell.
use Rattle.std.specs.Prelude.{ℕ, ◌+◌, ◌==◌, List, [], ◌∷◌, ◌++◌, Option, Some, None, count_by, option_map}
use Rattle.std.specs.List.{filter_map}
use Rattle.cat_history.specs.declared.op.CallerOp.{CallerOp}
use Rattle.cat_history.specs.declared.op.Change.{Change}
use Rattle.cat_history.specs.declared.op.Change.TheVariants as change
use Rattle.cat_history.specs.declared.op.NameOp.{NameOp}
use Rattle.cat_history.specs.declared.op.NameOp.TheVariants as name_op
use Rattle.cat_history.specs.declared.op.Op.{Op}
use Rattle.cat_history.specs.declared.op.Op.TheVariants.{Put, Get, Del, Scan}
use Rattle.cat_history.specs.declared.op.Write.{Write}
use Rattle.cat_history.specs.declared.record.CutMark.{CutMark}
use Rattle.cat_history.specs.declared.record.CutMark.TheVariants.{At, Open, Found, Lost, Read}
use Rattle.cat_history.specs.declared.record.Record.{Record}
use Rattle.cat_history.specs.declared.record.Reply.{Reply}
use Rattle.cat_history.specs.declared.record.Reply.TheVariants.{Old, Parts, Full, Spent, Cut, Unstarted}
use Rattle.cat_history.specs.declared.record.ScanPart.{ScanPart}

-- A call of a round: who makes it, how many calls that caller made before it, and what it asks.
pub record Call : Type 0 where
  pub caller : ℕ
  pub index : ℕ
  pub op : Op

-- The calls with their indexes, where these callers called before, each as often as it stands in the list.
abbrev pub numbered_after : List ℕ → List CallerOp → List Call
numbered_after before [] = []
numbered_after before (asked ∷ more) =
    record { caller = asked.caller; index = count_by (λ caller. caller == asked.caller) before; op = asked.op }
    ∷ numbered_after (before ++ asked.caller ∷ []) more

-- The calls of a script, each with its index among the calls of its caller.
abbrev pub numbered : List CallerOp → List Call
numbered asked = numbered_after [] asked

-- The call that a record is about.
abbrev pub call_of : Record → Call
call_of r = record { caller = r.caller; index = r.index; op = r.op }

-- A call on one name, among those that a caller may make.
abbrev pub as_op : NameOp → Op
as_op (name_op.Put name value) = Put name value
as_op (name_op.Get name) = Get name
as_op (name_op.Del name) = Del name

-- The change that a call on one name asks for; a get asks for none.
abbrev pub change_of : NameOp → Option Change
change_of (name_op.Put name value) = Some (change.Put name value)
change_of (name_op.Get name) = None
change_of (name_op.Del name) = Some (change.Del name)

-- The change that a call asks for; a get and a scan ask for none.
abbrev pub change_asked : Op → Option Change
change_asked (Put name value) = Some (change.Put name value)
change_asked (Get name) = None
change_asked (Del name) = Some (change.Del name)
change_asked (Scan from count) = None

-- The place of a write that was cut off, where it has one.
abbrev pub mark_place : CutMark → Option ℕ
mark_place (At place) = Some place
mark_place Open = None
mark_place Found = None
mark_place Lost = None
mark_place Read = None

-- The place that a reply tells of a call on one name.
abbrev pub place_of : Reply → Option ℕ
place_of (Old old place) = Some place
place_of (Parts parts cut) = None
place_of Full = None
place_of (Spent clock) = None
place_of (Cut mark) = mark_place mark
place_of Unstarted = None

-- A record's write, beside its place; None where the record is of no write or tells no place.
abbrev pub placed_write : Record → Option (ℕ × Write)
placed_write r = elim (place_of r.reply) [
  | None ↦ None
  | Some place ↦
      option_map (λ c. (place, record { caller = r.caller; index = r.index; change = c })) (change_asked r.op)
]

-- The writes of the records that have a place, each beside it.
abbrev pub placed_writes : List Record → List (ℕ × Write)
placed_writes records = filter_map placed_write records

-- The writes between which a call took effect: how many come before its start, and before its end.
pub record Interval : Type 0 where
  pub start : ℕ
  pub end : ℕ

-- A write takes one place, a get none.
abbrev pub interval_at : NameOp → ℕ → Interval
interval_at (name_op.Put name value) place = record { start = place; end = place + 1 }
interval_at (name_op.Get name) place = record { start = place; end = place }
interval_at (name_op.Del name) place = record { start = place; end = place + 1 }

-- The same of any call: one that reads takes none.
abbrev pub interval_asked : Op → ℕ → Interval
interval_asked (Put name value) place = record { start = place; end = place + 1 }
interval_asked (Get name) place = record { start = place; end = place }
interval_asked (Del name) place = record { start = place; end = place + 1 }
interval_asked (Scan from count) place = record { start = place; end = place }

-- The place of the last of these parts; the given one where there is none.
abbrev pub last_place : ℕ → List ScanPart → ℕ
last_place place [] = place
last_place place (part ∷ parts) = last_place part.place parts

-- A scan takes effect from its first part to its last; one without a part has left no trace.
abbrev pub parts_interval : List ScanPart → Option Interval
parts_interval [] = None
parts_interval (part ∷ parts) = Some (record { start = part.place; end = last_place part.place parts })

-- The interval of a call that was answered so. One that found its limit reached saw the writes before its clock. A
-- call that left no trace has none.
abbrev pub interval_told : Op → Reply → Option Interval
interval_told op (Old old place) = Some (interval_asked op place)
interval_told op (Parts parts cut) = parts_interval parts
interval_told op Full = None
interval_told op (Spent clock) = Some (record { start = clock; end = clock })
interval_told op (Cut mark) = option_map (interval_asked op) (mark_place mark)
interval_told op Unstarted = None

abbrev pub interval : Record → Option Interval
interval r = interval_told r.op r.reply
