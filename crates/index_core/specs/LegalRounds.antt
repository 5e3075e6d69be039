-- The calls of a schedule that took place, as the records of a legal round.
use Rattle.std.specs.Prelude.{ℕ, List, Option, Some, None, map}
use Rattle.std.specs.List.{filter_map}
use Rattle.cat_history.specs.Callers.{PlacesKeepLimit}
use Rattle.cat_history.specs.Maps.{map_of}
use Rattle.cat_history.specs.Records.{as_op, call_of}
use Rattle.cat_history.specs.Rounds.{IsLegalRound}
use Rattle.cat_history.specs.declared.record.Record.{Record}
use Rattle.cat_history.specs.declared.record.Reply.TheVariants.{Old}
use Rattle.call_stages.specs.declared.once.Once.{Once}
use Rattle.call_stages.specs.declared.once.Once.TheVariants as once
use Rattle.call_stages.specs.declared.once.Placed.{Placed}
use Rattle.index_core.specs.Indexes.{Index}
use Rattle.index_core.specs.Lone.{HasNoCalls}
use Rattle.index_core.specs.Schedules.{BegunCall, AnsweredCall, CarryLimit, IsLegalHistory}

-- The record of a call that was answered with this old number and this place.
abbrev pub placed_record : BegunCall → Placed → Record
placed_record call placed = record {
  caller = call.caller;
  index = call.index;
  op = as_op call.op;
  reply = Old placed.old placed.place;
}

-- The record of a call that took place; a call that was refused or turned back has none.
abbrev pub record_told : BegunCall → Once Placed → Option Record
record_told call (once.Done placed) = Some (placed_record call placed)
record_told call _ = None

abbrev pub record_of : AnsweredCall → Option Record
record_of c = record_told c.call c.answer

-- The records of the calls that took place, in the order of their answers.
abbrev pub records_of : List AnsweredCall → List Record
records_of calls = filter_map record_of calls

-- The callers of the calls that took place, each as often as it has one.
abbrev pub callers_placed : List AnsweredCall → List ℕ
callers_placed calls = map (λ c. c.caller) (map call_of (records_of calls))

-- Once no call is in flight, the calls that took place are a legal round, whose writes are the history, under each
-- limit that the places of the history keep,
abbrev pub LegalHistoryIsLegalRound : Type 0
LegalHistoryIsLegalRound = (first : Index) (begun : List BegunCall) (calls : List AnsweredCall) (s : Index)
    (limit : ℕ) → IsLegalHistory first begun calls s → HasNoCalls s →
    PlacesKeepLimit limit (callers_placed calls) s.history →
    IsLegalRound (map_of first.base) (map call_of (records_of calls)) limit (records_of calls) s.history

-- and they keep the one that all puts and deletes had.
abbrev pub LegalHistoryKeepsLimit : Type 0
LegalHistoryKeepsLimit = (first : Index) (begun : List BegunCall) (calls : List AnsweredCall) (s : Index)
    (limit : ℕ) → IsLegalHistory first begun calls s → HasNoCalls s → CarryLimit limit begun →
    PlacesKeepLimit limit (callers_placed calls) s.history
