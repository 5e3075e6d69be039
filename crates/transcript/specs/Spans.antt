-- What callers did one after another.
use Rattle.std.specs.Prelude.{◌≡◌, ℕ, ◌<◌, ◌≤◌, Bool, true, false, if◌then◌else◌, Option, List, Contains, map}
use Rattle.std.specs.Prelude.{option_map}
use Rattle.std.specs.List.{filter_map}
use Rattle.cat_history.specs.Records.{Interval, interval}
use Rattle.cat_history.specs.declared.record.Record.{Record}
use Rattle.cat_history.specs.declared.record.Reply.{Reply}
use Rattle.cat_history.specs.declared.record.Reply.TheVariants.{Old, Parts, Full, Spent, Cut, Unstarted}
use Rattle.transcript.specs.Calls.{Key}
use Rattle.transcript.specs.declared.spans.Span.{Span}
use Rattle.transcript.specs.declared.spans.Taken.{Taken}

abbrev pub key_in : Span → Key
key_in span = (span.caller, span.index)

-- Of two spans of one caller, the earlier one ends before the later one starts.
abbrev pub FollowEachOther : List Span → Type 0
FollowEachOther spans = (a b : Span) → Contains spans a → Contains spans b → a.caller ≡ b.caller → a.index < b.index →
    a.end ≤ b.start

abbrev pub as_interval : Taken → Interval
as_interval taken = record { start = taken.start; end = taken.end }

-- When the call of a record took effect, as its caller's span.
abbrev pub span_of : Record → Option Span
span_of r = option_map (λ (i : Interval). record { caller = r.caller; index = r.index; start = i.start; end = i.end })
    (interval r)

abbrev pub spans_of : List Record → List Span
spans_of told = filter_map span_of told

abbrev pub as_number : Bool → ℕ
as_number b = if b then 1 else 0

-- Whether the call lacks a beginning, and whether it lacks an answer.
abbrev pub lacks : Reply → Bool × Bool
lacks (Old old place) = (false, false)
lacks (Parts parts cut) = (false, cut)
lacks Full = (false, false)
lacks (Spent clock) = (false, false)
lacks (Cut mark) = (false, true)
lacks Unstarted = (true, true)

abbrev pub is_unstarted : Reply → Bool
is_unstarted reply = (lacks reply).0

-- The call was cut off or not begun.
abbrev pub is_unanswered : Reply → Bool
is_unanswered reply = (lacks reply).1

-- A call that wasn't answered ends at 1, and one that was begun starts at 0: so of two spans the earlier one ends
-- before the later one starts exactly where the earlier call was answered or the later one wasn't begun.
abbrev pub stop_of : Record → Span
stop_of r = record {
  caller = r.caller;
  index = r.index;
  start = as_number (is_unstarted r.reply);
  end = as_number (is_unanswered r.reply);
}

abbrev pub stops_of : List Record → List Span
stops_of told = map stop_of told
