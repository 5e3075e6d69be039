-- What a round comes to in numbers.
use Rattle.std.specs.Prelude.{ℕ, ◌≤◌, Bool, true, false, List, length, count_by}
use Rattle.std.specs.FinMap.{entries, len}
use Rattle.std.specs.List.{sum_by}
use Rattle.cat_history.specs.Maps.{Map}
use Rattle.cat_history.specs.declared.op.CallerOp.{CallerOp}
use Rattle.cat_history.specs.declared.op.Op.{Op}
use Rattle.cat_history.specs.declared.op.Op.TheVariants.{Put, Get, Del, Scan}
use Rattle.cat_history.specs.declared.record.Record.{Record}
use Rattle.cat_history.specs.declared.record.Reply.{Reply}
use Rattle.cat_history.specs.declared.record.Reply.TheVariants.{Full}
use Rattle.cat_text.specs.declared.summary.Summary.{Summary}

abbrev pub is_put : Op → Bool
is_put (Put name value) = true
is_put _ = false

abbrev pub is_del : Op → Bool
is_del (Del name) = true
is_del _ = false

abbrev pub is_full : Reply → Bool
is_full Full = true
is_full _ = false

-- How many calls were answered that there is no room.
abbrev pub full_in : List Record → ℕ
full_in records = count_by (λ (r : Record). is_full r.reply) records

-- The sum of the numbers of a map.
abbrev pub sum_of : Map → ℕ
sum_of m = sum_by (λ (e : List ℕ × ℕ). e.1) (entries m)

-- The summary of a round of these calls that came to these records and left this map.
abbrev pub summary_of : List CallerOp → List Record → Map → Summary
summary_of asked records end = record {
  calls = length asked;
  puts = count_by (λ (a : CallerOp). is_put a.op) asked;
  dels = count_by (λ (a : CallerOp). is_del a.op) asked;
  names = len end;
  sum = sum_of end;
  full = full_in records;
}

-- The number of a put is no greater than this.
abbrev pub IsWithin : ℕ → Op → Type 0
IsWithin most (Put name value) = value ≤ most
IsWithin most (Get name) = Unit {0}
IsWithin most (Del name) = Unit {0}
IsWithin most (Scan from count) = Unit {0}
