-- Calls as the code compares them, each beside its key.
use Rattle.std.specs.Prelude.{ℕ, List, map}
use Rattle.std.specs.List.{IsDistinct}
use Rattle.std.specs.Ordering.{nat_cmp, ordering_then, eq_by_cmp}
use Rattle.std.specs.declared.cmp.Ordering.{Ordering}
use Rattle.cat_history.specs.Records.{Call, call_of}
use Rattle.cat_history.specs.declared.record.Record.{Record}
use Rattle.transcript.specs.declared.calls.NumberedCall.{NumberedCall}

-- A caller's number, and the index of a call among that caller's calls.
abbrev pub Key : Type 0
Key = ℕ × ℕ

-- By callers, and by index where the caller is one.
abbrev pub key_cmp : Key → Key → Ordering
key_cmp a b = ordering_then (nat_cmp a.0 b.0) (nat_cmp a.1 b.1)

abbrev pub key_of : NumberedCall → Key
key_of call = (call.caller, call.index)

abbrev pub as_numbered : Call → NumberedCall
as_numbered call = record { caller = call.caller; index = call.index; op = call.op }

-- The calls that records tell.
abbrev pub calls_told : List Record → List NumberedCall
calls_told told = map (λ r. as_numbered (call_of r)) told

-- No two records have one key.
abbrev pub HaveKeysApart : List Record → Type 0
HaveKeysApart told = IsDistinct (eq_by_cmp key_cmp) (map key_of (calls_told told))
