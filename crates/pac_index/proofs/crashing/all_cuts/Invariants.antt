use Rattle.std.proofs.Common.{◌≡◌, ◌≤◌, length, map, take}
use Rattle.std.specs.Prelude.{vec_len, vec_capacity}
use Rattle.pac_index.specs.CrashMeetings.{cut_of}
use Rattle.pac_index.proofs.crashing.all_cuts.Given as goal

abbrev pub invariant-loop-number : goal.invariant-loop-number
invariant-loop-number l = (l.cuts.items ≡ map cut_of (take l.number l.fn.callers)) × (vec_len l.cuts ≡ l.number) × (length l.fn.callers ≤ vec_capacity l.cuts)
