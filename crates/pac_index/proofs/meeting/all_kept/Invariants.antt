use Rattle.std.proofs.Common.{◌≡◌, take}
use Rattle.pac_index.specs.Callers.{kept_by}
use Rattle.pac_index.proofs.meeting.all_kept.Given as goal

abbrev pub invariant-loop-number : goal.invariant-loop-number
invariant-loop-number l = l.kept.items ≡ kept_by (take l.number l.fn.callers)
