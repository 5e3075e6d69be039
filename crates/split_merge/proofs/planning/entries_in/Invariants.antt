use Rattle.std.proofs.Common.{◌≡◌, ℕ, ◌<◌, length, get_or, []}
use Rattle.split_merge.specs.Plans.{entry_at}
use Rattle.split_merge.proofs.planning.entries_in.Given as goal

-- the slots that the loop has passed have their words
abbrev pub invariant-loop-slot : goal.invariant-loop-slot
invariant-loop-slot l = (length l.entries ≡ 64) × ((k : ℕ) → k < l.slot → get_or l.entries k [] ≡ entry_at l.full k)
