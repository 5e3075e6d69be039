use Rattle.std.proofs.Common.{◌≡◌, ℕ, ◌<◌, length, get_or}
use Rattle.data_node.specs.Orders.{listed}
use Rattle.split_merge.specs.Plans.{moved_at}
use Rattle.split_merge.proofs.planning.upper_in.Given as goal

-- the slots that the loop has passed are those of the upper half
abbrev pub invariant-loop-slot : goal.invariant-loop-slot
invariant-loop-slot l = (length l.moved ≡ 32) × ((k : ℕ) → k < l.slot → get_or l.moved k 0 ≡ moved_at (listed l.order) l.half k)
