use Rattle.std.proofs.Common.{◌≡◌, ◌≤◌}
use Rattle.data_node.specs.Bits.{live_count}
use Rattle.data_node.proofs.slots.live_count.Given as goal

-- the slots that the loop has passed are counted
abbrev pub invariant-loop-place : goal.invariant-loop-place
invariant-loop-place l = (l.count ≡ live_count l.place l.bitmap) × (l.count ≤ l.place)
