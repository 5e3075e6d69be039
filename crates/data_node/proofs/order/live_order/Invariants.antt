use Rattle.std.proofs.Common.{◌≡◌, ◌≤◌, length}
use Rattle.data_node.specs.Orders.{live_slots, listed}
use Rattle.data_node.proofs.order.live_order.Given as goal

-- the live ones of the slots that the loop has passed are listed
abbrev pub invariant-loop-slot : goal.invariant-loop-slot
invariant-loop-slot l = record {
  few : l.order.len ≤ l.slot;
  room : length l.order.slots ≡ 64;
  done : listed l.order ≡ live_slots l.bitmap l.slot;
}
