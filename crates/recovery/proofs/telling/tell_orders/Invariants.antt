use Rattle.std.proofs.Common.{◌≡◌}
use Rattle.recovery.proofs.Orders.{IsOrderedTo}
use Rattle.recovery.proofs.telling.tell_orders.Given as goal

-- the nodes before this one are told
abbrev pub invariant-loop-node : goal.invariant-loop-node
invariant-loop-node l =
    (l.memory.layout ≡ l.fn.memory.layout) × IsOrderedTo l.fn.memory.layout l.fn.memory.words l.memory.words l.node
