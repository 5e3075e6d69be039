use Rattle.std.proofs.Common.{sym, subst, ap, ◌∙◌}
use Rattle.std.specs.List.Sorted.{IsPermutation}
use Rattle.data_node.specs.Orders.{live_slots, listed}
use Rattle.node_ops.specs.PartSteps.{order_by, sorted_slots}
use Rattle.node_ops.proofs.PartOrder.{order_is}
use Rattle.node_ops.proofs.part.Reading.order.Goals as goal

pub returns-in-Alone-clause-listed : goal.returns-in-Alone-clause-listed
unfolding sorted_slots
returns-in-Alone-clause-listed c =
    let reading = c.args.self.now in
    let e = c.sort_order.ensures in
    order_is reading.entries reading.bitmap reading.call.view.layout.slots (listed c.sort_order.result)
    (subst (λ n. IsPermutation (live_slots reading.bitmap n) (listed c.sort_order.result)) c.slots-slots.ensures e.live) e.rising
    ∙ sym (ap (order_by reading) c.in-Alone.is)
