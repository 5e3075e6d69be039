use Rattle.std.proofs.Common.{subst, ap, ◌∙◌}
use Rattle.std.specs.List.Sorted.{IsPermutation}
use Rattle.data_node.specs.Orders.{live_slots, listed}
use Rattle.permutation.specs.Permutations.{permutation_words}
use Rattle.node_ops.specs.PartSteps.{sorted_slots}
use Rattle.node_ops.proofs.PartOrder.{order_is}
use Rattle.node_ops.proofs.part.Reading.permutation.Goals as goal

pub returns : goal.returns
unfolding sorted_slots
returns c =
    let reading = c.args.self.now in
    let e = c.sort_order-order.ensures in
    c.permutation_of.ensures.exact
    ∙ ap permutation_words (order_is reading.entries reading.bitmap reading.call.view.layout.slots (listed c.sort_order-order.result)
    (subst (λ n. IsPermutation (live_slots reading.bitmap n) (listed c.sort_order-order.result)) c.slots-slots.ensures e.live) e.rising)
