use Rattle.std.proofs.Common.{arith}
use Rattle.std.proofs.lemmas.List.FromFn.{fill_by_all}
use Rattle.data_node.specs.Orders.{listed}
use Rattle.split_merge.specs.Plans.{moved_at, moved_of}
use Rattle.split_merge.proofs.planning.upper_in.Goals as goal

pub returns : goal.returns
unfolding moved_of
returns c =
    let all = c.loop-slot.invariant in
    let end = c.loop-slot-test.false in
    fill_by_all (moved_at (listed c.args.order.now) c.args.half) c.loop-slot.moved 32 0 all.0 (λ k below. all.1 k (omega arith))
