use Rattle.std.proofs.Common.{arith}
use Rattle.image_recovery.proofs.PlanLemmas.{all_set}
use Rattle.image_recovery.proofs.planning.plan_sets.Goals as goal

pub returns : goal.returns
returns c =
    let count = c.line_count-line-end.ensures.count in
    all_set c.args.image.now c.loop-line.line c.loop-line.moves.items (omega arith) c.loop-line.invariant
