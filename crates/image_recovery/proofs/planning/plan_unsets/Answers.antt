use Rattle.std.proofs.Common.{arith}
use Rattle.image_recovery.proofs.PlanLemmas.{all_unset}
use Rattle.image_recovery.proofs.planning.plan_unsets.Goals as goal

pub returns : goal.returns
returns c =
    let count = c.line_count-line-end.ensures.count in
    all_unset c.args.image.now c.loop-line.line c.loop-line.moves.items (omega arith) c.loop-line.invariant
