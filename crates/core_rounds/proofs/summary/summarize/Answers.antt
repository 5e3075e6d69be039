use Rattle.std.proofs.Common.{arith}
use Rattle.cat_history.specs.Maps.{map_of}
use Rattle.core_rounds.proofs.Summing.{pairs-sum, sum-small}
use Rattle.core_rounds.proofs.summary.summarize.Goals as goal

pub sum_of-requires : goal.sum_of-requires
sum_of-requires c =
    let small = sum-small c.args.plan.now c.args.report.now (map_of c.args.pairs.now) c.requires.round c.requires.within c.requires.few in
    let same = pairs-sum c.args.pairs.now c.requires.pairs in
    omega (arith, small, same)
