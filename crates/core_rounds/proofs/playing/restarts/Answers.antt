use Rattle.std.proofs.Common.{arith}
use Rattle.core_rounds.proofs.Restarting.{restarts_few}
use Rattle.core_rounds.proofs.playing.restarts.Goals as goal

-- there are no more than rounds
pub overflow_add-restarts : goal.overflow_add-restarts
overflow_add-restarts c = let few = restarts_few c.args.plans.now in omega (arith, c.loop-plan.invariant, few)
