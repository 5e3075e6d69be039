use Rattle.machine_runs.specs.Runs.{IsOnRun}
use Rattle.node_ops.specs.FillSteps.{fill_asks, fill_turned, fill_left}
use Rattle.node_ops.proofs.fill.Fill.run.Given as goal

abbrev pub invariant-turns : goal.invariant-turns
invariant-turns g l = IsOnRun fill_asks fill_turned fill_left l.fn.memory l.memory l.fn.self l.self l.fn.steps l.steps

abbrev pub decreases-turns : goal.decreases-turns
decreases-turns g l = fill_left l.self
