use Rattle.machine_runs.specs.Runs.{IsOnRun}
use Rattle.updater.specs.Works.{work_asks, work_left, work_turned}
use Rattle.updater.proofs.work.Work.passes_status.Given as goal

abbrev pub invariant-nodes : goal.invariant-nodes
invariant-nodes g l =
    IsOnRun work_asks work_turned work_left l.fn.memory l.memory l.fn.self l.self l.fn.steps l.steps

abbrev pub decreases-nodes : goal.decreases-nodes
decreases-nodes g l = work_left l.self
