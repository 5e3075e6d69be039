use Rattle.machine_runs.specs.Runs.{IsOnRun}
use Rattle.tree_floor.specs.Floors.{floor_asks, floor_turned, floor_left}
use Rattle.tree_floor.proofs.floor.Floor.run.Given as goal

abbrev pub invariant-parts : goal.invariant-parts
invariant-parts g l =
    IsOnRun floor_asks floor_turned floor_left l.fn.memory l.memory l.fn.self l.self l.fn.steps l.steps

abbrev pub decreases-parts : goal.decreases-parts
decreases-parts g l = floor_left l.self
