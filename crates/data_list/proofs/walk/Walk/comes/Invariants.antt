use Rattle.machine_runs.specs.Runs.{IsOnRun}
use Rattle.data_list.specs.declared.walk.WalkAt.TheVariants as at
use Rattle.data_list.specs.Walks.{walk_asks, walk_turned, walk_left}
use Rattle.data_list.proofs.walk.Walk.comes.Given as goal

abbrev pub invariant-hops : goal.invariant-hops
invariant-hops g l =
    IsOnRun walk_asks walk_turned walk_left l.fn.memory l.memory l.fn.self (record l.self { at = at.Version })
    l.fn.steps l.steps

abbrev pub decreases-hops : goal.decreases-hops
decreases-hops g l = walk_left (record l.self { at = at.Version })
