use Rattle.std.proofs.Common.{◌≡◌, ◌+◌, ◌*◌}
use Rattle.machine_runs.specs.Runs.{IsOnRun}
use Rattle.node_ops.specs.FinishSteps.{finish_asks, finish_turned, finish_left}
use Rattle.node_ops.proofs.Flushing.{flushed}
use Rattle.node_ops.proofs.finish.Finish.flush.Given as goal

abbrev pub invariant-loop-word : goal.invariant-loop-word
invariant-loop-word g l =
    IsOnRun finish_asks finish_turned finish_left l.fn.memory l.memory l.fn.self (flushed l.fn.self l.fn.line l.word)
    l.fn.steps l.steps
    × (l.steps ≡ l.fn.steps + 2 * l.word)
