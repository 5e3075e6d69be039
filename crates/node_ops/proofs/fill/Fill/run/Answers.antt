use Rattle.std.proofs.Common.{refl}
use Rattle.machine_runs.proofs.Running.{run_begins, run_can, run_goes, run_takes, turn_fewer}
use Rattle.node_ops.specs.FillSteps.{fill_left, fill_takes}
use Rattle.node_ops.proofs.CallBursts.{fill_adds_nothing}
use Rattle.node_ops.proofs.fill.Fill.run.Goals as goal

pub turns-init : goal.turns-init
turns-init g c = run_begins c.args.memory.now c.args.self.now c.args.steps.now

pub action-requires : goal.action-requires
action-requires g c = (run_takes fill_takes c.requires c.turns.invariant refl refl).0

pub act-got-requires : goal.act-got-requires
act-got-requires g c = run_can fill_takes c.requires c.turns.invariant c.action.ensures

pub advance-requires : goal.advance-requires
advance-requires g c = run_takes fill_takes c.requires c.turns.invariant c.action.ensures c.act-got.ensures.got

pub turns-smaller : goal.turns-smaller
turns-smaller g c = turn_fewer fill_left _ c.if-advance.ensures.fewer c.if-advance.ensures.turned

pub turns-preserved : goal.turns-preserved
turns-preserved g c =
    run_goes c.turns.invariant (fill_adds_nothing c.turns.self) c.action.ensures c.act-got.ensures.row
    c.act-got.ensures.got c.act-got.ensures.tick c.if-advance.ensures.fewer c.if-advance.ensures.turned
