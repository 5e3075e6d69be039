use Rattle.std.proofs.Common.{refl, subst}
use Rattle.machine_runs.proofs.Running.{run_begins, run_can, run_ends, run_takes}
use Rattle.machine_runs.specs.Runs.{AddsNothing}
use Rattle.machine_runs.proofs.Inside.{same_may}
use Rattle.node_ops.specs.declared.put.Put.{Put}
use Rattle.node_ops.specs.PutSteps.{put_asks, put_takes}
use Rattle.node_ops.proofs.put.Put.burst.Goals as goal

pub action-requires : goal.action-requires
action-requires g c =
    (run_takes put_takes c.requires.may (run_begins c.args.memory.now c.args.self.now c.args.steps.now) refl refl).0

pub act-got-requires : goal.act-got-requires
act-got-requires g c =
    run_can put_takes c.requires.may (run_begins c.args.memory.now c.args.self.now c.args.steps.now) c.action.ensures

pub advance-requires : goal.advance-requires
advance-requires g c =
    run_takes put_takes c.requires.may (run_begins c.args.memory.now c.args.self.now c.args.steps.now) c.action.ensures
    c.act-got.ensures.got

pub returns-in_default : goal.returns-in_default
returns-in_default g c =
    run_ends (run_begins c.args.memory.now c.args.self.now c.args.steps.now) c.requires.adds c.action.ensures
    c.act-got.ensures.row c.act-got.ensures.got c.act-got.ensures.tick c.advance.ensures.fewer c.advance.ensures.turned

pub burst-requires-clause-may : goal.burst-requires-clause-may
burst-requires-clause-may g c = same_may put_takes c.in-Single.is {old = c.args.memory.now} c.requires.may

pub burst-requires-clause-adds : goal.burst-requires-clause-adds
burst-requires-clause-adds g c = subst (λ (put : Put). AddsNothing (put_asks put)) c.in-Single.is c.requires.adds
