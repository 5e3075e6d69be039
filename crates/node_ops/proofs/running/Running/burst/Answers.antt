use Rattle.std.proofs.Common.{refl, subst}
use Rattle.machine_runs.proofs.Running.{run_begins, run_can, run_ends, run_takes}
use Rattle.machine_runs.specs.Runs.{AddsNothing}
use Rattle.machine_runs.proofs.Inside.{part_may}
use Rattle.node_ops.specs.declared.running.Running.{Running}
use Rattle.node_ops.specs.declared.running.Running.TheVariants.{Getting, Putting, Deleting}
use Rattle.node_ops.specs.RunningSteps.{running_asks, running_takes}
use Rattle.node_ops.proofs.RunningBursts.{getting, putting, deleting, wrapped_bursts}
use Rattle.node_ops.proofs.running.Running.burst.Goals as goal

pub action-requires : goal.action-requires
action-requires g c =
    (run_takes running_takes c.requires.may (run_begins c.args.memory.now c.args.self.now c.args.steps.now) refl refl).0

pub act-got-requires : goal.act-got-requires
act-got-requires g c =
    run_can running_takes c.requires.may (run_begins c.args.memory.now c.args.self.now c.args.steps.now)
    c.action.ensures

pub advance-requires : goal.advance-requires
advance-requires g c =
    run_takes running_takes c.requires.may (run_begins c.args.memory.now c.args.self.now c.args.steps.now)
    c.action.ensures c.act-got.ensures.got

pub burst-requires : goal.burst-requires
burst-requires g c = part_may getting c.in-Getting.is {old = c.args.memory.now} c.requires.may

pub returns-in-Getting : goal.returns-in-Getting
returns-in-Getting g c =
    wrapped_bursts Getting getting (λ m number. refl) c.in-Getting.is c.requires.may c.burst.new.self c.burst.result
    c.burst.ensures

pub burst-requires-in-Putting-clause-may : goal.burst-requires-in-Putting-clause-may
burst-requires-in-Putting-clause-may g c = part_may putting c.in-Putting.is {old = c.args.memory.now} c.requires.may

pub burst-requires-in-Putting-clause-adds : goal.burst-requires-in-Putting-clause-adds
burst-requires-in-Putting-clause-adds g c =
    subst (λ (r : Running). AddsNothing (running_asks r)) c.in-Putting.is c.requires.adds

pub returns-in-Putting : goal.returns-in-Putting
returns-in-Putting g c =
    wrapped_bursts Putting putting (λ m number. refl) c.in-Putting.is c.requires.may c.burst-in-Putting.new.self
    c.burst-in-Putting.result c.burst-in-Putting.ensures

pub burst-requires-in-Deleting-clause-may : goal.burst-requires-in-Deleting-clause-may
burst-requires-in-Deleting-clause-may g c = part_may deleting c.in-Deleting.is {old = c.args.memory.now} c.requires.may

pub burst-requires-in-Deleting-clause-adds : goal.burst-requires-in-Deleting-clause-adds
burst-requires-in-Deleting-clause-adds g c =
    subst (λ (r : Running). AddsNothing (running_asks r)) c.in-Deleting.is c.requires.adds

pub returns-in-Deleting : goal.returns-in-Deleting
returns-in-Deleting g c =
    wrapped_bursts Deleting deleting (λ m number. refl) c.in-Deleting.is c.requires.may c.burst-in-Deleting.new.self
    c.burst-in-Deleting.result c.burst-in-Deleting.ensures

pub returns-in-Parting : goal.returns-in-Parting
returns-in-Parting g c =
    run_ends (run_begins c.args.memory.now c.args.self.now c.args.steps.now) c.requires.adds c.action.ensures
    c.act-got.ensures.row c.act-got.ensures.got c.act-got.ensures.tick c.advance.ensures.fewer c.advance.ensures.turned
