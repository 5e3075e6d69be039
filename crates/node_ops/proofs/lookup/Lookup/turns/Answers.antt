use Rattle.machine_runs.specs.Runs.{begins}
use Rattle.machine_runs.proofs.Running.{run_begins, run_ends, run_takes}
use Rattle.node_ops.specs.LookupSteps.{lookup_takes}
use Rattle.node_ops.proofs.Bursting.{lookup_adds_nothing}
use Rattle.node_ops.proofs.Leading.{look_can}
use Rattle.node_ops.proofs.lookup.Lookup.turns.Goals as goal

pub action-requires : goal.action-requires
action-requires g c = (c.requires _ _ _ begins).1.0

pub act-got-requires : goal.act-got-requires
act-got-requires g c = look_can c.args.self.now c.requires c.action.ensures

pub advance-requires : goal.advance-requires
advance-requires g c =
    run_takes lookup_takes c.requires (run_begins c.args.memory.now c.args.self.now c.args.steps.now) c.action.ensures
    c.act-got.ensures.got

pub returns : goal.returns
unfolding run_ends
returns g c = record {
  burst = run_ends (run_begins c.args.memory.now c.args.self.now c.args.steps.now)
      (lookup_adds_nothing c.args.self.now) c.action.ensures c.act-got.ensures.row c.act-got.ensures.got
      c.act-got.ensures.tick c.advance.ensures.fewer c.advance.ensures.turned;
  call = c.advance.ensures.call;
}
