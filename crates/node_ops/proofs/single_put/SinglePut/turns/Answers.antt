use Rattle.std.proofs.Common.{refl}
use Rattle.machine_runs.proofs.Running.{run_begins, run_can, run_ends, run_takes}
use Rattle.node_ops.specs.declared.put.Put.TheVariants.{Single}
use Rattle.node_ops.specs.PutSteps.{put_takes, put_turned}
use Rattle.node_ops.proofs.single_put.SinglePut.turns.Goals as goal

pub action-requires : goal.action-requires
action-requires g c =
    (run_takes put_takes c.requires.may (run_begins c.args.memory.now (Single c.args.self.now) c.args.steps.now)
    refl refl).0

pub act-got-requires : goal.act-got-requires
act-got-requires g c =
    run_can put_takes c.requires.may (run_begins c.args.memory.now (Single c.args.self.now) c.args.steps.now)
    c.action.ensures

pub advance-requires : goal.advance-requires
advance-requires g c =
    run_takes put_takes c.requires.may (run_begins c.args.memory.now (Single c.args.self.now) c.args.steps.now)
    c.action.ensures c.act-got.ensures.got

pub returns : goal.returns
returns g c = record {
  end = put_turned (Single c.args.self.now) c.act-got.result;
  burst = run_ends (run_begins c.args.memory.now (Single c.args.self.now) c.args.steps.now) c.requires.adds
      c.action.ensures c.act-got.ensures.row c.act-got.ensures.got c.act-got.ensures.tick c.advance.ensures.fewer refl;
  turns = c.advance.ensures.turned;
}
