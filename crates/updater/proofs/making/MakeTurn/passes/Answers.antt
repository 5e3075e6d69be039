use Rattle.machine_runs.proofs.Running.{run_begins}
use Rattle.updater.proofs.Passing.{work_may, work_runs}
use Rattle.updater.proofs.making.MakeTurn.passes.Goals as goal

pub passes-requires : goal.passes-requires
passes-requires g c = work_may c.in-Working.is c.requires

pub returns-in-Working : goal.returns-in-Working
returns-in-Working g c = work_runs c.in-Working.is c.requires c.passes.ensures

pub returns-in_default : goal.returns-in_default
returns-in_default g c = run_begins c.args.memory.now c.args.self.now c.args.steps.now
