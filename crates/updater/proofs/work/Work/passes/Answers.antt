use Rattle.machine_runs.proofs.Running.{run_begins}
use Rattle.updater.proofs.work.Work.passes.Goals as goal

pub returns-in_default : goal.returns-in_default
returns-in_default g c = run_begins c.args.memory.now c.args.self.now c.args.steps.now
