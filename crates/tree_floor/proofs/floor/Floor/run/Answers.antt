use Rattle.std.proofs.Common.{refl}
use Rattle.machine_runs.proofs.Running.{run_begins, run_may, burst_goes, burst_fewer, burst_behind}
use Rattle.tree_floor.specs.Floors.{floor_takes}
use Rattle.tree_floor.proofs.floor.Floor.run.Goals as goal

pub parts-init : goal.parts-init
parts-init g c = run_begins c.args.memory.now c.args.self.now c.args.steps.now

pub reads-requires : goal.reads-requires
reads-requires g c = run_may floor_takes c.requires c.parts.invariant

pub returns-in-Some : goal.returns-in-Some
returns-in-Some g c = burst_behind c.parts.invariant c.in-Some.ensures

pub parts-smaller : goal.parts-smaller
parts-smaller g c = burst_fewer c.in_default.ensures refl

pub parts-preserved : goal.parts-preserved
parts-preserved g c = burst_goes (burst_behind c.parts.invariant c.in_default.ensures) refl
