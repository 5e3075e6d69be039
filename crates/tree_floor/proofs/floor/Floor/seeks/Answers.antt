use Rattle.std.proofs.Common.{ap, sym, refl, arith}
use Rattle.machine_runs.proofs.Running.{run_may, burst_behind}
use Rattle.machine_runs.proofs.Inside.{same_bursts}
use Rattle.tree_row.specs.tree_law.specs.Words.{kind_of}
use Rattle.tree_floor.specs.declared.floor.FloorAt.TheVariants as at
use Rattle.tree_floor.specs.declared.scan.Scanned.{Scanned}
use Rattle.tree_floor.specs.Floors.{floor_takes, has_scanned}
use Rattle.tree_floor.proofs.FloorLoads.{scan_within}
use Rattle.tree_floor.proofs.FloorReading.{floor_is, floor_can, load_bursts, cell_address}
use Rattle.tree_floor.proofs.floor.Floor.seeks.Goals as goal

pub offset-requires : goal.offset-requires
offset-requires g c =
    let is = floor_is c.skims-scan.new.memory c.args.self.now (at.Scanning c.args.cell c.requires.0 c.args.byte c.skims-scan.result)
    (run_may floor_takes c.requires.1 (c.skims-scan.ensures c.requires.0 c.requires.1)) in
    record { scan = is.here.3; byte = is.here.2 }

pub word_of-word-requires : goal.word_of-word-requires
word_of-word-requires g c =
    let is = floor_is c.skims-scan.new.memory c.args.self.now (at.Scanning c.args.cell c.requires.0 c.args.byte c.skims-scan.result)
    (run_may floor_takes c.requires.1 (c.skims-scan.ensures c.requires.0 c.requires.1)) in
    let within = scan_within (kind_of c.args.cell) c.args.byte c.skims-scan.result is.here.2 is.here.3 in
    record { layout = is.layout; cell = is.here.0; offset = omega (arith, within, c.offset.ensures) }

pub cached-requires-clause-layout : goal.cached-requires-clause-layout
cached-requires-clause-layout g c =
    (floor_is c.args.memory.now c.args.self.now (at.Scanning c.args.cell c.requires.0 c.args.byte c.args.scan)
    c.requires.1).layout

pub act-got-requires : goal.act-got-requires
act-got-requires g c =
    floor_can c.skims-scan.new.memory c.args.self.now
    (at.Scanning c.args.cell c.requires.0 c.args.byte c.skims-scan.result)
    (run_may floor_takes c.requires.1 (c.skims-scan.ensures c.requires.0 c.requires.1))
    (cell_address c.args.self.now.layout c.args.cell _ c.offset.result c.word_of-word.result c.cached.result c.offset.ensures
    c.word_of-word.ensures.word c.cached.ensures.address)

pub told-requires : goal.told-requires
told-requires g c =
    let is = floor_is c.skims-scan.new.memory c.args.self.now (at.Scanning c.args.cell c.requires.0 c.args.byte c.skims-scan.result)
    (run_may floor_takes c.requires.1 (c.skims-scan.ensures c.requires.0 c.requires.1)) in
    record { scan = is.here.3; byte = is.here.2 }

pub returns : goal.returns
returns g c depth may =
    burst_behind (c.skims-scan.ensures depth may)
    (same_bursts refl
    (load_bursts c.args.self.now (at.Scanning c.args.cell depth c.args.byte c.skims-scan.result)
    (run_may floor_takes may (c.skims-scan.ensures depth may))
    (cell_address c.args.self.now.layout c.args.cell _ c.offset.result c.word_of-word.result c.cached.result c.offset.ensures
    c.word_of-word.ensures.word c.cached.ensures.address)
    c.act-got.ensures.row c.act-got.ensures.got c.act-got.ensures.tick)
    (ap (λ (s : Scanned). has_scanned c.args.self.now c.args.cell depth c.args.byte s) (sym c.told.ensures)))
