use Rattle.std.proofs.Common.{ℕ, ap, subst, arith}
use Rattle.pm_words.specs.declared.action.Action.TheVariants.{Load}
use Rattle.machine_runs.proofs.Running.{run_begins, run_goes, run_may, run_takes}
use Rattle.tree_row.specs.tree_law.specs.Words.{kind_of}
use Rattle.tree_floor.specs.declared.floor.FloorAt.TheVariants as at
use Rattle.tree_floor.specs.declared.scan.Scan.{Scan}
use Rattle.tree_floor.specs.declared.scan.Scan.TheVariants as scan
use Rattle.tree_floor.specs.Scans.{IsScan}
use Rattle.tree_floor.specs.Floors.{floor_takes}
use Rattle.tree_floor.specs.FloorRuns.{Skims}
use Rattle.tree_floor.proofs.FloorStays.{floor_fewer}
use Rattle.tree_floor.proofs.FloorLoads.{scan_within}
use Rattle.tree_floor.proofs.FloorReading.{floor_is, floor_can, entries_few, image_small, more_entries, entry_address}
use Rattle.tree_floor.proofs.FloorReading.{entry_within}
use Rattle.tree_floor.proofs.floor.Floor.skims.Goals as goal

pub returns-in_default : goal.returns-in_default
returns-in_default g c depth may =
    run_begins c.args.memory.now (record c.args.self.now {
      at = at.Scanning c.args.cell depth c.args.byte c.args.scan;
    }) c.args.steps.now

pub word_of-first-requires : goal.word_of-first-requires
word_of-first-requires g c =
    let is = floor_is c.args.memory.now c.args.self.now (at.Scanning c.args.cell c.requires.0 c.args.byte c.args.scan) c.requires.1 in
    let within =
    scan_within (kind_of c.args.cell) c.args.byte (scan.Entry c.in-Entry.entry c.in-Entry.child c.in-Entry.below)
    is.here.2 (subst (IsScan (kind_of c.args.cell) c.args.byte) c.in-Entry.is is.here.3) in
    record { layout = is.layout; cell = is.here.0; offset = omega (arith, within, c.first_entry.ensures) }

pub entries-init : goal.entries-init
entries-init g c depth may =
    subst (λ (s : Scan). Skims c.args.memory.now c.args.memory.now c.args.self.now c.args.cell depth c.args.byte
    c.args.scan s c.args.steps.now c.args.steps.now) c.in-Entry.is
    (run_begins c.args.memory.now (record c.args.self.now {
      at = at.Scanning c.args.cell depth c.args.byte c.args.scan;
    }) c.args.steps.now)

pub overflow_add-entry : goal.overflow_add-entry
overflow_add-entry g c =
    let here =
    (floor_is c.entries.memory c.args.self.now
    (at.Scanning c.args.cell c.requires.0 c.args.byte (scan.Entry c.entries.entry c.entries.child c.entries.below))
    (run_may floor_takes c.requires.1 (c.entries.invariant c.requires.0 c.requires.1))).here in
    let few = entries_few (kind_of c.args.cell) here.3.0 in
    let less = here.3.1 in
    omega (arith, few, less)

pub overflow_add-first : goal.overflow_add-first
overflow_add-first g c =
    let is =
    floor_is c.entries.memory c.args.self.now
    (at.Scanning c.args.cell c.requires.0 c.args.byte (scan.Entry c.entries.entry c.entries.child c.entries.below))
    (run_may floor_takes c.requires.1 (c.entries.invariant c.requires.0 c.requires.1)) in
    let within =
    entry_within c.args.self.now c.args.cell c.requires.0 c.args.byte c.entries.entry c.entries.child c.entries.below
    c.first_entry.result c.word_of-first.result is c.first_entry.ensures c.word_of-first.ensures.word in
    let small = image_small c.args.self.now.layout is.layout in
    omega (arith, within, small)

pub cached-requires-clause-layout : goal.cached-requires-clause-layout
cached-requires-clause-layout g c =
    (floor_is c.args.memory.now c.args.self.now (at.Scanning c.args.cell c.requires.0 c.args.byte c.args.scan)
    c.requires.1).layout

pub cached-requires-clause-range : goal.cached-requires-clause-range
cached-requires-clause-range g c =
    entry_within c.args.self.now c.args.cell c.requires.0 c.args.byte c.entries.entry c.entries.child c.entries.below
    c.first_entry.result c.word_of-first.result
    (floor_is c.entries.memory c.args.self.now
    (at.Scanning c.args.cell c.requires.0 c.args.byte (scan.Entry c.entries.entry c.entries.child c.entries.below))
    (run_may floor_takes c.requires.1 (c.entries.invariant c.requires.0 c.requires.1)))
    c.first_entry.ensures c.word_of-first.ensures.word

pub act-got-requires : goal.act-got-requires
act-got-requires g c =
    floor_can c.entries.memory c.args.self.now
    (at.Scanning c.args.cell c.requires.0 c.args.byte (scan.Entry c.entries.entry c.entries.child c.entries.below))
    (run_may floor_takes c.requires.1 (c.entries.invariant c.requires.0 c.requires.1))
    (ap (λ (a : ℕ). Load a)
    (entry_address c.args.self.now.layout c.args.cell c.entries.entry c.first_entry.result c.word_of-first.result
    c.cached.result c.first_entry.ensures c.word_of-first.ensures.word c.cached.ensures.address))

pub entries-smaller : goal.entries-smaller
entries-smaller g c = omega (arith, c.entries-test.true, c.entry_count.ensures)

pub entries-preserved : goal.entries-preserved
entries-preserved g c depth may =
    let on = c.entries.invariant depth may in
    let asked =
    ap (λ (a : ℕ). Load a)
    (entry_address c.args.self.now.layout c.args.cell c.entries.entry c.first_entry.result c.word_of-first.result
    c.cached.result c.first_entry.ensures c.word_of-first.ensures.word c.cached.ensures.address) in
    run_goes on tt asked c.act-got.ensures.row c.act-got.ensures.got c.act-got.ensures.tick
    (floor_fewer (record c.args.self.now {
      at = at.Scanning c.args.cell depth c.args.byte
          (scan.Entry c.entries.entry c.entries.child c.entries.below);
    }) c.act-got.result (run_takes floor_takes may on asked c.act-got.ensures.got))
    (more_entries c.args.self.now c.args.cell depth c.args.byte c.entries.entry c.entries.child c.entries.below
    c.act-got.result c.child_of-child.result c.better_of-below.result c.entry_count.result c.child_of-child.ensures
    c.better_of-below.ensures c.entry_count.ensures c.entries-test.true)

pub returns : goal.returns
returns g c depth may = c.entries.invariant depth may
