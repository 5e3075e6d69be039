use Rattle.std.proofs.Common.{refl}
use Rattle.machine_runs.specs.Runs.{begins}
use Rattle.machine_runs.proofs.Running.{run_begins, run_can, run_takes, turn_bursts}
use Rattle.machine_runs.proofs.Inside.{same_bursts}
use Rattle.tree_floor.specs.declared.floor.FloorAt.TheVariants as at
use Rattle.tree_floor.specs.Floors.{floor_takes}
use Rattle.tree_floor.proofs.FloorStays.{floor_fewer}
use Rattle.tree_floor.proofs.FloorReading.{stands_is, stands_can, cached_load, load_bursts, at_may, at_bursts, at_prefix, first_loads}
use Rattle.tree_floor.proofs.FloorReading.{prefix_within, prefix_bursts}
use Rattle.tree_floor.proofs.floor.Floor.reads_cell.Goals as goal

pub word_of-word-requires : goal.word_of-word-requires
word_of-word-requires g c =
    let is = stands_is c.args.memory.now c.args.self.now c.in-Depth.is c.requires in
    record { layout = is.layout; cell = is.here; offset = (first_loads c.args.self.now (at.Depth c.in-Depth.cell) is).3 }

pub cached-requires-clause-layout : goal.cached-requires-clause-layout
cached-requires-clause-layout g c =
    (stands_is c.args.memory.now c.args.self.now c.in-Depth.is c.requires).layout

pub act-depth-requires : goal.act-depth-requires
act-depth-requires g c =
    stands_can c.args.memory.now c.args.self.now c.in-Depth.is c.requires
    (cached_load c.args.self.now.layout c.cached.ensures.address c.word_of-word.ensures.word)

pub has_depth-requires : goal.has_depth-requires
has_depth-requires g c =
    (stands_is c.args.memory.now c.args.self.now c.in-Depth.is c.requires).here

pub word_of-requires : goal.word_of-requires
word_of-requires g c =
    let is = stands_is c.args.memory.now c.args.self.now (at_prefix c.in-Prefix-default-default-default-eq0.is c.in-Prefix-default-default-default-eq0.word-is c.in-Prefix-default-default-default-eq0.word-test) c.requires in
    record { layout = is.layout; cell = is.here.0; offset = (first_loads c.args.self.now (at.Prefix c.in-Prefix-default-default-default-eq0.cell c.in-Prefix-default-default-default-eq0.depth c.in-Prefix-default-default-default-eq0.words 0) is).3 }

pub loads_key-prefix-requires-clause-layout : goal.loads_key-prefix-requires-clause-layout
loads_key-prefix-requires-clause-layout g c =
    (stands_is c.args.memory.now c.args.self.now (at_prefix c.in-Prefix-default-default-default-eq0.is c.in-Prefix-default-default-default-eq0.word-is c.in-Prefix-default-default-default-eq0.word-test) c.requires).layout

pub loads_key-prefix-requires-clause-within : goal.loads_key-prefix-requires-clause-within
loads_key-prefix-requires-clause-within g c =
    prefix_within c.args.self.now c.in-Prefix-default-default-default-eq0.cell c.in-Prefix-default-default-default-eq0.depth c.in-Prefix-default-default-default-eq0.words
    c.word_of.result c.word_of.ensures.word
    (at_may c.args.memory.now c.args.self.now (at_prefix c.in-Prefix-default-default-default-eq0.is c.in-Prefix-default-default-default-eq0.word-is c.in-Prefix-default-default-default-eq0.word-test) c.requires)

pub has_prefix-requires : goal.has_prefix-requires
has_prefix-requires g c =
    let is = stands_is c.args.memory.now c.args.self.now (at_prefix c.in-Prefix-default-default-default-eq0.is c.in-Prefix-default-default-default-eq0.word-is c.in-Prefix-default-default-default-eq0.word-test) c.requires in
    record { layout = is.layout; cell = is.here.0; depth = is.here.1.1 }

pub seeks-scanned-requires : goal.seeks-scanned-requires
seeks-scanned-requires g c =
    (c.in-Scanning.depth, at_may c.args.memory.now c.args.self.now c.in-Scanning.is c.requires)

pub has_scanned-requires : goal.has_scanned-requires
has_scanned-requires g c =
    let is = stands_is c.args.memory.now c.args.self.now c.in-Scanning.is c.requires in
    record { layout = is.layout; depth = is.here.1.1 }

pub action-requires : goal.action-requires
action-requires g c =
    ((c.requires c.args.self.now c.args.memory.now.words 0 begins).1).0

pub act-got-requires : goal.act-got-requires
act-got-requires g c =
    run_can floor_takes c.requires (run_begins c.args.memory.now c.args.self.now 0) c.action.ensures

pub advance-requires : goal.advance-requires
advance-requires g c =
    run_takes floor_takes c.requires (run_begins c.args.memory.now c.args.self.now 0) c.action.ensures
    c.act-got.ensures.got

pub returns-in-Depth : goal.returns-in-Depth
returns-in-Depth g c =
    at_bursts c.args.self.now c.in-Depth.is
    (same_bursts refl
    (load_bursts c.args.self.now (at.Depth c.in-Depth.cell) (at_may c.args.memory.now c.args.self.now c.in-Depth.is c.requires)
    (cached_load c.args.self.now.layout c.cached.ensures.address c.word_of-word.ensures.word)
    c.act-depth.ensures.row c.act-depth.ensures.got c.act-depth.ensures.tick)
    c.has_depth.ensures)

pub returns-in-Prefix-default-default-default-eq0 : goal.returns-in-Prefix-default-default-default-eq0
returns-in-Prefix-default-default-default-eq0 g c =
    at_bursts c.args.self.now (at_prefix c.in-Prefix-default-default-default-eq0.is c.in-Prefix-default-default-default-eq0.word-is c.in-Prefix-default-default-default-eq0.word-test)
    (same_bursts refl
    (prefix_bursts c.args.self.now c.in-Prefix-default-default-default-eq0.cell c.in-Prefix-default-default-default-eq0.depth c.in-Prefix-default-default-default-eq0.words
    c.word_of.result c.word_of.ensures.word
    (at_may c.args.memory.now c.args.self.now (at_prefix c.in-Prefix-default-default-default-eq0.is c.in-Prefix-default-default-default-eq0.word-is c.in-Prefix-default-default-default-eq0.word-test) c.requires)
    c.loads_key-prefix.ensures.row c.loads_key-prefix.ensures.key c.loads_key-prefix.ensures.steps)
    c.has_prefix.ensures)

pub returns-in-Scanning : goal.returns-in-Scanning
returns-in-Scanning g c =
    at_bursts c.args.self.now c.in-Scanning.is
    (same_bursts refl
    (c.seeks-scanned.ensures c.in-Scanning.depth (at_may c.args.memory.now c.args.self.now c.in-Scanning.is c.requires))
    c.has_scanned.ensures)

pub returns-in_default : goal.returns-in_default
returns-in_default g c =
    same_bursts refl
    (turn_bursts floor_takes (λ f. tt) floor_fewer c.args.self.now c.requires c.action.ensures c.act-got.ensures.row
    c.act-got.ensures.got c.act-got.ensures.tick) c.advance.ensures
