use Rattle.std.proofs.Common.{ℕ, ap, sym, refl, ◌∙◌}
use Rattle.pm_words.specs.declared.action.Action.TheVariants.{Load}
use Rattle.pm_words.specs.declared.machine.Turn.TheVariants.{Done}
use Rattle.machine_runs.proofs.Inside.{same_bursts}
use Rattle.tree_row.specs.tree_law.specs.FloorWalks.{node_told}
use Rattle.tree_floor.specs.declared.floor.FloorAt.TheVariants as at
use Rattle.tree_floor.proofs.FloorReading.{stands_is, stands_can, cached_load, load_bursts, at_may, at_bursts, at_key, first_loads}
use Rattle.tree_floor.proofs.FloorReading.{root_address, leaf_within, leaf_bursts}
use Rattle.tree_floor.proofs.floor.Floor.reads.Goals as goal

pub cached-requires-clause-layout : goal.cached-requires-clause-layout
cached-requires-clause-layout g c =
    (stands_is c.args.memory.now c.args.self.now c.in-Root.is c.requires).layout

pub act-reference-requires : goal.act-reference-requires
act-reference-requires g c =
    stands_can c.args.memory.now c.args.self.now c.in-Root.is c.requires
    (ap (λ (a : ℕ). Load a)
    (root_address c.args.self.now.layout c.cached.result c.cached.ensures.address))

pub enters-requires : goal.enters-requires
enters-requires g c =
    (stands_is c.args.memory.now c.args.self.now c.in-Root.is c.requires).layout

pub leaf_word-requires : goal.leaf_word-requires
leaf_word-requires g c =
    let is = stands_is c.args.memory.now c.args.self.now (at_key c.in-Key-default-default-eq0.is c.in-Key-default-default-eq0.word-is c.in-Key-default-default-eq0.word-test) c.requires in
    record { layout = is.layout; range = first_loads c.args.self.now (at.Key c.in-Key-default-default-eq0.leaf c.in-Key-default-default-eq0.words 0) is }

pub loads_key-key-requires-clause-layout : goal.loads_key-key-requires-clause-layout
loads_key-key-requires-clause-layout g c =
    (stands_is c.args.memory.now c.args.self.now (at_key c.in-Key-default-default-eq0.is c.in-Key-default-default-eq0.word-is c.in-Key-default-default-eq0.word-test) c.requires).layout

pub loads_key-key-requires-clause-within : goal.loads_key-key-requires-clause-within
loads_key-key-requires-clause-within g c =
    leaf_within c.args.self.now c.in-Key-default-default-eq0.leaf c.in-Key-default-default-eq0.words c.leaf_word.result
    c.leaf_word.ensures.word
    (at_may c.args.memory.now c.args.self.now (at_key c.in-Key-default-default-eq0.is c.in-Key-default-default-eq0.word-is c.in-Key-default-default-eq0.word-test) c.requires)

pub has_key-requires : goal.has_key-requires
has_key-requires g c =
    (stands_is c.args.memory.now c.args.self.now (at_key c.in-Key-default-default-eq0.is c.in-Key-default-default-eq0.word-is c.in-Key-default-default-eq0.word-test) c.requires).layout

pub leaf_word-word-requires : goal.leaf_word-word-requires
leaf_word-word-requires g c =
    let is = stands_is c.args.memory.now c.args.self.now c.in-Node.is c.requires in
    record { layout = is.layout; range = first_loads c.args.self.now (at.Node c.in-Node.leaf) is }

pub cached-requires-in-Node-clause-layout : goal.cached-requires-in-Node-clause-layout
cached-requires-in-Node-clause-layout g c =
    (stands_is c.args.memory.now c.args.self.now c.in-Node.is c.requires).layout

pub act-got-requires : goal.act-got-requires
act-got-requires g c =
    stands_can c.args.memory.now c.args.self.now c.in-Node.is c.requires
    (cached_load c.args.self.now.layout c.cached-in-Node.ensures.address c.leaf_word-word.ensures.word)

pub returns-in-Root : goal.returns-in-Root
returns-in-Root g c =
    at_bursts c.args.self.now c.in-Root.is
    (same_bursts refl
    (load_bursts c.args.self.now at.Root (at_may c.args.memory.now c.args.self.now c.in-Root.is c.requires)
    (ap (λ (a : ℕ). Load a)
    (root_address c.args.self.now.layout c.cached.result c.cached.ensures.address))
    c.act-reference.ensures.row c.act-reference.ensures.got c.act-reference.ensures.tick)
    c.enters.ensures)

pub returns-in-Key-default-default-eq0 : goal.returns-in-Key-default-default-eq0
returns-in-Key-default-default-eq0 g c =
    at_bursts c.args.self.now (at_key c.in-Key-default-default-eq0.is c.in-Key-default-default-eq0.word-is c.in-Key-default-default-eq0.word-test)
    (same_bursts refl
    (leaf_bursts c.args.self.now c.in-Key-default-default-eq0.leaf c.in-Key-default-default-eq0.words c.leaf_word.result
    c.leaf_word.ensures.word
    (at_may c.args.memory.now c.args.self.now (at_key c.in-Key-default-default-eq0.is c.in-Key-default-default-eq0.word-is c.in-Key-default-default-eq0.word-test) c.requires)
    c.loads_key-key.ensures.row c.loads_key-key.ensures.key c.loads_key-key.ensures.steps)
    c.has_key.ensures)

pub returns-in-Node : goal.returns-in-Node
returns-in-Node g c =
    at_bursts c.args.self.now c.in-Node.is
    (same_bursts refl
    (load_bursts c.args.self.now (at.Node c.in-Node.leaf) (at_may c.args.memory.now c.args.self.now c.in-Node.is c.requires)
    (cached_load c.args.self.now.layout c.cached-in-Node.ensures.address c.leaf_word-word.ensures.word)
    c.act-got.ensures.row c.act-got.ensures.got c.act-got.ensures.tick)
    (ap (λ (n : ℕ). Done n)
    (ap (λ (n : ℕ). node_told n c.act-got.result) (sym c.nodes.ensures) ∙ sym c.node_told.ensures)))
