use Rattle.std.proofs.Common.{ℕ, ap, arith}
use Rattle.pm_words.specs.declared.action.Action.TheVariants.{Load}
use Rattle.data_list.specs.declared.walk.WalkAt.TheVariants as at
use Rattle.data_list.proofs.Arriving.{walk_is, walk_can, load_bursts}
use Rattle.data_list.proofs.walk.Walk.leads_back.Goals as goal

pub node_volatile-requires-clause-layout : goal.node_volatile-requires-clause-layout
node_volatile-requires-clause-layout g c = (walk_is c.args.memory.now c.args.self.now at.Prev c.requires).layout

pub node_volatile-requires-clause-range : goal.node_volatile-requires-clause-range
node_volatile-requires-clause-range g c =
    ((walk_is c.args.memory.now c.args.self.now at.Prev c.requires).node, omega arith)

pub act-requires : goal.act-requires
act-requires g c =
    walk_can c.args.memory.now c.args.self.now at.Prev c.requires
    (ap (λ (a : ℕ). Load a) c.node_volatile.ensures.address)

pub returns : goal.returns
returns g c =
    load_bursts c.args.self.now at.Prev c.requires (ap (λ (a : ℕ). Load a) c.node_volatile.ensures.address)
    c.act.ensures.row c.act.ensures.got c.act.ensures.tick
