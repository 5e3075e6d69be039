use Rattle.std.proofs.Common.{ap, refl}
use Rattle.data_list.specs.declared.walk.Walk.{Walk}
use Rattle.node_ops.proofs.Targets.{arrives_free, arrives_looks, arrives_then, arrives_view, walk_looks, walk_may}
use Rattle.node_ops.proofs.lookup.Lookup.walks.Goals as goal

pub comes-requires-clause-begins : goal.comes-requires-clause-begins
comes-requires-clause-begins g c = ap (λ (w : Walk). w.at) c.new-walk.ensures.new

pub comes-requires-clause-may : goal.comes-requires-clause-may
comes-requires-clause-may g c =
    walk_may c.args.self.now.call c.new-walk.ensures.new {old = c.args.memory.now} c.requires.may

pub works-requires-clause-known : goal.works-requires-clause-known
works-requires-clause-known g c =
    (arrives_free c.args.self.now.call c.new-walk.ensures.new c.requires.may c.in-Ok.ensures).known

pub works-requires-clause-free : goal.works-requires-clause-free
works-requires-clause-free g c =
    (arrives_free c.args.self.now.call c.new-walk.ensures.new c.requires.may c.in-Ok.ensures).free

pub works-requires-clause-in_range : goal.works-requires-clause-in_range
works-requires-clause-in_range g c =
    (arrives_view c.args.self.now.call c.new-walk.ensures.new c.requires.may c.in-Ok.ensures).generation

pub works-requires-clause-may : goal.works-requires-clause-may
works-requires-clause-may g c =
    arrives_then c.args.self.now.call c.new-walk.ensures.new c.requires.may c.in-Ok.ensures c.node.ensures
    c.hops.ensures

pub returns-in-Err : goal.returns-in-Err
returns-in-Err g c =
    walk_looks c.args.self.now.call c.new-walk.ensures.new c.requires.may refl c.in-Err.ensures (refl, refl, refl, refl)

pub returns-in-Ok : goal.returns-in-Ok
returns-in-Ok g c =
    arrives_looks c.args.self.now.call c.new-walk.ensures.new c.requires.may c.in-Ok.ensures c.node.ensures
    c.hops.ensures c.works.ensures
