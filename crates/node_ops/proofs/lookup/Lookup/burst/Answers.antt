use Rattle.node_ops.proofs.Targets.{floor_layout, floor_looks, floor_may, floor_node, floor_then, look_at, looked_at}
use Rattle.node_ops.proofs.lookup.Lookup.burst.Goals as goal

pub run-node-requires : goal.run-node-requires
run-node-requires g c =
    floor_may c.args.self.now.call c.in-Floor.floor {old = c.args.memory.now}
    (look_at c.args.self.now c.in-Floor.is c.requires)

pub walks-requires-clause-layout : goal.walks-requires-clause-layout
walks-requires-clause-layout g c =
    floor_layout c.args.self.now.call c.in-Floor.floor (look_at c.args.self.now c.in-Floor.is c.requires)
    c.run-node.ensures

pub walks-requires-clause-node : goal.walks-requires-clause-node
walks-requires-clause-node g c =
    floor_node c.args.self.now.call c.in-Floor.floor (look_at c.args.self.now c.in-Floor.is c.requires)
    c.run-node.ensures

pub walks-requires-clause-may : goal.walks-requires-clause-may
walks-requires-clause-may g c =
    floor_then c.args.self.now.call c.in-Floor.floor (look_at c.args.self.now c.in-Floor.is c.requires)
    c.run-node.ensures

pub returns : goal.returns
returns g c =
    looked_at c.args.self.now c.walks.new.self c.in-Floor.is
    (floor_looks c.args.self.now.call c.in-Floor.floor (look_at c.args.self.now c.in-Floor.is c.requires)
    c.run-node.ensures c.walks.ensures)
