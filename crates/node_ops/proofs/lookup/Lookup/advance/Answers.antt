use Rattle.std.proofs.Common.{ap, subst}
use Rattle.node_ops.specs.declared.lookup.LookupAt.{LookupAt}
use Rattle.node_ops.specs.LookupSteps.{IsLookupAt, lookup_at_turned}
use Rattle.node_ops.proofs.Measures.{floor_goes_below, floor_ends_within, name_goes_below}
use Rattle.node_ops.proofs.lookup.Lookup.advance.Goals as goal

pub returns-in-Name-clause-fewer : goal.returns-in-Name-clause-fewer
returns-in-Name-clause-fewer c =
    let call = c.args.self.now.call in
    let here = subst (IsLookupAt call) c.in-Name.is c.requires.0.here in
    name_goes_below call c.args.self.now.at c.in-Name.hold c.in-Name.directory c.in-Name.left c.in-Name.slot c.in-Name.at c.args.got _ c.in-Name.is
    (ap (λ (at : LookupAt). lookup_at_turned call at c.args.got) c.in-Name.is) c.requires.0.call.view.layout.slots.1 here.2 here.3

pub returns-in_err-node-in-Floor-clause-fewer : goal.returns-in_err-node-in-Floor-clause-fewer
returns-in_err-node-in-Floor-clause-fewer c =
    floor_goes_below c.args.self.now.call c.args.self.now.at c.in-Floor.floor c.args.got c.in-Floor.is c.requires.0.here c.requires.1.fits

pub floored-requires-clause-node : goal.floored-requires-clause-node
floored-requires-clause-node c =
    floor_ends_within c.args.self.now.call c.args.self.now.at c.in-Floor.floor c.args.got c.in_ok-node-in-Floor.node c.in-Floor.is c.requires.0.here c.requires.1.fits c.in_ok-node-in-Floor.ensures
