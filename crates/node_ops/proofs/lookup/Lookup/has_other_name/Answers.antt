use Rattle.std.proofs.Common.{◌<◌, ◌≤◌, subst, arith}
use Rattle.node_ops.specs.LookupSteps.{IsLookupAt}
use Rattle.node_ops.proofs.Measures.{comparing_within}
use Rattle.node_ops.proofs.lookup.Lookup.has_other_name.Goals as goal

pub without_live-left-requires : goal.without_live-left-requires
without_live-left-requires c =
    let call = c.args.self.now.call in
    let here = subst (IsLookupAt call) c.in-Name.is c.requires.here.here in
    let within : c.in-Name.slot < call.view.layout.slots = comparing_within _ _ _ _ here.2 in
    let limit : call.view.layout.slots ≤ 64 = c.requires.here.call.view.layout.slots.1 in
    omega arith
