use Rattle.std.proofs.Common.{◌<◌, ◌≤◌, subst, arith}
use Rattle.node_ops.specs.LookupSteps.{IsLookupAt}
use Rattle.node_ops.proofs.Measures.{comparing_within}
use Rattle.node_ops.proofs.lookup.Lookup.action.Goals as goal

pub slot_word-requires-clause-slot : goal.slot_word-requires-clause-slot
slot_word-requires-clause-slot c =
    let here = subst (IsLookupAt c.args.self.now.call) c.in-Name.is c.requires.here in
    let within : c.in-Name.slot < c.args.self.now.call.view.layout.slots = comparing_within _ _ _ _ here.2 in
    let limit : c.args.self.now.call.view.layout.slots ≤ 64 = c.requires.call.view.layout.slots.1 in
    omega arith

pub address-requires-in-Name-clause-within : goal.address-requires-in-Name-clause-within
address-requires-in-Name-clause-within c =
    let here = subst (IsLookupAt c.args.self.now.call) c.in-Name.is c.requires.here in
    let within : c.in-Name.slot < c.args.self.now.call.view.layout.slots = comparing_within _ _ _ _ here.2 in
    let small : c.in-Name.at < 3 = here.3 in
    omega arith
