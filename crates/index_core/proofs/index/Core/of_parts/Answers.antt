use Rattle.std.proofs.Common.{arith}
use Rattle.index_core.proofs.Lists.{quiet-owed}
use Rattle.index_core.proofs.index.Core.of_parts.Goals as goal

pub invariant_of-result : goal.invariant_of-result
invariant_of-result c =
    let parts = c.args.parts in
    let none = quiet-owed parts.states.items c.requires.quiet.calls in
    let room = parts.history.ok.1 in
    (c.requires.index, omega arith)
