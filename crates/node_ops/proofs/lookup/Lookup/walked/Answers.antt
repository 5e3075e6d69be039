use Rattle.node_ops.proofs.Measures.{walk_goes_below}
use Rattle.node_ops.proofs.lookup.Lookup.walked.Goals as goal

pub returns-in-Some-Target-clause-fewer : goal.returns-in-Some-Target-clause-fewer
returns-in-Some-Target-clause-fewer c walk is =
    walk_goes_below c.args.self.now.call c.args.self.now.at c.in-Walk.walk walk c.args.got c.in-Walk.is is c.advance.ensures.fewer
