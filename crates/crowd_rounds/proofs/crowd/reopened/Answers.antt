use Rattle.std.proofs.Common.{arith}
use Rattle.crowd_rounds.proofs.CrashedCrowds.{told-joined}
use Rattle.crowd_rounds.proofs.crowd.reopened.Goals as goal

pub returns : goal.returns
returns c = told-joined c.args.met c.in_ok-core.core c.args.records c.args.writes c.names_in-names.result c.in_ok-core.ensures c.names_in-names.ensures (search arith)
