use Rattle.std.proofs.Common.{rules}
use Rattle.tree_look.proofs.DepthLaw.{shared_is}
use Rattle.tree_look.proofs.look.shared.Goals as goal

pub returns : goal.returns
returns c = shared_is c.args.one c.args.other (record { whole = search rules; fits = search rules }) (record { whole = search rules; fits = search rules }) c.shared_bytes.result c.shared_bytes.ensures
