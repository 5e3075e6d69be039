use Rattle.std.proofs.Common.{sym}
use Rattle.shapes.proofs.Orders.{empty_first}
use Rattle.member_map.proofs.pairs.is_below.Goals as goal

pub returns-in-None : goal.returns-in-None
returns-in-None c = sym (rw c.in-None.is (empty_first c.args.name.now))
