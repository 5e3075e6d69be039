use Rattle.std.proofs.Common.{ap, arith}
use Rattle.std.specs.FinMap.{len}
use Rattle.cat_history.specs.Maps.{map_of}
use Rattle.member_map.proofs.OrderedPairs.{many-pairs}
use Rattle.member_map.proofs.map.MemberMapNameMap.len.Goals as goal

pub returns : goal.returns
returns c =
    let pairs = c.self.inside.pairs in
    omega (arith, pairs.ok.0, c.len.ensures, many-pairs (map_of pairs.items) pairs.items c.self.invariant.0.in_order, ap (λ m. len m.contents) c.self.view_is)
