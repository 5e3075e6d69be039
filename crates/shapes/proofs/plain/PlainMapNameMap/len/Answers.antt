use Rattle.std.proofs.Common.{ap, arith}
use Rattle.std.specs.FinMap.{len}
use Rattle.shapes.proofs.PlainMapLemmas.{len-map_of}
use Rattle.shapes.proofs.plain.PlainMapNameMap.len.Goals as goal

pub returns : goal.returns
returns c =
    let pairs = c.self.inside.pairs in
    omega (arith, pairs.ok.0, c.len.ensures, len-map_of pairs.items c.self.invariant.differ, ap (λ m. len m.contents) c.self.view_is)
