use Rattle.std.proofs.Common.{ap, arith}
use Rattle.std.specs.FinMap.{len}
use Rattle.shapes.proofs.PlainMapLemmas.{len-map_of}
use Rattle.shapes.proofs.Shapes.{fresh_is_shape}
use Rattle.shapes.proofs.plain.PlainMapNameMap.has_shape.Goals as goal

-- it has no more names than there is room for
pub returns : goal.returns
returns c =
    let was = c.self.invariant in
    fresh_is_shape c.args.self.now.room 1 c.args.self.now.contents (omega arith)
    (omega (arith, was.fits, len-map_of c.self.inside.pairs.items was.differ, ap (λ m. len m.contents) c.self.view_is, ap (λ m. m.room) c.self.view_is))
