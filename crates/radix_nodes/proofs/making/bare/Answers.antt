use Rattle.std.proofs.Common.{◌≡◌, suc, ◌+◌, slice_set, ap, ◌∙◌, arith}
use Rattle.radix_nodes.specs.Cells.{words_of}
use Rattle.radix_nodes.specs.Making.{copied}
use Rattle.radix_nodes.proofs.making.bare.Goals as goal

pub loop-at-preserved : goal.loop-at-preserved
loop-at-preserved c =
    let cell = c.args.cell.now in
    let at = c.loop-at.at in
    ap (λ w. slice_set w at (words_of cell at)) c.loop-at.invariant ∙ ap (copied (words_of cell)) (let next : suc at ≡ at + 1 = omega arith in next)

pub returns : goal.returns
returns c =
    let last : c.loop-at.at ≡ 4 = omega arith in
    let made : c.loop-at.words ≡ copied (words_of c.args.cell.now) 4 = c.loop-at.invariant ∙ ap (copied (words_of c.args.cell.now)) last in
    λ i. record { kind = c.args.kind; words = made i }
