use Rattle.std.proofs.Common.{◌≡◌, suc, ◌+◌, ap, ◌∙◌, arith}
use Rattle.radix_nodes.specs.Cells.{words_of}
use Rattle.radix_nodes.specs.Places.{taken_in}
use Rattle.radix_nodes.specs.Making.{in_48}
use Rattle.radix_nodes.proofs.making.grown_to_48.Goals as goal

pub loop-entry-preserved : goal.loop-entry-preserved
loop-entry-preserved c =
    let cell = c.args.cell.now in
    let entry = c.loop-entry.entry in
    c.take_in.ensures ∙ ap (taken_in c.loop-entry.grown entry) c.word.ensures ∙ ap (λ g. taken_in g entry (words_of cell (8 + entry))) c.loop-entry.invariant
    ∙ ap (in_48 cell) (let next : suc entry ≡ entry + 1 = omega arith in next)

pub returns : goal.returns
returns c = c.loop-entry.invariant ∙ ap (in_48 c.args.cell.now) (let last : c.loop-entry.entry ≡ 16 = omega arith in last)
