use Rattle.std.proofs.Common.{◌≡◌, ℕ, suc, ◌+◌, ap, ◌∙◌, arith}
use Rattle.radix_nodes.specs.declared.cell.CellStore.{CellStore}
use Rattle.radix_nodes.specs.Cells.{words_of}
use Rattle.radix_nodes.specs.Changes.{stored}
use Rattle.radix_nodes.specs.Making.{in_16}
use Rattle.radix_nodes.proofs.making.grown_to_16.Goals as goal

pub loop-entry-preserved : goal.loop-entry-preserved
loop-entry-preserved c =
    let cell = c.args.cell.now in
    let entry = c.loop-entry.entry in
    let store : ℕ → CellStore = λ v. record { offset = 8 + entry; value = v } in
    c.set.ensures ∙ ap (λ v. stored c.loop-entry.grown (store v)) c.word.ensures ∙ ap (λ g. stored g (store (words_of cell (4 + entry)))) c.loop-entry.invariant
    ∙ ap (in_16 cell) (let next : suc entry ≡ entry + 1 = omega arith in next)

pub returns : goal.returns
returns c = c.loop-entry.invariant ∙ ap (in_16 c.args.cell.now) (let last : c.loop-entry.entry ≡ 4 = omega arith in last)
