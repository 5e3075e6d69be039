use Rattle.std.proofs.Common.{◌≡◌, ℕ, suc, ◌+◌, ap, ◌∙◌, arith}
use Rattle.radix_nodes.specs.declared.cell.CellStore.{CellStore}
use Rattle.radix_nodes.specs.Cells.{children_of}
use Rattle.radix_nodes.specs.Changes.{stored}
use Rattle.radix_nodes.specs.Making.{in_256}
use Rattle.radix_nodes.proofs.GrownCells.{whole}
use Rattle.radix_nodes.proofs.making.grown_to_256.Goals as goal

pub loop-byte-preserved : goal.loop-byte-preserved
loop-byte-preserved c =
    let cell = c.args.cell.now in
    let byte = c.loop-byte.byte in
    let store : ℕ → CellStore = λ v. record { offset = 8 + byte; value = v } in
    c.set.ensures ∙ ap (λ v. stored c.loop-byte.grown (store v)) c.child_word.ensures ∙ ap (λ g. stored g (store (children_of cell byte))) c.loop-byte.invariant
    ∙ ap (in_256 cell) (let next : suc byte ≡ byte + 1 = omega arith in next)

pub returns : goal.returns
returns c = c.loop-byte.invariant ∙ whole c.args.cell.now c.loop-byte.byte (let last : c.loop-byte.byte ≡ 256 = omega arith in last)
