use Rattle.std.proofs.Common.{inl, inr, ap, sym, ◌∙◌, arith}
use Rattle.std.proofs.lemmas.Bool.{cases_eq}
use Rattle.radix_nodes.specs.Cells.{children_of}
use Rattle.image_layer_rules.proofs.children.next_byte.Goals as goal

pub loop-byte-preserved : goal.loop-byte-preserved
loop-byte-preserved c b le lt = elim (cases_eq b c.loop-byte.byte) [
  | inl same ↦ ap (children_of c.args.cell.now) same ∙ sym c.child_of.ensures ∙ c.if-child_of-ne0.false
  | inr apart ↦ c.loop-byte.invariant b le (omega (arith, apart))
]
