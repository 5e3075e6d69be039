use Rattle.std.proofs.Common.{rules, inl, inr, subst, sym, arith}
use Rattle.std.proofs.lemmas.Bool.{cases_eq, false≢true}
use Rattle.image_layer_rules.specs.Checks.{IsRightChild}
use Rattle.image_layer_rules.proofs.cell.has_wrong_child.Goals as goal

pub loop-byte-preserved : goal.loop-byte-preserved
loop-byte-preserved c b lt =
    let l = c.args.image.now.layout in
    let image = c.args.image.now.words in
    let right : IsRightChild l image c.args.reference c.loop-byte.byte = c.is_right_child.ensures.0 (search rules) in
    elim (cases_eq b c.loop-byte.byte) [
      | inl same ↦ subst (IsRightChild l image c.args.reference) (sym same) right
      | inr apart ↦ c.loop-byte.invariant b (omega (arith, apart))
    ]

pub returns : goal.returns
returns c = (
  λ yes. absurd (false≢true yes),
  λ wrong. let within = wrong.1 in absurd (wrong.2 (c.loop-byte.invariant wrong.0 (omega arith))),
)
