use Rattle.std.proofs.Common.{◌+◌, ◌-◌, ◌*◌, ◌/◌, ◌%◌, ◌^◌, ◌<◌, sym, ap, ◌∙◌, subst, arith}
use Rattle.radix_nodes.proofs.Powers.{powers, set_fits}
use Rattle.radix_nodes.proofs.cell.byte_set.Goals as goal

pub overflow_mul-result : goal.overflow_mul-result
overflow_mul-result c =
    let fits = set_fits c.args.word c.args.at c.args.byte c.requires.at (omega arith) c.requires.byte in
    let small : c.args.byte * c.unit-unit.result < 2 ^ 64 = subst (λ p. c.args.byte * p < 2 ^ 64) (sym c.unit-unit.ensures) fits.new in
    omega (arith, small)

pub overflow_add-result : goal.overflow_add-result
overflow_add-result c =
    let fits = set_fits c.args.word c.args.at c.args.byte c.requires.at (omega arith) c.requires.byte in
    let small : c.args.word - (c.args.word / c.unit-unit.result % 256) * c.unit-unit.result + c.args.byte * c.unit-unit.result < 2 ^ 64 =
    subst (λ p. c.args.word - (c.args.word / p % 256) * p + c.args.byte * p < 2 ^ 64) (sym c.unit-unit.ensures) fits.all in
    omega (arith, small)

pub returns : goal.returns
returns c = ap (λ p. c.args.word - (c.args.word / p % 256) * p + c.args.byte * p) (c.unit-unit.ensures ∙ powers c.args.at)
