use Rattle.std.proofs.Common.{◌<◌, ◌^◌, sym, ◌∙◌, arith}
use Rattle.std.proofs.lemmas.Fmt.{decimal_injective}
use Rattle.report_reader.proofs.head.read_caller.Goals as goal

pub returns-then-caller-ge-CALLERS-clause-none : goal.returns-then-caller-ge-CALLERS-clause-none
returns-then-caller-ge-CALLERS-clause-none c = λ _ n small same.
    let read = c.in_ok-caller.ensures.some in
    let low : n < 2 ^ 64 = omega (arith, small) in
    let equal = decimal_injective c.in_ok-caller.caller n read.0 low (sym read.1 ∙ same) in
    omega (arith, equal, small, c.if-caller-ge-CALLERS.true)
