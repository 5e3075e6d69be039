use Rattle.std.proofs.Common.{arith}
use Rattle.cat_script.proofs.UsualLemmas.{usual_is_line}
use Rattle.cat_script.proofs.usual.usual_call.Goals as goal

pub returns : goal.returns
returns c =
    let digit = c.if-not-is_ascii_digit.ensures in
    usual_is_line c.args.line.now c.in_ok-caller.caller.now c.from.result c.in_ok-caller.rest.now c.in_ok-op.op c.in_ok-caller.ensures.cases.0
    (omega (arith, digit)) (omega (arith, digit)) c.from.ensures c.in_ok-op.ensures
