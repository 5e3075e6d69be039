use Rattle.std.proofs.Common.{rules, arith, ◌<◌}
use Rattle.std.proofs.lemmas.Fmt.{decimal_digit}
use Rattle.cat_text.proofs.print.add_caller.Goals as goal

pub returns-then-caller-lt10 : goal.returns-then-caller-lt10
returns-then-caller-lt10 c =
    let digit : c.args.caller < 10 = omega (arith, c.if-caller-lt10.true) in
    rw (decimal_digit c.args.caller digit) (search rules)
