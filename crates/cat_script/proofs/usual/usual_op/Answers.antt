use Rattle.std.proofs.Common.{codes, Some}
use Rattle.std.proofs.lemmas.Bool.Decides.{Decides-eqb}
use Rattle.std.proofs.lemmas.Slice.Eq.{strip_prefix_is}
use Rattle.cat_script.proofs.usual.usual_op.Goals as goal

pub returns-in-Some-strip_prefix-3 : goal.returns-in-Some-strip_prefix-3
returns-in-Some-strip_prefix-3 c =
    let found = c.in-Some-strip_prefix-3 in
    let whole = strip_prefix_is Decides-eqb c.args.text.now (codes " scan ") (Some found.rest) found.ensures.cases in
    rw whole c.usual_scan.ensures
