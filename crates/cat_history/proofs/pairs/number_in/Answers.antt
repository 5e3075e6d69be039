use Rattle.std.proofs.Common.{sym, ◌∙◌}
use Rattle.cat_history.proofs.PairLemmas.{at-lacking, at-first}
use Rattle.cat_history.proofs.pairs.number_in.Goals as goal

pub returns-in_err-position : goal.returns-in_err-position
returns-in_err-position c = c.from_residual.ensures ∙ sym (at-lacking c.args.pairs.now c.args.name.now c.in_err-position.ensures.none)

pub returns : goal.returns
returns c =
    let is = c.in_ok-position.ensures in
    sym (at-first c.args.pairs.now c.in_ok-position.position c.args.name.now c.index-pairs-position.result is.within is.first is.named)
