use Rattle.std.proofs.Common.{sym, ap, ◌∙◌, ◌∷◌, []}
use Rattle.std.proofs.lemmas.Bool.Decides.{Decides-eqb}
use Rattle.std.proofs.lemmas.Slice.Eq.{strip_suffix_is}
use Rattle.std.specs.Prelude.{Some, None}
use Rattle.cat_script.specs.Lines.{without_return}
use Rattle.cat_script.proofs.WordLemmas.{return_dropped, return_absent}
use Rattle.cat_script.proofs.cut.without_return.Goals as goal

pub returns-in-Some : goal.returns-in-Some
returns-in-Some c =
    let whole = strip_suffix_is Decides-eqb c.args.line.now (13 ∷ []) (Some c.in-Some.front) c.in-Some.ensures.cases in
    sym (ap without_return whole ∙ return_dropped c.in-Some.front.now)

pub returns-in-None : goal.returns-in-None
returns-in-None c = sym (return_absent c.args.line.now (strip_suffix_is Decides-eqb c.args.line.now (13 ∷ []) None c.in-None.ensures.cases))
