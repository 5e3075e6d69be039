use Rattle.std.proofs.Common.{◌+◌, [], ◌∷◌, length, take, drop, eq-eqb, sym, ap, ◌∙◌, arith, add-one}
use Rattle.std.proofs.lemmas.List.{take_rest, drop_all}
use Rattle.std.proofs.lemmas.Bool.Decides.{Decides-eqb}
use Rattle.cat_script.specs.Lines.{lines_after}
use Rattle.cat_script.proofs.LineLemmas.{lines_after-first, lines_after-last}
use Rattle.cat_script.proofs.cut.split_feed.Goals as goal

pub returns-in-Some-clause-lines : goal.returns-in-Some-clause-lines
returns-in-Some-clause-lines c =
    let found = c.in-Some.ensures in
    let text = c.args.text.now in
    let end = c.in-Some.end in
    lines_after-first [] text end found.0.high (λ j less is. found.0.before j (omega arith) less (eq-eqb _ 10 is)) ((Decides-eqb _ 10).0 found.1)
    ∙ ap (λ rest. take end text ∷ lines_after [] rest) (ap (λ n. drop n text) (sym (add-one end)) ∙ sym (take_rest text (end + 1)))

pub returns-in-None-clause-lines : goal.returns-in-None-clause-lines
returns-in-None-clause-lines c =
    let text = c.args.text.now in
    lines_after-last [] text c.requires (λ j less is. c.in-None.ensures j (omega arith) less (eq-eqb _ 10 is))
    ∙ ap (λ rest. text ∷ lines_after [] rest) (sym (drop_all (length text) text (omega arith)) ∙ sym (take_rest text (length text)))
