use Rattle.std.proofs.Common.{◌<◌, [], ◌∷◌, length, take, sym, ap, ◌∙◌, arith}
use Rattle.std.proofs.lemmas.List.{take_rest, drop_all, length-take}
use Rattle.cat_script.specs.Lines.{words_of}
use Rattle.cat_script.proofs.WordLemmas.{words_after-first, words_after-last, ends_behind}
use Rattle.cat_script.proofs.cut.split_letters.Goals as goal

pub returns-in-Some-clause-words : goal.returns-in-Some-clause-words
returns-in-Some-clause-words c =
    let found = c.in-Some.ensures in
    let text = c.args.text.now in
    let end = c.in-Some.end in
    let behind : 0 < end = ends_behind text end c.requires.letter found.here in
    words_after-first [] text end found.within (omega (arith, length-take end text)) found.before found.here
    ∙ ap (λ rest. take end text ∷ words_of rest) (sym (take_rest text end))

pub returns-in-None-clause-words : goal.returns-in-None-clause-words
returns-in-None-clause-words c =
    let text = c.args.text.now in
    words_after-last [] text c.requires.some c.in-None.ensures.none
    ∙ ap (λ rest. text ∷ words_of rest) (sym (drop_all (length text) text (omega arith)) ∙ sym (take_rest text (length text)))
