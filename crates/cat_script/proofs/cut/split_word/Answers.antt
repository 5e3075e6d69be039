use Rattle.std.proofs.Common.{length, sym, ap, ◌∙◌, arith}
use Rattle.std.proofs.lemmas.List.{take_rest, drop_all}
use Rattle.cat_script.specs.Lines.{words_of}
use Rattle.cat_script.proofs.WordLemmas.{words_after-gaps}
use Rattle.cat_script.proofs.cut.split_word.Goals as goal

pub returns-in_err-start-clause-none : goal.returns-in_err-start-clause-none
returns-in_err-start-clause-none c = λ _.
    let line = c.args.line.now in
    words_after-gaps line (length line) (omega arith) c.in_err-start.ensures.none ∙ ap words_of (drop_all (length line) line (omega arith))

pub returns-clause-words : goal.returns-clause-words
returns-clause-words c =
    let line = c.args.line.now in
    let found = c.in_ok-start.ensures in
    words_after-gaps line c.in_ok-start.start (omega (arith, found.within)) found.before ∙ ap words_of (sym (take_rest line c.in_ok-start.start)) ∙ c.split_letters.ensures.words
