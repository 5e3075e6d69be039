use Rattle.std.proofs.Common.{sym, refl}
use Rattle.std.proofs.lemmas.Bool.{false≢true}
use Rattle.image_layer_rules.proofs.FirstOfAll.{image_first, first_unsound, tree_first}
use Rattle.image_layer_rules.proofs.broken.first_broken_of_all.Goals as goal

pub returns-in-Some-clause-none : goal.returns-in-Some-clause-none
returns-in-Some-clause-none c =
    let l = c.args.image.now.layout in
    let image = c.args.image.now.words in
    (λ e. absurd (false≢true (sym e)), λ sound. absurd (first_unsound l image c.in-Some.broken (image_first l image c.in-Some.broken c.in-Some.ensures.some) sound))

pub returns-in-Some-clause-some : goal.returns-in-Some-clause-some
returns-in-Some-clause-some c = image_first c.args.image.now.layout c.args.image.now.words c.in-Some.broken c.in-Some.ensures.some

pub returns-clause-none : goal.returns-clause-none
returns-clause-none c =
    let l = c.args.image.now.layout in
    let image = c.args.image.now.words in
    let sound = c.in_default.ensures.none.0 refl in
    (λ e. absurd (false≢true (sym e)), λ all. absurd (first_unsound l image (record { rule = c.in_ok-rule.rule; word = 8 }) (tree_first l image c.in_ok-rule.rule sound c.in_ok-rule.ensures) all))

pub returns-clause-some : goal.returns-clause-some
returns-clause-some c = tree_first c.args.image.now.layout c.args.image.now.words c.in_ok-rule.rule (c.in_default.ensures.none.0 refl) c.in_ok-rule.ensures
