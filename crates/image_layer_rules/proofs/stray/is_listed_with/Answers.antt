use Rattle.std.proofs.Common.{rules, ◌≡◌, false, true, sym, ◌∙◌}
use Rattle.std.proofs.lemmas.Bool.{false≢true}
use Rattle.image_layer_rules.proofs.StrayLemmas.{anchor_told}
use Rattle.image_layer_rules.proofs.stray.is_listed_with.Goals as goal

pub returns-then-not-contains : goal.returns-then-not-contains
returns-then-not-contains c =
    let fails : c.contains.result ≡ false = search rules in
    (λ yes. absurd (false≢true yes), λ leads. absurd (false≢true (sym fails ∙ c.contains.ensures.1 ((c.requires.listed c.args.node).1 leads.0))))

pub returns : goal.returns
returns c =
    let has : c.contains.result ≡ true = search rules in
    anchor_told c.args.image.now.layout c.args.image.now.words c.args.node c.anchor_of.result c.args.key c.is_same.result ((c.requires.listed c.args.node).0 (c.contains.ensures.0 has)) c.anchor_of.ensures c.is_same.ensures
