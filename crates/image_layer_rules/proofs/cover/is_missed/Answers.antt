use Rattle.std.proofs.Common.{rules, ◌≡◌, true, sym, ◌∙◌}
use Rattle.std.proofs.lemmas.Bool.{false≢true}
use Rattle.image_layer_rules.proofs.CoverLemmas.{missed_told, led_no_miss}
use Rattle.image_layer_rules.proofs.cover.is_missed.Goals as goal

pub returns-then-leads_to : goal.returns-then-leads_to
returns-then-leads_to c = (
  λ yes. absurd (false≢true yes),
  λ at. absurd (led_no_miss c.args.image.now.layout c.args.image.now.words c.args.node c.anchor_key-anchor.result c.anchor_key-anchor.ensures.words (c.leads_to.ensures.0 c.if-leads_to.true) at),
)

pub returns : goal.returns
returns c =
    let has : c.contains.result ≡ true = search rules in
    missed_told c.args.image.now.layout c.args.image.now.words c.args.node c.anchor_key-anchor.result c.is_open_for.result c.anchor_key-anchor.ensures.words
    ((c.requires.listed c.args.node).0 (c.contains.ensures.0 has)) (λ leads. false≢true (sym c.if-leads_to.false ∙ c.leads_to.ensures.1 leads)) c.is_open_for.ensures
