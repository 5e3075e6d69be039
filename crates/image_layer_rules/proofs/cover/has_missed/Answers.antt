use Rattle.std.proofs.Common.{◌≡◌, ◌<◌, ap, ◌∙◌, arith}
use Rattle.std.proofs.lemmas.Bool.{false≢true}
use Rattle.pm_words.specs.declared.layout.Layout.{Layout}
use Rattle.image_layer_rules.proofs.AnchorLemmas.{listed_within}
use Rattle.image_layer_rules.proofs.cover.has_missed.Goals as goal

pub returns : goal.returns
returns c = (
  λ yes. absurd (false≢true yes),
  λ missed.
      let l = c.args.image.now.layout in
      let count = c.layout.ensures.image.layout.nodes in
      let nodes : c.nodes-node-end.result ≡ l.nodes = c.nodes-node-end.ensures ∙ ap (λ (k : Layout). k.nodes) c.layout.ensures.layout in
      let within : missed.0 < l.nodes = listed_within l c.args.image.now.words c.requires.sound (omega arith) missed.0 missed.1.listed in
      absurd (c.loop-node.invariant missed.0 (omega arith) missed.1),
)
