use Rattle.std.proofs.Common.{◌∙◌, ap, sym, slice_index, arith}
use Rattle.pm_words.specs.declared.layout.Layout.{Layout}
use Rattle.pm_words.specs.Locations.{Node, word_number}
use Rattle.image_rules.proofs.WordLemmas.{image_spot-here, image_spot-outside}
use Rattle.image_rules.proofs.read.node_word.Goals as goal

pub returns-then-nodes-node-clause-word : goal.returns-then-nodes-node-clause-word
returns-then-nodes-node-clause-word c =
    let image = c.args.image.now in
    let told = ap (λ (k : Layout). k.nodes) c.layout.ensures.layout in
    let nodes = c.nodes.ensures in
    sym (image_spot-outside image.layout image.words c.args.node c.args.offset (omega arith))

pub returns-clause-word : goal.returns-clause-word
returns-clause-word c =
    let image = c.args.image.now in
    let told = ap (λ (k : Layout). k.nodes) c.layout.ensures.layout in
    let nodes = c.nodes.ensures in
    let within = c.requires.within in
    c.word.ensures
    ∙ ap (slice_index image.words) (c.node_word.ensures.word ∙ ap (λ (k : Layout). word_number k (Node c.args.node c.args.offset)) c.layout-2.ensures.layout)
    ∙ sym (image_spot-here image.layout image.words c.args.node c.args.offset (omega arith) c.requires.behind (omega arith))
