use Rattle.std.proofs.Common.{◌∙◌, ap, sym, slice_index, arith}
use Rattle.pm_words.specs.declared.layout.Layout.{Layout}
use Rattle.pm_words.specs.Offsets.{slot_offset}
use Rattle.image_rules.proofs.WordLemmas.{image_spot-here, image_spot-outside, node_number}
use Rattle.image_rules.proofs.read.slot_word.Goals as goal

pub returns-then-nodes-node : goal.returns-then-nodes-node
returns-then-nodes-node c =
    let image = c.args.image.now in
    let told = ap (λ (k : Layout). k.nodes) c.layout-layout.ensures.layout in
    let nodes = c.nodes.ensures in
    sym (image_spot-outside image.layout image.words c.args.node (slot_offset c.args.slot c.args.k) (omega arith))

pub returns : goal.returns
returns c =
    let image = c.args.image.now in
    let offset = slot_offset c.args.slot c.args.k in
    let told = ap (λ (k : Layout). k.nodes) c.layout-layout.ensures.layout in
    let nodes = c.nodes.ensures in
    c.word.ensures
    ∙ ap (slice_index image.words) (node_number image.layout c.layout-layout.result c.args.node offset c.node_word.result c.layout-layout.ensures.layout c.node_word.ensures.word)
    ∙ sym (image_spot-here image.layout image.words c.args.node offset (omega arith) (omega arith) (omega (arith, c.requires.slot, c.requires.word)))
