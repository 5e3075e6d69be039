use Rattle.std.proofs.Common.{◌≡◌, ap, arith}
use Rattle.tree_law.specs.Words.{reference_of}
use Rattle.layer_map.specs.Keys.{key_number}
use Rattle.image_layer_rules.specs.Faults.{image_tree}
use Rattle.image_layer_rules.proofs.HeadLemmas.{under_if}
use Rattle.image_layer_rules.proofs.heads.is_under.Goals as goal

pub returns : goal.returns
returns c =
    let t = image_tree c.args.image.now.layout c.args.image.now.words in
    let depth_is : c.cell_word-depth.result ≡ t.depth c.args.reference = c.cell_word-depth.ensures in
    under_if t c.args.reference c.args.byte c.cell_word-depth.result (reference_of c.args.child) c.prefix_of.result c.low_of.result c.goes_on.result
    c.prefix_of.ensures.key c.low_of.ensures.key depth_is (ap key_number c.prefix_of.ensures.words) c.low_of.ensures.number
    (let small = c.requires.depth in omega arith) c.requires.byte (let deep = c.depth_of.ensures in let more = c.if-depth_of-depth.false in omega arith) c.goes_on.ensures
