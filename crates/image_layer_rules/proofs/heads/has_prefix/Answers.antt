use Rattle.std.proofs.Common.{ap}
use Rattle.layer_map.specs.Keys.{key_number}
use Rattle.image_layer_rules.specs.Faults.{image_tree}
use Rattle.image_layer_rules.proofs.HeadLemmas.{prefix_if}
use Rattle.image_layer_rules.proofs.heads.has_prefix.Goals as goal

pub returns : goal.returns
returns c =
    let t = image_tree c.args.image.now.layout c.args.image.now.words in
    prefix_if t c.args.reference c.cell_word.result c.prefix_of.result c.ends_at.result c.prefix_of.ensures.key c.cell_word.ensures (ap key_number c.prefix_of.ensures.words) c.requires c.ends_at.ensures
