use Rattle.std.proofs.Common.{◌∙◌}
use Rattle.image_rules.specs.Nodes.{image_spot}
use Rattle.image_rules.proofs.NodeLemmas.{misprinted_if}
use Rattle.image_rules.proofs.node.is_misprinted.Goals as goal

pub returns-in-Some : goal.returns-in-Some
returns-in-Some c =
    let image = c.args.image.now in
    misprinted_if image.layout.slots (image_spot image.layout image.words c.args.node) c.args.slot c.in-Some.name c.fingerprint.result c.print_of.result c.requires.slot
    (c.is_live_in.ensures.0 c.if-not-is_live_in.false) c.in-Some.ensures.name (c.in-Some.ensures.words ∙ c.name_in.ensures) c.fingerprint.ensures c.print_of.ensures
