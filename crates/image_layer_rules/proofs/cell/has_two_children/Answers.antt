use Rattle.image_layer_rules.proofs.WrongLemmas.{two_if}
use Rattle.image_layer_rules.proofs.cell.has_two_children.Goals as goal

pub returns : goal.returns
returns c = two_if c.args.image.now.layout c.args.image.now.words c.args.reference c.args.cell.now c.requires.read c.requires.form c.has_two.result c.has_two.ensures
