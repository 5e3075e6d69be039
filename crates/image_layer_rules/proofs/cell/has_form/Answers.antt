use Rattle.image_layer_rules.proofs.WrongLemmas.{form_told}
use Rattle.image_layer_rules.proofs.cell.has_form.Goals as goal

pub returns : goal.returns
returns c = form_told c.args.image.now.layout c.args.image.now.words c.args.reference c.args.cell.now c.requires.read c.is_form.result c.is_form.ensures
