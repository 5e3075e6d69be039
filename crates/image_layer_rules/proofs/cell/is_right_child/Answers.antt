use Rattle.std.proofs.Common.{refl}
use Rattle.image_layer_rules.proofs.WrongLemmas.{right_told, none_right}
use Rattle.image_layer_rules.proofs.cell.is_right_child.Goals as goal

pub returns-then-child-eq0 : goal.returns-then-child-eq0
returns-then-child-eq0 c = (
  λ _. none_right c.args.image.now.layout c.args.image.now.words c.args.reference c.args.cell.now c.requires.read c.args.byte c.child_of-child.result c.child_of-child.ensures c.if-child-eq0.true,
  λ _. refl,
)

pub returns : goal.returns
returns c =
    right_told c.args.image.now.layout c.args.image.now.words c.args.reference c.args.cell.now c.requires.read c.args.byte c.child_of-child.result c.is_under.result c.child_of-child.ensures c.if-child-eq0.false c.is_under.ensures
