use Rattle.std.proofs.Common.{ap₂, ◌∙◌}
use Rattle.cat_key.specs.Names.{name_cmp}
use Rattle.cat_key.proofs.WordOrder.{packed_cmp}
use Rattle.cat_key.proofs.NameOrd.cmp.Goals as goal

pub returns : goal.returns
returns c =
    c.cmp.ensures
    ∙ packed_cmp c.self.inside.words c.other.inside.words c.self.invariant c.other.invariant
    ∙ ap₂ name_cmp c.self.view_is c.other.view_is
