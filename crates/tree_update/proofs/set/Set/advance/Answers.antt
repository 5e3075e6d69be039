use Rattle.std.proofs.Common.{ap, ◌∙◌}
use Rattle.tree_update.specs.Sets.{set_of}
use Rattle.tree_update.proofs.ChangeStays.{set_advances}
use Rattle.tree_update.proofs.set.Set.advance.Goals as goal

pub returns : goal.returns
returns c = ap set_of c.advance.ensures ∙ set_advances c.advance.new.self c.advance.result
