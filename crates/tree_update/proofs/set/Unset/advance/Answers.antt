use Rattle.std.proofs.Common.{ap, ◌∙◌}
use Rattle.tree_update.specs.Sets.{unset_of}
use Rattle.tree_update.proofs.ChangeStays.{unset_advances}
use Rattle.tree_update.proofs.set.Unset.advance.Goals as goal

pub returns : goal.returns
returns c = ap unset_of c.advance.ensures ∙ unset_advances c.advance.new.self c.advance.result
