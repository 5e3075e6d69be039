use Rattle.tree_look.proofs.LookStays.{look_stays}
use Rattle.tree_look.proofs.LookExact.{look_is_exact}
use Rattle.tree_look.proofs.laws.look_law.Goals as goal

pub returns : goal.returns
returns c = record { stays = look_stays; exact = look_is_exact }
