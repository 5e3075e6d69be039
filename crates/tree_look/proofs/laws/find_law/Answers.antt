use Rattle.tree_look.proofs.FindLaw.{finds_end, finds_are_exact}
use Rattle.tree_look.proofs.laws.find_law.Goals as goal

pub returns : goal.returns
returns c = record { ends = finds_end; exact = finds_are_exact }
