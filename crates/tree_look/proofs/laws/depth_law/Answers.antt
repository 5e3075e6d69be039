use Rattle.tree_look.proofs.DepthLaw.{keys_part, parts_before}
use Rattle.tree_look.proofs.laws.depth_law.Goals as goal

pub returns : goal.returns
returns c = record { part = keys_part; before = parts_before }
