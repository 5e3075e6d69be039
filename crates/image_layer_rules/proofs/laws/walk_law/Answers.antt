use Rattle.image_layer_rules.proofs.VisitLaw.{visited_once, visits_are_few}
use Rattle.image_layer_rules.proofs.laws.walk_law.Goals as goal

pub returns : goal.returns
returns c = record { once = visited_once; few = visits_are_few }
