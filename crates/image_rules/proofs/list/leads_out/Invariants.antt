use Rattle.image_rules.specs.Rules.{LeadsOut}
use Rattle.image_rules.proofs.WalkLemmas.{Walks}
use Rattle.image_rules.proofs.list.leads_out.Given as goal

-- no node that the walk has passed leads out
abbrev pub invariant-loop-position : goal.invariant-loop-position
invariant-loop-position l = Walks l.image.layout l.image.words (LeadsOut l.image.layout l.image.words) l._position l.node
