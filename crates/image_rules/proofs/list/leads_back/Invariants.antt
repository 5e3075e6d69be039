use Rattle.image_rules.specs.Rules.{LeadsBack}
use Rattle.image_rules.proofs.WalkLemmas.{Walks}
use Rattle.image_rules.proofs.ListRules.{HasReached}
use Rattle.image_rules.proofs.list.leads_back.Given as goal

-- no node that the walk has passed leads back, and the set has just those
abbrev pub invariant-loop-position : goal.invariant-loop-position
invariant-loop-position l = record {
  walks : Walks l.image.layout l.image.words (LeadsBack l.image.layout l.image.words) l._position l.node;
  reached : HasReached l.image.layout l.image.words l.reached l._position;
}
