use Rattle.image_rules.proofs.WalkLemmas.{Walks}
use Rattle.image_rules.proofs.ListRules.{HasReached}
use Rattle.image_rules.proofs.list.listed_nodes.Given as goal

-- the set has the nodes that the walk has passed; it looks for nothing
abbrev pub invariant-loop-position : goal.invariant-loop-position
invariant-loop-position l = record {
  walks : Walks l.image.layout l.image.words (λ _ _. ⊥) l._position l.node;
  reached : HasReached l.image.layout l.image.words l.listed l._position;
}
