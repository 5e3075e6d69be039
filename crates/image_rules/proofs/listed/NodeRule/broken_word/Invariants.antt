use Rattle.image_rules.specs.Rules.{BreaksInNode}
use Rattle.image_rules.proofs.WalkLemmas.{Walks}
use Rattle.image_rules.proofs.listed.NodeRule.broken_word.Given as goal

-- no node that the walk has passed breaks the rule
abbrev pub invariant-loop-position : goal.invariant-loop-position
invariant-loop-position l = Walks l.image.layout l.image.words (BreaksInNode l.image.layout l.image.words l.self) l._position l.node
