use Rattle.image_rules.proofs.ListRules.{Ordered}
use Rattle.image_rules.proofs.list.wrong_anchor.Given as goal

-- the anchors up to this node's are in order
abbrev pub invariant-loop-position : goal.invariant-loop-position
invariant-loop-position l = Ordered l.image.layout l.image.words l._position l.node
