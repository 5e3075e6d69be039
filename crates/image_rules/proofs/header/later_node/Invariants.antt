use Rattle.image_rules.specs.Rules.{IsLater}
use Rattle.image_rules.proofs.LowestLemmas.{NoneBelow}
use Rattle.image_rules.proofs.header.later_node.Given as goal

-- no node that the loop has passed is later
abbrev pub invariant-loop-node : goal.invariant-loop-node
invariant-loop-node l = NoneBelow (IsLater l.image.layout l.image.words) l.node
