use Rattle.data_node.specs.Lists.{number_of}
use Rattle.image_rules.proofs.WalkLemmas.{Walks}
use Rattle.image_recovery.proofs.Walking.{HasKeyAt}
use Rattle.image_recovery.proofs.anchored.node_with.Given as goal

-- no node that the walk has passed has the anchor
abbrev pub invariant-loop-position : goal.invariant-loop-position
invariant-loop-position l = Walks l.image.layout l.image.words (HasKeyAt l.image.layout l.image.words (number_of l.anchor)) l._position l.node
