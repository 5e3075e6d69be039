use Rattle.index_law.proofs.Anchored.{list_has_anchors, ranges_are_members}
use Rattle.index_law.proofs.Dropping.{step_moves_anchors}
use Rattle.index_law.proofs.Holding.{nodes_hold_shape, idle_has_shape}
use Rattle.index_law.proofs.Sizes.{nodes_are_counted}
use Rattle.index_law.proofs.Shapes.{step_shapes}
use Rattle.index_law.proofs.laws.anchors_law.Goals as goal

pub returns : goal.returns
returns c = record { shapes = step_shapes; anchors = list_has_anchors; members = ranges_are_members; step = step_moves_anchors; nodes = nodes_hold_shape; counted = nodes_are_counted; idle = idle_has_shape }
