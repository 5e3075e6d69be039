use Rattle.std.proofs.Common.{◌≡◌, ℕ, ◌+◌, ◌<◌}
use Rattle.data_node.specs.Lists.{key_of, members_from, target_from}
use Rattle.image_rules.specs.Nodes.{image_spot, target_in}
use Rattle.image_rules.proofs.map.target_of.Given as goal

-- the name belongs to this node or to one of the so many that are left to look at
abbrev pub invariant-loop-position : goal.invariant-loop-position
invariant-loop-position l = record {
  here : l.node < l.image.layout.nodes;
  left : ℕ;
  count : l._position + left ≡ l.image.layout.nodes;
  target : target_in l.image.layout l.image.words l.name ≡ target_from l.node (members_from (image_spot l.image.layout l.image.words) left l.node) (key_of l.name);
}
