-- Which nodes are in a set.
use Rattle.std.specs.Prelude.{ℕ, ◌/◌, ◌%◌, ◌↔◌, List, slice_index}
use Rattle.pm_words.specs.declared.layout.Layout.{Layout}
use Rattle.data_node.specs.Slots.{IsLive}
use Rattle.image_rules.specs.declared.node_set.NodeSet.{NodeSet}
use Rattle.image_rules.specs.Nodes.{IsListedNode}

-- Node n has bit `n mod 64` of word `n / 64`.
abbrev pub HasNode : NodeSet → ℕ → Type 0
HasNode set n = IsLive (slice_index set.bits (n / 64)) (n % 64)

-- The nodes of the set are those that the image lists.
abbrev pub AreListed : Layout → List ℕ → NodeSet → Type 0
AreListed l image set = (n : ℕ) → HasNode set n ↔ IsListedNode l image n
