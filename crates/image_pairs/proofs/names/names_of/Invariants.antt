use Rattle.std.proofs.Common.{◌≡◌}
use Rattle.std.specs.FinMap.{empty, entries}
use Rattle.image_rules.specs.Nodes.{image_spot, image_range}
use Rattle.image_rules.specs.Sound.{with_slots}
use Rattle.image_pairs.proofs.names.names_of.Given as goal

-- the names of the slots so far are in the tree
abbrev pub invariant-loop-slot : goal.invariant-loop-slot
invariant-loop-slot l =
    l.names.entries ≡ entries (with_slots (image_range l.image.layout l.image.words l.node) (image_spot l.image.layout l.image.words l.node) empty l.slot)
