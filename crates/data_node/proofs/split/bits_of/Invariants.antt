use Rattle.std.proofs.Common.{ℕ, ◌↔◌, Contains, take}
use Rattle.data_node.specs.Slots.{IsLive}
use Rattle.data_node.proofs.split.bits_of.Given as goal

-- the slots that the loop has passed have their bits
abbrev pub invariant-loop-slot : goal.invariant-loop-slot
invariant-loop-slot l = (slot : ℕ) → IsLive l.bits slot ↔ Contains (take l.slot-index l.slots) slot
