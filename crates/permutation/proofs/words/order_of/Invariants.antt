use Rattle.std.proofs.Common.{◌≡◌, length}
use Rattle.std.specs.Prelude.{slice_index}
use Rattle.data_node.specs.Orders.{listed}
use Rattle.permutation.specs.Permutations.{first_slots}
use Rattle.permutation.proofs.words.order_of.Given as goal

-- the slots at the places that the loop has passed are listed
abbrev pub invariant-loop-place : goal.invariant-loop-place
invariant-loop-place l = record {
  few : l.order.len ≡ l.place;
  room : length l.order.slots ≡ 64;
  done : listed l.order ≡ first_slots (slice_index l.words) l.place;
}
