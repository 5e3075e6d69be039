use Rattle.std.proofs.Common.{◌≡◌, length, take}
use Rattle.std.specs.Prelude.{slice_index}
use Rattle.data_node.specs.Orders.{listed}
use Rattle.permutation.specs.Permutations.{first_slots, words_to}
use Rattle.permutation.proofs.words.permutation_of.Given as goal

-- the words have the slots of the places that the loop has passed
abbrev pub invariant-loop-place : goal.invariant-loop-place
invariant-loop-place l = record {
  room : length l.words ≡ 8;
  done : first_slots (slice_index l.words) l.place ≡ take l.place l.order.slots;
  exact : l.words ≡ words_to (listed l.order) l.place;
}
