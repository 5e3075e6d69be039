-- The order by which a part lists is that of its live slots, wherever it has it from.
use Rattle.std.proofs.Common.{◌≡◌, ℕ, ◌≤◌, List, ◌∷◌, length, slice_index, sym, subst, ap, ◌∙◌, arith}
use Rattle.std.specs.List.Sorted.{IsPermutation}
use Rattle.pm_words.specs.Offsets.{bitmap_offset}
use Rattle.data_node.specs.Bits.{live_count}
use Rattle.data_node.specs.Orders.{comes_before, live_slots}
use Rattle.data_node.specs.Spots.{Spot}
use Rattle.data_node.proofs.LiveCounts.{live_most}
use Rattle.call_stages.specs.Stages.{Knows, Tells}
use Rattle.permutation.specs.Permutations.{IsPermutationOf, first_slots, permutation_words, placed_in}
use Rattle.permutation.specs.Stores.{words_first}
use Rattle.permutation.proofs.Places.{slots_same}
use Rattle.permutation.proofs.Sorted.{permutations_are}
use Rattle.permutation.proofs.Stores.{known_at}
use Rattle.node_ops.specs.declared.part.Reading.{Reading}
use Rattle.node_ops.specs.declared.part.Way.TheVariants as ways
use Rattle.node_ops.specs.Calls.{name_in}
use Rattle.node_ops.specs.CallStages.{knows, slots_loaded}
use Rattle.node_ops.specs.PartSteps.{order_by, order_in, sorted_in, sorted_slots}
use Rattle.node_ops.proofs.PartLaw.{entries_are}
use Rattle.node_ops.proofs.PartOrder.{live_order_size, live_slots_size, order_is}
use Rattle.node_ops.proofs.PartSound.{IsReadingBut, words_made}

-- that of the permutation that it made,
pub held_order : (reading : Reading) → reading.call.view.layout.slots ≤ 64 → reading.way ≡ ways.Held (permutation_words (sorted_in reading)) → order_in reading ≡ sorted_in reading
unfolding sorted_slots
held_order reading limit is =
    let made = words_made reading limit in
    ap (order_by reading) is
    ∙ subst (λ n. first_slots (slice_index (permutation_words (sorted_in reading))) n ≡ sorted_in reading) (live_order_size (comes_before reading.entries) reading.bitmap reading.call.view.layout.slots) made.first

-- and that of one that serves it
pub served_order : (reading : Reading) (sound : IsReadingBut reading) (words : List ℕ) (s : Spot) (q : ℕ → ℕ) → reading.way ≡ ways.Served words
    → Knows (name_in reading.call) (knows ((bitmap_offset, reading.bitmap) ∷ slots_loaded reading.entries reading.bitmap reading.call.view.layout.slots)) s
    → Tells (words_first words 8) q → IsPermutationOf reading.call.view.layout.slots q s → order_in reading ≡ sorted_in reading
unfolding sorted_slots
served_order reading sound words s q is known tells permutation =
    let slots = reading.call.view.layout.slots in
    let limit : slots ≤ 64 = sound.call.view.layout.slots.1 in
    let count = live_count slots reading.bitmap in
    let few : count ≤ slots = live_most slots reading.bitmap in
    let sorted = permutations_are slots reading.entries q s limit (entries_are reading sound s known) permutation in
    let size : count ≡ length (live_slots (s bitmap_offset) slots) = sym (live_slots_size reading.bitmap slots) ∙ ap (λ b. length (live_slots b slots)) (sym known.seen.0) in
    ap (order_by reading) is
    ∙ slots_same (slice_index words) q (λ k small. sym (known_at words 8 k q tells small)) count (omega arith)
    ∙ ap (first_slots q) size
    ∙ order_is reading.entries reading.bitmap slots (placed_in slots q s) (subst (λ b. IsPermutation (live_slots b slots) (placed_in slots q s)) known.seen.0 sorted.live) sorted.rising
