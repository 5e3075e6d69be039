-- A sorted order of the live slots is a permutation, and the other way round.
use Rattle.std.proofs.Common.{◌≡◌, ℕ, zero, suc, ◌+◌, ◌<◌, ◌≤◌, ◌==◌, true, false, cond, List, [], ◌∷◌, ◌++◌, length, All, slice_index_or, refl, sym, ap, ◌∙◌, subst, arith}
use Rattle.std.specs.Int.{bit_at}
use Rattle.std.specs.Ordering.{nat_cmp, is_lt, ordering_then}
use Rattle.std.specs.Cmp.Lexicographic.{slice_cmp}
use Rattle.std.specs.List.Sorted.{IsPermutation, IsSortedBy}
use Rattle.std.proofs.lemmas.Bool.{eqb-true}
use Rattle.std.proofs.lemmas.List.Elements.{All-append}
use Rattle.std.proofs.lemmas.List.Sorted.{All-permutation, length_permutation}
use Rattle.pm_words.specs.Offsets.{bitmap_offset}
use Rattle.data_node.specs.Orders.{live_slots, comes_before}
use Rattle.data_node.specs.Spots.{Spot}
use Rattle.permutation.specs.Permutations.{first_slots, comes_first, live_in, placed_in, HasEntries, OrdersArePermutations, PermutationsAreOrders}

-- one of the first so many slots that is live
abbrev IsLiveBelow : ℕ → ℕ → ℕ → Type 0
IsLiveBelow bitmap slots slot = (slot < slots) × (bit_at bitmap slot ≡ 1)

one_of : (P : ℕ → Type 0) (x : ℕ) → P x → All P (x ∷ [])
one_of P x is zero d within = is
one_of P x is (suc k) d within = absurd (omega arith)

none_of : (P : ℕ → Type 0) → All P []
none_of P k d within = absurd (omega arith)

all_live : (bitmap slots n : ℕ) → n ≤ slots → All (IsLiveBelow bitmap slots) (live_slots bitmap n)
all_live bitmap slots zero few = none_of (IsLiveBelow bitmap slots)
all_live bitmap slots (suc n) few =
    let before = all_live bitmap slots n (omega arith) in
    elim (bit_at bitmap n == 1) as (λ b. (bit_at bitmap n == 1) ≡ b → All (IsLiveBelow bitmap slots) (cond b (live_slots bitmap n ++ (n ∷ [])) (live_slots bitmap n))) [
      | true ↦ λ is. All-append (IsLiveBelow bitmap slots) (live_slots bitmap n) (n ∷ []) before (one_of (IsLiveBelow bitmap slots) n (omega arith, eqb-true (bit_at bitmap n) 1 is))
      | false ↦ λ _. before
    ] refl

module _ (slots : ℕ) (entries : List (List ℕ)) (s : Spot) (has : HasEntries slots entries s) (order : List ℕ) (live : IsPermutation (live_in slots s) order) where
  each : All (IsLiveBelow (s bitmap_offset) slots) order
  each = All-permutation (IsLiveBelow (s bitmap_offset) slots) (live_in slots s) order live (all_live (s bitmap_offset) slots slots (omega arith))

  -- the entries compare as the node's words
  compares : (x y : ℕ) → IsLiveBelow (s bitmap_offset) slots x → IsLiveBelow (s bitmap_offset) slots y → comes_before entries x y ≡ comes_first s x y
  compares x y at_x at_y =
      let one = has x at_x.0 at_x.1 in
      let two = has y at_y.0 at_y.1 in
      λ i. is_lt (ordering_then (slice_cmp nat_cmp (one i) (two i)) (nat_cmp x y))

  pub by_spot : IsSortedBy (comes_before entries) order → IsSortedBy (comes_first s) order
  by_spot rising k d least most = sym (compares (slice_index_or order (k + 1) d) (slice_index_or order k d) (each (k + 1) d (omega arith)) (each k d (omega arith))) ∙ rising k d least most

  pub by_entries : IsSortedBy (comes_first s) order → IsSortedBy (comes_before entries) order
  by_entries rising k d least most = compares (slice_index_or order (k + 1) d) (slice_index_or order k d) (each (k + 1) d (omega arith)) (each k d (omega arith)) ∙ rising k d least most

pub orders_are : OrdersArePermutations
orders_are slots entries words s order few has live rising first =
    let long : length order ≡ length (live_in slots s) = length_permutation (live_in slots s) order live in
    let is : placed_in slots words s ≡ order = ap (first_slots words) (sym long) ∙ first in
    record {
      live = subst (IsPermutation (live_in slots s)) (sym is) live;
      rising = subst (IsSortedBy (comes_first s)) (sym is) (by_spot slots entries s has order live rising);
    }

pub permutations_are : PermutationsAreOrders
permutations_are slots entries words s few has is = record {
  live = is.live;
  rising = by_entries slots entries s has (placed_in slots words s) is.live is.rising;
}
