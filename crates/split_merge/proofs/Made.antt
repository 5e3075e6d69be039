-- What the code has made of the full node's words is the plan.
use Rattle.std.proofs.Common.{◌≡◌, ℕ, ◌-◌, ◌^◌, ◌<◌, ◌≤◌, ◌↔◌, List, length, get_or, slice_index, Contains, All, inl, inr, sym, subst, ap, ◌∙◌, arith}
use Rattle.std.specs.Int.{bit_at}
use Rattle.std.specs.List.{AllByRecursion}
use Rattle.std.specs.List.Sorted.{IsPermutation, IsSortedBy}
use Rattle.std.proofs.lemmas.Bool.{cases_eq}
use Rattle.std.proofs.lemmas.List.{get_or_default}
use Rattle.std.proofs.lemmas.Nat.Bits.{bit_at-lt, bit_at_ones, same_from_bits}
use Rattle.data_node.specs.Slots.{IsLive, AreAllLive}
use Rattle.data_node.specs.Orders.{live_slots, comes_before}
use Rattle.split_merge.specs.Plans.{entries_of, order_of, bits_of}
use Rattle.split_merge.proofs.Sorting.{sorted_is}
use Rattle.split_merge.proofs.Halving.{in_size, in_within, bits_has, bits_only}

-- with each bit set all slots are live
all_ones : (slots : ℕ) → slots ≤ 64 → AreAllLive (2 ^ 64 - 1) slots
all_ones slots few slot within = bit_at_ones 64 slot (omega arith)

-- a sorted list of all slots is the order
pub is_order : (full : List ℕ) (slots : ℕ) (xs : List ℕ) → slots ≤ 64 → IsPermutation (live_slots (2 ^ 64 - 1) slots) xs → IsSortedBy (comes_before (entries_of full)) xs → xs ≡ order_of full slots
unfolding order_of
is_order full slots xs few moves up = sorted_is (entries_of full) (2 ^ 64 - 1) slots xs (all_ones slots few) moves up

pub order_all : (full : List ℕ) (slots : ℕ) (xs : List ℕ) → slots ≤ 64 → xs ≡ order_of full slots → All (λ slot. slot < 64) xs
order_all full slots xs few same k d within =
    let size : length xs ≡ slots = ap length same ∙ in_size full slots few in
    let below = in_within full slots few k (omega arith) in
    let here : get_or xs k 0 ≡ slice_index (order_of full slots) k = ap (λ (l : List ℕ). slice_index l k) same in
    let other = get_or_default xs k d 0 within in
    omega arith

-- the bits of these slots are no other number
pub one_bits : (xs : List ℕ) (bits : ℕ) → AllByRecursion (λ slot. slot < 64) xs → ((slot : ℕ) → IsLive bits slot ↔ Contains xs slot) → bits ≡ bits_of xs
one_bits xs bits small says =
    same_from_bits bits (bits_of xs) (λ slot.
    let low = bit_at-lt bits slot in
    let low' = bit_at-lt (bits_of xs) slot in
    elim (cases_eq (bit_at bits slot) 1) [
      | inl live ↦
          let at = (says slot).0 live in
          let here : slice_index xs at.0 ≡ slot = get_or_default xs at.0 0 slot at.1 ∙ at.2 in
          let also : bit_at (bits_of xs) slot ≡ 1 = subst (IsLive (bits_of xs)) here (bits_has xs small at.0 at.1) in
          live ∙ sym also
      | inr clear ↦ elim (cases_eq (bit_at (bits_of xs) slot) 1) [
        | inl live ↦
            let at = bits_only xs small slot live in
            absurd (clear ((says slot).1 (at.0, at.1, get_or_default xs at.0 slot 0 at.1 ∙ at.2)))
        | inr also ↦ omega arith
      ]
    ])
