-- The slots at the first places of a permutation.
use Rattle.std.proofs.Common.{◌≡◌, ℕ, zero, suc, ◌<◌, ◌≤◌, ◌/◌, ◌%◌, ◌==◌, true, false, cond, [], ◌∷◌, ◌++◌, length, slice_index, refl, arith}
use Rattle.std.specs.Int.{w64, to_le_bytes, bit_at}
use Rattle.std.proofs.lemmas.List.{length-append}
use Rattle.data_node.specs.Orders.{live_slots}
use Rattle.permutation.specs.Permutations.{first_slots, slot_at}

-- eight words tell all places
pub slots_same : (q r : ℕ → ℕ) → ((k : ℕ) → k < 8 → q k ≡ r k) → (n : ℕ) → n ≤ 64 → first_slots q n ≡ first_slots r n
slots_same q r same zero few = refl
slots_same q r same (suc n) few =
    let before = slots_same q r same n (omega arith) in
    let word : q (n / 8) ≡ r (n / 8) = same (n / 8) (omega arith) in
    λ i. before i ++ (slice_index (to_le_bytes w64 (word i)) (n % 8) ∷ [])

pub length-first_slots : (q : ℕ → ℕ) (n : ℕ) → length (first_slots q n) ≡ n
length-first_slots q zero = refl
length-first_slots q (suc n) =
    let before = length-first_slots q n in
    let parts = length-append (first_slots q n) (slot_at q n ∷ []) in
    omega arith

-- there are no more live slots than slots
pub live_few : (bitmap n : ℕ) → length (live_slots bitmap n) ≤ n
live_few bitmap zero = omega arith
live_few bitmap (suc n) =
    let before = live_few bitmap n in
    let parts = length-append (live_slots bitmap n) (n ∷ []) in
    elim (bit_at bitmap n == 1) as (λ b. length (cond b (live_slots bitmap n ++ (n ∷ [])) (live_slots bitmap n)) ≤ suc n) [
      | true ↦ omega arith
      | false ↦ omega arith
    ]
