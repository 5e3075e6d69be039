-- The live slots in rising order of names: sorting finds them, whatever way it goes.
use Rattle.std.proofs.Common.{◌≡◌, ℕ, zero, suc, ◌+◌, ◌<◌, ◌≤◌, ◌==◌, Bool, true, false, cond, List, [], ◌∷◌, ◌++◌, length, slice_index, refl, sym, ap, ◌∙◌, arith}
use Rattle.std.specs.Int.{bit_at}
use Rattle.std.specs.List.{AllByRecursion}
use Rattle.std.specs.List.Sorted.{IsPermutation, IsSortedBy}
use Rattle.std.proofs.lemmas.List.{get_or_default, length-append}
use Rattle.std.proofs.lemmas.List.Sorted.{ranks_by, sorted_far, sum_by-IsPermutation}
use Rattle.std.proofs.lemmas.List.Sorted.{IsPermutation-refl, IsPermutation-trans, IsPermutation-middle, IsPermutation-cons, IsPermutation-to_front}
use Rattle.data_node.specs.Bits.{live_count}
use Rattle.data_node.specs.Orders.{live_slots, comes_before}
use Rattle.data_node.proofs.NameCounts.{one_if}
use Rattle.split_merge.specs.Plans.{put_in}
use Rattle.split_merge.proofs.Sorting.{put_size, strict_at, tally_in, Strict, all_weaker, sum_tally, tally_push, put_tally, put_all, put_strict, one_order, far_rises, strict_rises, is_total, before_total, before_leads, before_one_way}
use Rattle.node_ops.specs.PartSteps.{live_order}

-- each slot stands there as often as among the live ones
pub live_order_tally : (before : ℕ → ℕ → Bool) (bitmap : ℕ) (p : ℕ → Bool) (n : ℕ) → tally_in p (live_order before bitmap n) ≡ tally_in p (live_slots bitmap n)
live_order_tally before bitmap p zero = refl
live_order_tally before bitmap p (suc n) =
    let rest = live_order_tally before bitmap p n in
    elim (bit_at bitmap n == 1) as (λ b. tally_in p (cond b (put_in before n (live_order before bitmap n)) (live_order before bitmap n)) ≡ tally_in p (cond b (live_slots bitmap n ++ (n ∷ [])) (live_slots bitmap n))) [
      | true ↦ put_tally before p n (live_order before bitmap n) ∙ ap (λ k. one_if (p n) + k) rest ∙ sym (tally_push p (live_slots bitmap n) n)
      | false ↦ rest
    ]

-- and is one of the first so many
pub live_order_within : (before : ℕ → ℕ → Bool) (bitmap n : ℕ) → AllByRecursion (λ slot. slot < n) (live_order before bitmap n)
live_order_within before bitmap zero = tt
live_order_within before bitmap (suc n) =
    let rest : AllByRecursion (λ slot. slot < suc n) (live_order before bitmap n) =
    all_weaker (λ slot. slot < n) (λ slot. slot < suc n) (λ slot below. omega arith) (live_order before bitmap n) (live_order_within before bitmap n) in
    elim (bit_at bitmap n == 1) as (λ b. AllByRecursion (λ slot. slot < suc n) (cond b (put_in before n (live_order before bitmap n)) (live_order before bitmap n))) [
      | true ↦ put_all before (λ slot. slot < suc n) n (live_order before bitmap n) (omega arith) rest
      | false ↦ rest
    ]

-- in order
pub live_order_strict : (entries : List (List ℕ)) (bitmap n : ℕ) → Strict (comes_before entries) (live_order (comes_before entries) bitmap n)
live_order_strict entries bitmap zero = tt
live_order_strict entries bitmap (suc n) =
    let before = comes_before entries in
    let rest = live_order_strict entries bitmap n in
    elim (bit_at bitmap n == 1) as (λ b. Strict before (cond b (put_in before n (live_order before bitmap n)) (live_order before bitmap n))) [
      | true ↦ put_strict before (before_total entries) (before_leads entries) n (live_order before bitmap n) (live_order_within before bitmap n) rest
      | false ↦ rest
    ]

-- a sorted list of the live slots is that order
pub order_is : (entries : List (List ℕ)) (bitmap n : ℕ) (xs : List ℕ) → IsPermutation (live_slots bitmap n) xs → IsSortedBy (comes_before entries) xs → xs ≡ live_order (comes_before entries) bitmap n
order_is entries bitmap n xs moves up =
    let before = comes_before entries in
    one_order before (before_total entries) xs (live_order before bitmap n)
    (far_rises entries xs (λ i j le within. sorted_far before (ranks_by (is_total entries) (λ (x : ℕ). x)) xs up i j 0 le within))
    (strict_rises before (before_one_way entries) (live_order before bitmap n) (live_order_strict entries bitmap n))
    (λ v.
    let one = sum_by-IsPermutation (λ x. one_if (x == v)) (live_slots bitmap n) xs moves in
    sym (sum_tally (λ x. x == v) xs) ∙ one ∙ sum_tally (λ x. x == v) (live_slots bitmap n) ∙ sym (live_order_tally before bitmap (λ x. x == v) n))

-- a slot that is put in stands among the others
put_moves : (before : ℕ → ℕ → Bool) (x : ℕ) (xs : List ℕ) → IsPermutation (x ∷ xs) (put_in before x xs)
put_moves before x [] = IsPermutation-refl (x ∷ [])
put_moves before x (y ∷ ys) =
    elim (before x y) as (λ b. IsPermutation (x ∷ y ∷ ys) (cond b (x ∷ y ∷ ys) (y ∷ put_in before x ys))) [
      | true ↦ IsPermutation-refl (x ∷ y ∷ ys)
      | false ↦ IsPermutation-trans (x ∷ y ∷ ys) (y ∷ x ∷ ys) (y ∷ put_in before x ys) (IsPermutation-middle (x ∷ []) y ys) (IsPermutation-cons y (x ∷ ys) (put_in before x ys) (put_moves before x ys))
    ]

-- that order has the live slots,
pub live_order_moves : (before : ℕ → ℕ → Bool) (bitmap n : ℕ) → IsPermutation (live_slots bitmap n) (live_order before bitmap n)
live_order_moves before bitmap zero = IsPermutation-refl []
live_order_moves before bitmap (suc n) =
    let xs = live_slots bitmap n in
    let ys = live_order before bitmap n in
    let rest = live_order_moves before bitmap n in
    elim (bit_at bitmap n == 1) as (λ b. IsPermutation (cond b (xs ++ (n ∷ [])) xs) (cond b (put_in before n ys) ys)) [
      | true ↦ IsPermutation-trans (xs ++ (n ∷ [])) (n ∷ xs) (put_in before n ys) (IsPermutation-to_front xs n) (IsPermutation-trans (n ∷ xs) (n ∷ ys) (put_in before n ys) (IsPermutation-cons n xs ys rest) (put_moves before n ys))
      | false ↦ rest
    ]

-- rising,
pub live_order_sorted : (entries : List (List ℕ)) (bitmap n : ℕ) → IsSortedBy (comes_before entries) (live_order (comes_before entries) bitmap n)
live_order_sorted entries bitmap n k d low within =
    let before = comes_before entries in
    let xs = live_order before bitmap n in
    let up : before (slice_index xs k) (slice_index xs (k + 1)) ≡ true = strict_at before xs (live_order_strict entries bitmap n) k (k + 1) (omega arith) (omega arith) in
    (λ i. before (get_or_default xs (k + 1) d 0 (omega arith) i) (get_or_default xs k d 0 (omega arith) i)) ∙ before_one_way entries (slice_index xs k) (slice_index xs (k + 1)) up

-- as many as there are
pub live_order_size : (before : ℕ → ℕ → Bool) (bitmap n : ℕ) → length (live_order before bitmap n) ≡ live_count n bitmap
live_order_size before bitmap zero = refl
live_order_size before bitmap (suc n) =
    let rest = live_order_size before bitmap n in
    elim (bit_at bitmap n == 1) as (λ b. length (cond b (put_in before n (live_order before bitmap n)) (live_order before bitmap n)) ≡ cond b 1 0 + live_count n bitmap) [
      | true ↦ let one = put_size before n (live_order before bitmap n) in omega arith
      | false ↦ omega arith
    ]

pub live_slots_size : (bitmap n : ℕ) → length (live_slots bitmap n) ≡ live_count n bitmap
live_slots_size bitmap zero = refl
live_slots_size bitmap (suc n) =
    let rest = live_slots_size bitmap n in
    elim (bit_at bitmap n == 1) as (λ b. length (cond b (live_slots bitmap n ++ (n ∷ [])) (live_slots bitmap n)) ≡ cond b 1 0 + live_count n bitmap) [
      | true ↦ let one = length-append (live_slots bitmap n) (n ∷ []) in omega arith
      | false ↦ omega arith
    ]

-- no more slots are live than there are
pub live_order_few : (before : ℕ → ℕ → Bool) (bitmap n : ℕ) → length (live_order before bitmap n) ≤ n
live_order_few before bitmap zero = omega arith
live_order_few before bitmap (suc n) =
    let rest = live_order_few before bitmap n in
    elim (bit_at bitmap n == 1) as (λ b. length (cond b (put_in before n (live_order before bitmap n)) (live_order before bitmap n)) ≤ suc n) [
      | true ↦ let one = put_size before n (live_order before bitmap n) in omega arith
      | false ↦ omega arith
    ]
