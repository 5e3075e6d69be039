-- Parts of given sizes that stand one behind the other: a number tells the part and how far behind its start it is.
use Rattle.std.proofs.Common.{◌≡◌, ℕ, ◌+◌, ◌<◌, ◌≤◌, ⊎_elim, List, length, take, sum, slice_index, ap, arith, length-take}
use Rattle.std.proofs.lemmas.Bool.{cases_lt}
use Rattle.std.proofs.lemmas.List.{take-take, get_or-take, get_or_past}
use Rattle.std.proofs.lemmas.List.Sums.{sum_by_more_le}
use Rattle.pm_words.specs.Locations.{start_of}

-- only a part of the list has room
inside : (sizes : List ℕ) (k o : ℕ) → o < slice_index sizes k → k < length sizes
inside sizes k o fits = ⊎_elim (λ (lt : k < length sizes). lt) (λ (past : length sizes ≤ k). absurd (let none = get_or_past sizes k 0 past in omega arith)) (cases_lt k (length sizes))

-- what stands in a part stands before the end of all
pub part_within : (sizes : List ℕ) (k o : ℕ) → o < slice_index sizes k → start_of sizes k + o < sum sizes
part_within sizes k o fits = let all = sum_by_more_le (λ (size : ℕ). size) sizes k 0 (inside sizes k o fits) in omega arith

-- what stands in an earlier part comes first
pub earlier : (sizes : List ℕ) (j k o p : ℕ) → o < slice_index sizes j → j < k → start_of sizes j + o < start_of sizes k + p
earlier sizes j k o p fits lt =
    let front = take k sizes in
    let there = inside sizes j o fits in
    let parts = sum_by_more_le (λ (size : ℕ). size) front j 0 (omega (arith, length-take k sizes)) in
    let start : start_of front j ≡ start_of sizes j = ap sum (take-take j k sizes (omega arith)) in
    let size = get_or-take k sizes j 0 lt in
    omega arith

-- the part and the address in it are told by the number
pub part_tells : (sizes : List ℕ) (j k o p : ℕ) → o < slice_index sizes j → p < slice_index sizes k →
    start_of sizes j + o ≡ start_of sizes k + p → (j ≡ k) × (o ≡ p)
part_tells sizes j k o p o_fits p_fits e = ⊎_elim
    (λ (lt : j < k). absurd (let first = earlier sizes j k o p o_fits lt in omega arith))
    (λ (ge : k ≤ j). ⊎_elim
    (λ (lt : k < j). absurd (let first = earlier sizes k j p o p_fits lt in omega arith))
    (λ (le : j ≤ k). let same : j ≡ k = omega arith in (same, let starts = ap (start_of sizes) same in omega arith))
    (cases_lt k j))
    (cases_lt j k)
