-- Each turn of a merge leaves fewer actions to come.
use Rattle.std.proofs.Common.{◌≡◌, ℕ, ◌+◌, ◌-◌, ◌*◌, ◌<◌, ◌≤◌, ◌==◌, true, false, cond, ltb, Option, refl, arith}
use Rattle.pm_words.specs.Turns.{GoesBelow}
use Rattle.pm_words.specs.declared.fence.Fence.{Fence}
use Rattle.pm_words.specs.Fences.{IsFence, fence_start, fence_next, fence_left, fence_at_left}
use Rattle.data_node.specs.Bits.{without_live, live_count}
use Rattle.data_node.proofs.LiveCounts.{live_most, live_without}
use Rattle.split_merge.specs.declared.joining.Join.{Join}
use Rattle.split_merge.specs.declared.joining.JoinAt.TheVariants as at
use Rattle.split_merge.specs.Unions.{IsUnion, joined_end, own_prints}
use Rattle.split_merge.specs.Joins.{IsLeft, lowest, after_open, after_slot, after_copy, after_copies, joins_on, join_left}
use Rattle.split_merge.proofs.LeftLemmas.{first_left}
use Rattle.split_merge.proofs.FenceTurns.{fence_goes, line_ends}

pub open_fewer : (join : Join) → GoesBelow {A = Unit {0}} join_left 2000 (joins_on join (after_open join.union))
open_fewer join =
    let most = live_most 64 join.union.pairs.targets in
    elim (join.union.pairs.targets == 0) as (λ b. GoesBelow {A = Unit {0}} join_left 2000 (joins_on join (cond b at.Bitmap (at.Load join.union.pairs.targets 0)))) [
      | true ↦ omega arith
      | false ↦ omega arith
    ]

pub copy_fewer : (join : Join) (left word : ℕ) → IsUnion join.union → IsLeft join.union left → word < 4
    → GoesBelow {A = Unit {0}} join_left (1399 + 8 * live_count 64 left - 2 * word) (joins_on join (after_copy left word))
copy_fewer join left word sound is within =
    let first = first_left join.union left sound is in
    let fewer = live_without 64 left (lowest left) (omega arith) first.within first.live in
    let few : join.union.layout.slots ≤ 64 = sound.layout.slots.1 in
    let prints : own_prints join.union ≤ 4 = omega arith in
    elim (ltb (word + 1) 4) as (λ b. ltb (word + 1) 4 ≡ b → GoesBelow {A = Unit {0}} join_left (1399 + 8 * live_count 64 left - 2 * word)
    (joins_on join (cond b (at.Load left (word + 1)) (after_slot (without_live left (lowest left)))))) [
      | true ↦ λ more. omega arith
      | false ↦ λ last.
          elim (without_live left (lowest left) == 0) as (λ b. GoesBelow {A = Unit {0}} join_left (1399 + 8 * live_count 64 left - 2 * word)
          (joins_on join (cond b (at.Print 0) (at.Load (without_live left (lowest left)) 0)))) [
            | true ↦ omega arith
            | false ↦ omega arith
          ]
    ] refl

pub copies_fewer : (join : Join) (first : ℕ) (fence : Fence) (x : ℕ) → first < joined_end join.union → joined_end join.union ≤ 272 → IsFence fence
    → GoesBelow {A = Unit {0}} join_left (3 * (272 - first) + fence_at_left fence.word fence.at + 160) (joins_on join (after_copies join.union first (fence_next fence x)))
copies_fewer join first fence x inside most is = fence_goes (λ (next : Option Fence). GoesBelow {A = Unit {0}} join_left (3 * (272 - first) + fence_left fence + 160) (joins_on join (after_copies join.union first next))) fence x is
    (λ next fewer fits. omega (arith, fewer))
    (λ some. line_ends (joined_end join.union) first (at.FenceCopies (first + 8) fence_start) at.Bitmap (λ to. GoesBelow {A = Unit {0}} join_left (3 * (272 - first) + fence_left fence + 160) (joins_on join to))
    (λ below. omega (arith, some, below, most)) (λ past. omega arith))
