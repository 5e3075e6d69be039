-- Each turn leaves fewer actions to come.
use Rattle.std.proofs.Common.{ℕ, ◌+◌, ◌-◌, ◌*◌, ◌<◌, ◌≤◌, ◌==◌, true, false, cond, Option, arith}
use Rattle.pm_words.specs.Turns.{GoesBelow}
use Rattle.pm_words.specs.declared.fence.Fence.{Fence}
use Rattle.smo_log.specs.declared.open.OpenAt.TheVariants as open_at
use Rattle.pm_words.specs.Fences.{IsFence, fence_start, fence_next, fence_left, fence_at_left}
use Rattle.pm_words.specs.Offsets.{kind_offset}
use Rattle.split_merge.specs.declared.moving.Move.{Move}
use Rattle.split_merge.specs.declared.moving.MoveAt.TheVariants as at
use Rattle.split_merge.specs.Plans.{next_in, entry_in}
use Rattle.split_merge.specs.Moves.{filled_end, after_fence, after_switch, moves_on, move_left}
use Rattle.split_merge.proofs.FenceTurns.{fence_goes, line_ends}

pub fresh_fewer : (move : Move) (first : ℕ) (fence : Fence) (x : ℕ) → first < filled_end move.plan → filled_end move.plan ≤ 272 → IsFence fence
    → GoesBelow {A = Unit {0}} move_left (3 * (272 - first) + fence_at_left fence.word fence.at + 160) (moves_on move (after_fence move.plan first (fence_next fence x)))
fresh_fewer move first fence x inside most is = fence_goes (λ (next : Option Fence). GoesBelow {A = Unit {0}} move_left (3 * (272 - first) + fence_left fence + 160) (moves_on move (after_fence move.plan first next))) fence x is
    (λ next fewer fits. omega (arith, fewer))
    (λ some. line_ends (filled_end move.plan) first (at.FenceFresh (first + 8) fence_start) (at.Open (record { layout = move.plan.layout; line = move.plan.share.line; entry = entry_in move.plan; at = open_at.Field kind_offset }))
    (λ to. GoesBelow {A = Unit {0}} move_left (3 * (272 - first) + fence_left fence + 160) (moves_on move to)) (λ below. omega (arith, some, below, most)) (λ past. omega arith))

pub switch_fewer : (move : Move) (fence : Fence) (x : ℕ) → IsFence fence
    → GoesBelow {A = Unit {0}} move_left (fence_at_left fence.word fence.at + 80) (moves_on move (after_switch move.plan (fence_next fence x)))
switch_fewer move fence x is =
    fence_goes (λ (next : Option Fence). GoesBelow {A = Unit {0}} move_left (fence_left fence + 80) (moves_on move (after_switch move.plan next)))
    fence x is (λ next fewer fits. omega (arith, fewer))
    (λ some.
    elim (next_in move.plan == 0) as (λ b. GoesBelow {A = Unit {0}} move_left (fence_left fence + 80) (moves_on move (cond b at.Trim at.NextPrev))) [
      | true ↦ omega arith
      | false ↦ omega arith
    ])
