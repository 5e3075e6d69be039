-- The turns of a write's ends, by cases: what holds wherever one goes on to, and at its end, holds after each turn.
use Rattle.std.proofs.Common.{◌≡◌, ℕ, ◌+◌, true, false, cond, ltb, Option, Some, None, refl}
use Rattle.pm_words.specs.declared.machine.Turn.{Turn}
use Rattle.pm_words.specs.declared.machine.Turn.TheVariants.{Done}
use Rattle.pm_words.specs.declared.fence.Fence.{Fence}
use Rattle.pm_words.specs.Fences.{fence_start, fence_next}
use Rattle.call_stages.specs.declared.once.Once.{Once}
use Rattle.call_stages.specs.declared.once.Once.TheVariants as once
use Rattle.call_stages.specs.declared.once.Placed.{Placed}
use Rattle.node_ops.specs.declared.fill.Fill.{Fill}
use Rattle.node_ops.specs.declared.fill.FillAt.{FillAt}
use Rattle.node_ops.specs.declared.fill.FillAt.TheVariants as fill_at
use Rattle.node_ops.specs.declared.finish.Finish.{Finish}
use Rattle.node_ops.specs.declared.finish.FinishAt.{FinishAt}
use Rattle.node_ops.specs.declared.finish.FinishAt.TheVariants as finish_at
use Rattle.node_ops.specs.FillSteps.{fills_on, filled, slot_fenced, print_fenced, fill_at_turned}
use Rattle.node_ops.specs.FinishSteps.{finishes_on, finish_fenced, finish_at_turned}

-- of the writing into a slot
pub fill_turn_is : (P : Turn Fill Finish → Type 0) (fill : Fill) (at : FillAt) (x : ℕ)
    → ((next : FillAt) → P (fills_on fill next)) → (at ≡ fill_at.Bitmap → P (Done (filled fill)))
    → P (fill_at_turned fill at x)
fill_turn_is P fill at x on ends = by at refl
  where
    slot_fence : (o : Option Fence) → P (slot_fenced fill o)
    slot_fence (Some fence) = on (fill_at.FenceSlot fence)
    slot_fence None = on (fill_at.FencePrint fence_start)

    print_fence : (o : Option Fence) → P (print_fenced fill o)
    print_fence (Some fence) = on (fill_at.FencePrint fence)
    print_fence None = on fill_at.Bitmap

    by : (now : FillAt) → at ≡ now → P (fill_at_turned fill now x)
    by (fill_at.Word k) is =
        elim (ltb (k + 1) 4) as (λ b. P (cond b (fills_on fill (fill_at.Word (k + 1))) (fills_on fill fill_at.Print))) [
          | true ↦ on (fill_at.Word (k + 1))
          | false ↦ on fill_at.Print
        ]
    by fill_at.Print is = on (fill_at.FenceSlot fence_start)
    by (fill_at.FenceSlot fence) is = slot_fence (fence_next fence x)
    by (fill_at.FencePrint fence) is = print_fence (fence_next fence x)
    by fill_at.Bitmap is = ends is

-- and of what is left once the store is made
pub finish_turn_is : (P : Turn Finish (Once Placed) → Type 0) (finish : Finish) (at : FinishAt) (x : ℕ)
    → ((next : FinishAt) → P (finishes_on finish next)) → ((placed : Placed) → P (Done (once.Done placed)))
    → P (finish_at_turned finish at x)
finish_turn_is P finish at x on ends = by at
  where
    fenced : (line : ℕ) (o : Option Fence) → P (finish_fenced finish line o)
    fenced line (Some fence) = on (finish_at.Fence line fence)
    fenced line None = on finish_at.Add

    by : (now : FinishAt) → P (finish_at_turned finish now x)
    by (finish_at.Fence line fence) = fenced line (fence_next fence x)
    by finish_at.Add = on (finish_at.Unlock x)
    by (finish_at.Unlock place) = ends (record { old = finish.old; place = place; hops = finish.call.hops })
