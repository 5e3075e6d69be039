-- The end of a change stays one, and does less and less, whatever it is told.
use Rattle.std.proofs.Common.{◌≡◌, ℕ, ◌+◌, ◌^◌, ◌<◌, ◌≤◌, ◌==◌, true, false, cond, Option, Some, None, refl, arith}
use Rattle.std.proofs.lemmas.Bool.{eqb-false}
use Rattle.pm_words.specs.declared.machine.Turn.TheVariants.{Go, Done}
use Rattle.pm_words.specs.declared.fence.Fence.{Fence}
use Rattle.pm_words.specs.declared.action.Action.{Action}
use Rattle.pm_words.specs.Fences.{IsFence, fence_next, fence_left, fence_start, FenceTurn}
use Rattle.pm_words.specs.Fences as turn
use Rattle.pm_words.proofs.Fencing.{fence_turns}
use Rattle.tree_change.specs.declared.finish.Finish.{Finish}
use Rattle.tree_change.specs.declared.finish.FinishAt.{FinishAt}
use Rattle.tree_change.specs.declared.finish.FinishAt.TheVariants as at
use Rattle.tree_change.specs.Finishes.{IsFinish, IsFinishAt, finish_at_left, finish_at_turned, quiet_drained, switch_drained, unmarks, frees, finish_to, FinishAfter, FinishStays}

-- what is left of a fence
abbrev FenceAfter : Fence → Option Fence → Type 0
FenceAfter fence (Some next) = IsFence next × (fence_left next < fence_left fence)
FenceAfter fence None = 1 ≤ fence_left fence

fence_after : (fence : Fence) (got : ℕ) → IsFence fence → got < 2 ^ 64 → FenceAfter fence (fence_next fence got)
fence_after fence got is fits = falls fence _ _ (fence_turns 0 fence got is fits)
  where
    falls : (before : Fence) (action : Action) (after : Option Fence) → FenceTurn 0 got before action after → FenceAfter before after
    falls before action after (turn.loads {word} small value) = (record { word = small; value = value }, omega arith)
    falls before action after (turn.drains {word} more value) = (record { word = more; value = tt }, omega arith)
    falls before action after (turn.drains_last {word} last value) = omega arith

fence_starts : IsFence fence_start
fence_starts = record { word = omega arith; value = tt }

module _ (f : Finish) (is : IsFinish f) where
  moves : (part : FinishAt) (left : ℕ) → IsFinishAt f.layout part → finish_at_left f part < left → FinishAfter f left (finish_to f part)
  moves part left here fewer = record {
    is = record { layout = is.layout; quiet = is.quiet; switch = is.switch; quiet_word = is.quiet_word; switch_word = is.switch_word; free = is.free; next = is.next; here = here };
    layout = refl;
    quiet = refl;
    switch = refl;
    fewer = fewer;
  }

  unmarks_after : (left : ℕ) → frees f.free f.next < left → FinishAfter f left (unmarks f)
  unmarks_after left enough = elim (f.free == 0) as (λ a. (f.free == 0) ≡ a → cond a 0 (cond (f.next == 0) 1 2) < left → FinishAfter f left (cond a (Done tt) (Go (record f { free = f.next; next = 0; at = at.Unmark f.free })))) [
    | true ↦ λ e less. tt
    | false ↦ λ e less.
        let some_free = eqb-false _ _ e in
        record {
          is = record { layout = is.layout; quiet = is.quiet; switch = is.switch; quiet_word = is.quiet_word; switch_word = is.switch_word; free = is.next; next = λ wrong. absurd (wrong refl); here = is.free some_free };
          layout = refl;
          quiet = refl;
          switch = refl;
          fewer = elim (f.next == 0) as (λ a. cond a 1 2 < left → 1 + cond a 0 1 < left) [ true ↦ λ l. l | false ↦ λ l. l ] less;
        }
  ] refl enough

  frees_few : frees f.free f.next ≤ 2
  frees_few = elim (f.free == 0) as (λ a. cond a 0 (cond (f.next == 0) 1 2) ≤ 2) [
    | true ↦ (let b : 0 ≤ 2 = omega arith in b)
    | false ↦ elim (f.next == 0) as (λ a. cond a 1 2 ≤ 2) [ true ↦ (let b : 1 ≤ 2 = omega arith in b) | false ↦ (let b : 2 ≤ 2 = omega arith in b) ]
  ]

  quiet_after : (fence : Fence) (s : Option Fence) → FenceAfter fence s → FinishAfter f (fence_left fence + 20) (quiet_drained f s)
  quiet_after fence (Some next) after = let less = after.1 in moves (at.QuietFence next) (fence_left fence + 20) after.0 (omega arith)
  quiet_after fence None after = let some_left : 1 ≤ fence_left fence = after in moves at.Switch (fence_left fence + 20) tt (omega arith)

  switch_after : (fence : Fence) (s : Option Fence) → FenceAfter fence s → FinishAfter f (fence_left fence + 3) (switch_drained f s)
  switch_after fence (Some next) after = let less = after.1 in moves (at.SwitchFence next) (fence_left fence + 3) after.0 (omega arith)
  switch_after fence None after = let few = frees_few in unmarks_after (fence_left fence + 3) (omega arith)

  after_turn : (part : FinishAt) (got : ℕ) → got < 2 ^ 64 → IsFinishAt f.layout part → FinishAfter f (finish_at_left f part) (finish_at_turned f part got)
  after_turn at.Quiet got fits here = moves (at.QuietFence fence_start) 37 fence_starts (let less : 16 + 20 < 37 = omega arith in less)
  after_turn (at.QuietFence fence) got fits here = quiet_after fence (fence_next fence got) (fence_after fence got here fits)
  after_turn at.Switch got fits here = moves (at.SwitchFence fence_start) 20 fence_starts (let less : 16 + 3 < 20 = omega arith in less)
  after_turn (at.SwitchFence fence) got fits here = switch_after fence (fence_next fence got) (fence_after fence got here fits)
  after_turn (at.Unmark reference) got fits here = unmarks_after (1 + frees f.free f.next) (omega arith)

pub finish_stays : FinishStays
finish_stays f got takes = after_turn f takes.0 f.at got takes.1 takes.0.here
