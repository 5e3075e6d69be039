-- Each turn of the end of a change is a step of its stages.
use Rattle.std.proofs.Common.{◌≡◌, ℕ, ◌+◌, ◌^◌, ◌<◌, ◌≤◌, ◌==◌, true, false, cond, Option, Some, None, refl, sym, subst, arith}
use Rattle.std.proofs.lemmas.Bool.{eqb-true, eqb-false}
use Rattle.pm_words.specs.declared.layout.Layout.{Layout}
use Rattle.pm_words.specs.declared.action.Action.{Action}
use Rattle.pm_words.specs.declared.action.Action.TheVariants.{Store}
use Rattle.pm_words.specs.declared.fence.Fence.{Fence}
use Rattle.pm_words.specs.declared.machine.Turn.TheVariants.{Go, Done}
use Rattle.pm_words.specs.declared.fence.FenceAt.{FenceAt}
use Rattle.pm_words.specs.declared.fence.FenceAt.TheVariants as fence_at
use Rattle.pm_words.specs.Fences.{fence_at_asks, FenceTurn}
use Rattle.pm_words.specs.Fences as fences
use Rattle.pm_words.specs.Offsets.{reference_offset}
use Rattle.pm_words.proofs.Fencing.{fence_turns}
use Rattle.tree_law.specs.Words.{RootWord}
use Rattle.tree_change.specs.declared.finish.Target.{Target}
use Rattle.tree_change.specs.declared.finish.Target.TheVariants as target
use Rattle.tree_change.specs.declared.finish.Finish.{Finish}
use Rattle.tree_change.specs.declared.finish.FinishAt.{FinishAt}
use Rattle.tree_change.specs.declared.finish.FinishAt.TheVariants as at
use Rattle.tree_change.specs.Finishes.{target_image, line_image, IsTarget, IsFinish, IsFinishAt, cached_at, finish_at_asks, finish_at_turned, quiet_drained, switch_drained}
use Rattle.tree_change.specs.Finishes as finishes
use Rattle.tree_change.specs.Endings.{target_word, line_word, own, loads, drains, Quieted, Switched, Unmarks, EndStep, quiets, glances_quiet, drains_quiet, drains_quiet_last, switches, glances, drains_switch, drains_switch_last, unmarks, word_in_hand, ending_at, fence_effect, effect_at, ending_after, mark, glance, drain, HasEffect, FinishTurns, Stores, Beside}

own_small : (l : Layout) (p : Target) → IsTarget l p → own p < 8
own_small l target.Root is = omega arith
own_small l (target.Leaf leaf offset) is = is.1
own_small l (target.Cell cell offset) is = omega arith

store_effect : (l : Layout) (p : Target) (y : ℕ) → HasEffect l (Store (cached_at l (target_image p)) y) (Stores (target_word p) y)
store_effect l target.Root y = refl
store_effect l (target.Leaf leaf offset) y = refl
store_effect l (target.Cell cell offset) y = refl

fence_has : (l : Layout) (p : Target) (word : ℕ) (part : FenceAt) (got : ℕ) → word < 8 → HasEffect l (fence_at_asks (cached_at l (line_image p word)) part) (fence_effect p word part got)
fence_has l target.Root word fence_at.Load got small = elim (word == 0) as (λ a. (word == 0) ≡ a → HasEffect l (fence_at_asks (cached_at l (line_image target.Root word)) fence_at.Load) (loads (cond a (Some RootWord) None) got)) [
  | true ↦ λ e. subst (λ k. fence_at_asks (cached_at l (line_image target.Root k)) fence_at.Load ≡ fence_at_asks (cached_at l (line_image target.Root reference_offset)) fence_at.Load) (sym (eqb-true _ _ e)) refl
  | false ↦ λ e. let some_word = eqb-false _ _ e in glance (omega (arith, some_word)) small
] refl
fence_has l target.Root word (fence_at.Drain y) got small = elim (word == 0) as (λ a. (word == 0) ≡ a → HasEffect l (fence_at_asks (cached_at l (line_image target.Root word)) (fence_at.Drain y)) (drains (cond a (Some RootWord) None) y)) [
  | true ↦ λ e. subst (λ k. fence_at_asks (cached_at l (line_image target.Root k)) (fence_at.Drain y) ≡ fence_at_asks (cached_at l (line_image target.Root reference_offset)) (fence_at.Drain y)) (sym (eqb-true _ _ e)) refl
  | false ↦ λ e. let some_word = eqb-false _ _ e in drain (omega (arith, some_word)) small
] refl
fence_has l (target.Leaf leaf offset) word fence_at.Load got small = refl
fence_has l (target.Leaf leaf offset) word (fence_at.Drain y) got small = refl
fence_has l (target.Cell cell offset) word fence_at.Load got small = refl
fence_has l (target.Cell cell offset) word (fence_at.Drain y) got small = refl

module _ (f : Finish) (is : IsFinish f) where
  pub has_effect : (part : FinishAt) (got : ℕ) → IsFinishAt f.layout part → HasEffect f.layout (finish_at_asks f part) (effect_at f part got)
  has_effect at.Quiet got here = store_effect f.layout f.quiet.target f.quiet.word
  has_effect (at.QuietFence fence) got here = fence_has f.layout f.quiet.target fence.word fence.at got here.word
  has_effect at.Switch got here = store_effect f.layout f.switch.target f.switch.word
  has_effect (at.SwitchFence fence) got here = fence_has f.layout f.switch.target fence.word fence.at got here.word
  has_effect (at.Unmark reference) got here = mark here

  unmarks_is : ending_after (finishes.unmarks f) ≡ Unmarks
  unmarks_is = elim (f.free == 0) as (λ a. ending_after (cond a (Done tt) (Go (record f { free = f.next; next = 0; at = at.Unmark f.free }))) ≡ Unmarks) [ true ↦ refl | false ↦ refl ]

  quiet_step : (got : ℕ) (before : Fence) (action : Action) (after : Option Fence) → FenceTurn 0 got before action after
      → EndStep (Quieted f.quiet.target before.word (word_in_hand before.at) f.switch.target f.switch.word) (fence_effect f.quiet.target before.word before.at got) (ending_after (quiet_drained f after))
  quiet_step got before action after (fences.loads small value) = glances_quiet
  quiet_step got before action after (fences.drains more value) = drains_quiet
  quiet_step got before action after (fences.drains_last {word} last value) = drains_quiet_last (let past : 8 ≤ word + 1 = omega arith in past)

  switch_step : (got : ℕ) (before : Fence) (action : Action) (after : Option Fence) → FenceTurn 0 got before action after
      → EndStep (Switched f.switch.target before.word (word_in_hand before.at)) (fence_effect f.switch.target before.word before.at got) (ending_after (switch_drained f after))
  switch_step got before action after (fences.loads small value) = glances
  switch_step got before action after (fences.drains more value) = drains_switch
  switch_step got before action after (fences.drains_last {word} {value} last small) =
      subst (λ t. EndStep (Switched f.switch.target word (Some value)) (drains (line_word f.switch.target word) value) t) (sym unmarks_is) (drains_switch_last (let past : 8 ≤ word + 1 = omega arith in past))

  turn : (part : FinishAt) (got : ℕ) → IsFinishAt f.layout part → got < 2 ^ 64 → EndStep (ending_at f part) (effect_at f part got) (ending_after (finish_at_turned f part got))
  turn at.Quiet got here fits = quiets (own_small f.layout f.quiet.target is.quiet)
  turn (at.QuietFence fence) got here fits = quiet_step got fence _ _ (fence_turns 0 fence got here fits)
  turn at.Switch got here fits = switches (own_small f.layout f.switch.target is.switch)
  turn (at.SwitchFence fence) got here fits = switch_step got fence _ _ (fence_turns 0 fence got here fits)
  turn (at.Unmark reference) got here fits = subst (λ t. EndStep Unmarks Beside t) (sym unmarks_is) unmarks

pub finish_turns : FinishTurns
finish_turns f got takes = (has_effect f takes.0 f.at got takes.0.here, turn f takes.0 f.at got takes.0.here takes.1)
