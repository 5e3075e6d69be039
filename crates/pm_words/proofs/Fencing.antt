-- The turns of a fence, by cases.
use Rattle.std.proofs.Common.{◌≡◌, ◌+◌, ◌<◌, ◌≤◌, true, false, cond, ltb, Option, Some, None, IfSome, refl, arith}
use Rattle.std.proofs.lemmas.Bool.{ltb-true, ltb-false}
use Rattle.pm_words.specs.declared.action.Action.{Action}
use Rattle.pm_words.specs.declared.fence.Fence.{Fence}
use Rattle.pm_words.specs.declared.fence.FenceAt.{FenceAt}
use Rattle.pm_words.specs.declared.fence.FenceAt.TheVariants as at
use Rattle.pm_words.specs.Fences.{IsFence, IsFenceAt, fence_at_asks, fence_at_next, FenceTurn, loads, drains, drains_last}
use Rattle.pm_words.specs.Laws.{FencesTurn, FencesStay}

pub fence_turns : FencesTurn
fence_turns address fence x is fits = turns fence.at is.value
  where
    turns : (k : FenceAt) → IsFenceAt k → FenceTurn address x (record fence { at = k }) (fence_at_asks address k) (fence_at_next fence k x)
    turns at.Load value = loads is.word fits
    turns (at.Drain y) value =
        elim (ltb (fence.word + 1) 8) as (λ b. ltb (fence.word + 1) 8 ≡ b
        → FenceTurn address x (record fence { at = at.Drain y }) (fence_at_asks address (at.Drain y)) (cond b (Some (record { word = fence.word + 1; at = at.Load })) None)) [
          | true ↦ λ more. drains (ltb-true _ _ more) value
          | false ↦ λ last. let small : fence.word < 8 = is.word in let past : 8 ≤ fence.word + 1 = ltb-false _ _ last in drains_last (omega arith) value
        ] refl

pub fence_stays : FencesStay
fence_stays fence x is fits = stays fence _ _ (fence_turns 0 fence x is fits)
  where
    stays : (before : Fence) (action : Action) (after : Option Fence) → FenceTurn 0 x before action after → IfSome after IsFence
    stays before action after (loads small value) = record { word = small; value = value }
    stays before action after (drains more value) = record { word = more; value = tt }
    stays before action after (drains_last end value) = tt
