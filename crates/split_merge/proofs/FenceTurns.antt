-- What a fence is after its turn, by cases.
use Rattle.std.proofs.Common.{◌≡◌, ℕ, ◌+◌, ◌-◌, ◌^◌, ◌<◌, ◌≤◌, true, false, cond, ltb, [], ◌∷◌, Option, Some, None, inl, inr, refl, sym, subst, arith}
use Rattle.std.proofs.lemmas.Bool.{cases_eq, ltb-true, ltb-false}
use Rattle.pm_words.specs.declared.action.Action.{Action}
use Rattle.pm_words.specs.declared.action.Action.TheVariants.{Load, Drain}
use Rattle.pm_words.specs.declared.fence.Fence.{Fence}
use Rattle.pm_words.specs.declared.fence.FenceAt.{FenceAt}
use Rattle.pm_words.specs.declared.fence.FenceAt.TheVariants as fence_at
use Rattle.pm_words.specs.Fences.{IsFence, fence_asks, fence_next, fence_at_next, fence_left, fence_at_left, FenceTurn, loads, drains, drains_last}
use Rattle.pm_words.proofs.Fencing.{fence_turns}
use Rattle.call_stages.specs.Kinds.{Cleans}

-- what holds of each fence with fewer actions to come, and where none is left, holds after a fence's turn
pub fence_goes : (P : Option Fence → Type 0) (fence : Fence) (x : ℕ) → IsFence fence
    → ((next : Fence) → fence_left next < fence_left fence → (x < 2 ^ 64 → IsFence next) → P (Some next))
    → (0 < fence_left fence → P None) → P (fence_next fence x)
fence_goes P fence x is on ended = leads fence.at on ended
  where
    word : fence.word < 8
    word = is.word

    leads : (k : FenceAt) → ((next : Fence) → fence_left next < fence_at_left fence.word k → (x < 2 ^ 64 → IsFence next) → P (Some next))
        → (0 < fence_at_left fence.word k → P None) → P (fence_at_next fence k x)
    leads fence_at.Load goes stops = goes (record fence { at = fence_at.Drain x }) (omega arith) (λ fits. record { word = is.word; value = fits })
    leads (fence_at.Drain y) goes stops =
        elim (ltb (fence.word + 1) 8) as (λ b. ltb (fence.word + 1) 8 ≡ b → P (cond b (Some (record { word = fence.word + 1; at = fence_at.Load })) None)) [
          | true ↦ λ more.
              let below = ltb-true _ _ more in
              goes (record { word = fence.word + 1; at = fence_at.Load }) (omega arith) (λ fits. record { word = below; value = tt })
          | false ↦ λ last. stops (omega arith)
        ] refl

-- what holds of each of its turns, by where its words stand, holds of a fence
pub each_turn : (address : ℕ → ℕ) (P : Fence → Action → Option Fence → Type 0) (fence : Fence) (x : ℕ) → IsFence fence → x < 2 ^ 64
    → ((word : ℕ) → word < 8 → P (record { word = word; at = fence_at.Load }) (Load (address word)) (Some (record { word = word; at = fence_at.Drain x })))
    → ((word y : ℕ) → word + 1 < 8 → y < 2 ^ 64 → P (record { word = word; at = fence_at.Drain y }) (Drain (address word) y) (Some (record { word = word + 1; at = fence_at.Load })))
    → ((word y : ℕ) → word + 1 ≡ 8 → y < 2 ^ 64 → P (record { word = word; at = fence_at.Drain y }) (Drain (address word) y) None)
    → P fence (fence_asks (address fence.word) fence) (fence_next fence x)
each_turn address P fence x is fits load drain last = by fence _ _ (fence_turns (address fence.word) fence x is fits)
  where
    by : (before : Fence) (action : Action) (after : Option Fence) → FenceTurn (address before.word) x before action after → P before action after
    by before action after (loads {word} small told) = load word small
    by before action after (drains {word} {value} more below) = drain word value more below
    by before action after (drains_last {word} {value} end below) = last word value end below

-- with the word in hand durable one word fewer isn't
pub shrinks : (most from to : ℕ) → to ≡ from + 1 → Cleans ((from, most - from) ∷ []) from ((to, most - to) ∷ [])
shrinks most from to is offset (inr none) = absurd none
shrinks most from to is offset (inl within) =
    let low : from ≤ offset = within.0 in
    let high : offset < from + (most - from) = within.1 in
    elim (cases_eq offset from) [
      | inl same ↦ inl same
      | inr other ↦ inr (inl (omega arith, omega arith))
    ]

pub vanishes : (most from : ℕ) → most ≤ from + 1 → Cleans ((from, most - from) ∷ []) from []
vanishes most from last offset (inr none) = absurd none
vanishes most from last offset (inl within) =
    let low : from ≤ offset = within.0 in
    let high : offset < from + (most - from) = within.1 in
    inl (omega arith)

-- a line of a row of words that is durable is followed by the next one, or is the row's last
pub line_ends : (most first : ℕ) {At : Type 0} (line past : At) (P : At → Type 0) → (first + 8 < most → P line) → (most ≤ first + 8 → P past) → P (cond (ltb (first + 8) most) line past)
line_ends most first line past P next all =
    elim (ltb (first + 8) most) as (λ b. ltb (first + 8) most ≡ b → P (cond b line past)) [ true ↦ λ another. next (ltb-true _ _ another) | false ↦ λ last. all (ltb-false _ _ last) ] refl

-- and of one on a line of a row of words, each turn of which leaves fewer that may not be durable: it goes on with its
-- line, with the next one, or is at the row's end
pub each_turn_of : (most first : ℕ) (address : ℕ → ℕ) {At : Type 0} (to : Option Fence → At) (line past : At) (P : Fence → Action → At → Type 0) (fence : Fence) (x : ℕ) → IsFence fence → x < 2 ^ 64
    → to None ≡ cond (ltb (first + 8) most) line past
    → ((word : ℕ) → word < 8 → P (record { word = word; at = fence_at.Load }) (Load (address word)) (to (Some (record { word = word; at = fence_at.Drain x }))))
    → ((word y : ℕ) → word + 1 < 8 → y < 2 ^ 64 → Cleans ((first + word, most - (first + word)) ∷ []) (first + word) ((first + (word + 1), most - (first + (word + 1))) ∷ [])
    → P (record { word = word; at = fence_at.Drain y }) (Drain (address word) y) (to (Some (record { word = word + 1; at = fence_at.Load }))))
    → ((word y : ℕ) → word < 8 → y < 2 ^ 64 → first + 8 < most → Cleans ((first + word, most - (first + word)) ∷ []) (first + word) ((first + 8 + 0, most - (first + 8 + 0)) ∷ [])
    → P (record { word = word; at = fence_at.Drain y }) (Drain (address word) y) line)
    → ((word y : ℕ) → word < 8 → y < 2 ^ 64 → Cleans ((first + word, most - (first + word)) ∷ []) (first + word) [] → P (record { word = word; at = fence_at.Drain y }) (Drain (address word) y) past)
    → P fence (fence_asks (address fence.word) fence) (to (fence_next fence x))
each_turn_of most first address to line past P fence x is fits ends load drain next all = each_turn address (λ before action after. P before action (to after)) fence x is fits load
    (λ word y more value. drain word y more value (shrinks most (first + word) (first + (word + 1)) (omega arith)))
    (λ word y end value. subst (λ at. P (record { word = word; at = fence_at.Drain y }) (Drain (address word) y) at) (sym ends)
    (line_ends most first line past (P (record { word = word; at = fence_at.Drain y }) (Drain (address word) y))
    (λ another. next word y (omega arith) value another (shrinks most (first + word) (first + 8 + 0) (omega arith)))
    (λ passed. all word y (omega arith) value (vanishes most (first + word) (omega arith)))))
