-- Each turn of a fence of a line is a step on the line.
use Rattle.std.proofs.Common.{ℕ, ◌+◌, ◌-◌, ◌^◌, ◌<◌, ◌≤◌, ◌≡◌, Bool, true, List, [], ◌∷◌, Option, Some, None, inl, inr, refl, arith}
use Rattle.std.proofs.lemmas.Bool.{cases_eq}
use Rattle.pm_words.specs.declared.layout.Layout.{Layout}
use Rattle.pm_words.specs.declared.action.Action.{Action}
use Rattle.call_stages.specs.Kinds.{Cleans}
use Rattle.call_stages.specs.Lines.{IsBlind, Notes, looks_up, keeps_safe}
use Rattle.pm_words.specs.declared.fence.Fence.{Fence}
use Rattle.pm_words.specs.Fences.{IsFence, fence_asks, fence_next, FenceTurn}
use Rattle.pm_words.specs.Fences as turn
use Rattle.pm_words.proofs.Fencing.{fence_turns}
use Rattle.smo_log.specs.LogLines.{numbered_address, settled, fenced}

-- A fence that goes on has one word fewer to make durable; at its end all are.
abbrev pub Fences : Layout → Bool → ℕ → List (ℕ × ℕ) → Action → ℕ → Fence → Option Fence → Type 0
Fences l ready line seen action x before (Some fence) = Notes l (Some (fenced ready line seen before)) action x (Some (fenced ready line seen fence)) × IsFence fence
Fences l ready line seen action x before None = Notes l (Some (fenced ready line seen before)) action x (Some (settled ready line seen))

-- with the word in hand durable the rest is one word shorter
rest_shrinks : (word : ℕ) → Cleans ((word, 8 - word) ∷ []) word ((word + 1, 8 - (word + 1)) ∷ [])
rest_shrinks word offset (inr none) = absurd none
rest_shrinks word offset (inl within) =
    let low : word ≤ offset = within.0 in
    let high : offset < word + (8 - word) = within.1 in
    elim (cases_eq offset word) [
      | inl same ↦ inl same
      | inr other ↦ inr (inl (omega arith, omega arith))
    ]

rest_ends : (word : ℕ) → word < 8 → 8 ≤ word + 1 → Cleans ((word, 8 - word) ∷ []) word []
rest_ends word small last offset (inr none) = absurd none
rest_ends word small last offset (inl within) =
    let low : word ≤ offset = within.0 in
    let high : offset < word + (8 - word) = within.1 in
    inl (omega arith)

pub fence_leads : (l : Layout) (ready : Bool) (line : ℕ) (seen : List (ℕ × ℕ)) (fence : Fence) (x : ℕ) → (ready ≡ true → IsBlind seen) → IsFence fence → x < 2 ^ 64
    → Fences l ready line seen (fence_asks (numbered_address l line fence.word) fence) x fence (fence_next fence x)
fence_leads l ready line seen fence x blind is fits = leads fence _ _ (fence_turns (numbered_address l line fence.word) fence x is fits)
  where
    leads : (before : Fence) (action : Action) (after : Option Fence) → FenceTurn (numbered_address l line before.word) x before action after → Fences l ready line seen action x before after
    leads before action after (turn.loads {word} small fits) = (looks_up small (λ s told e. told) blind, record { word = small; value = fits })
    leads before action after (turn.drains {word} more value) = (keeps_safe (omega arith) value refl (rest_shrinks word), record { word = more; value = tt })
    leads before action after (turn.drains_last {word} last value) = keeps_safe (omega arith) value refl (rest_ends word (omega arith) (omega arith))
