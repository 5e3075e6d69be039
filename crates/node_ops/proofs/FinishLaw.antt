-- Each turn of a fence and of the end of a write is a step of a kind.
use Rattle.std.proofs.Common.{◌≡◌, ℕ, ◌+◌, ◌-◌, ◌^◌, ◌<◌, ◌≤◌, Bool, true, false, List, [], ◌∷◌, Option, Some, None, inl, inr, refl, arith}
use Rattle.std.proofs.lemmas.Bool.{cases_eq}
use Rattle.pm_words.specs.declared.action.Action.{Action}
use Rattle.pm_words.specs.declared.machine.Turn.{Turn}
use Rattle.pm_words.specs.declared.machine.Turn.TheVariants.{Go, Done}
use Rattle.pm_words.specs.Locations.{node_words}
use Rattle.call_stages.specs.declared.once.Once.{Once}
use Rattle.call_stages.specs.declared.once.Placed.{Placed}
use Rattle.call_stages.specs.Stages.{IsAmong, Held, Stage, Idle, Holds}
use Rattle.call_stages.specs.Kinds.{Cleans, Step, looks, glances, drains, counts, unlocks, writes}
use Rattle.node_ops.specs.declared.call.Call.{Call}
use Rattle.pm_words.specs.declared.fence.Fence.{Fence}
use Rattle.node_ops.specs.declared.finish.Finish.{Finish}
use Rattle.node_ops.specs.declared.finish.FinishAt.{FinishAt}
use Rattle.node_ops.specs.declared.finish.FinishAt.TheVariants as finish_at
use Rattle.node_ops.specs.Calls.{IsCall, call_address, name_in}
use Rattle.pm_words.specs.Fences.{IsFence, fence_asks, fence_next, FenceTurn}
use Rattle.pm_words.specs.Fences as turn
use Rattle.pm_words.proofs.Fencing.{fence_turns}
use Rattle.node_ops.specs.FinishSteps.{IsFinish, IsFinishAt, finish_asks, finish_at_asks, finish_turned, finish_at_turned, finish_fenced}
use Rattle.node_ops.specs.CallStages.{fencing, finish_stage, finish_at_held, changes, change_to}

-- A fence that goes on has one word fewer to make durable. At its end only the other words may not be, and the call may
-- be ready to count.
abbrev pub Fences : Call → ℕ → Held → ℕ → List (ℕ × ℕ) → Stage → Action → ℕ → Option Fence → Type 0
Fences call word held line others stage action x (Some fence) =
    Step call.view.layout call.view.generation stage action x (Holds call.node word (fencing held line fence others)) None
Fences call word held line others stage action x None =
    (dirty : List (ℕ × ℕ)) (ready : Bool) → ((offset : ℕ) → IsAmong others offset → IsAmong dirty offset) →
    Step call.view.layout call.view.generation stage action x (Holds call.node word (record held { dirty = dirty; hand = None; ready = ready })) None

-- with the word in hand durable, the rest of the line is one word shorter
rest_shrinks : (line word : ℕ) (others : List (ℕ × ℕ)) → word < 8 → Cleans ((line + word, 8 - word) ∷ others) (line + word) ((line + (word + 1), 8 - (word + 1)) ∷ others)
rest_shrinks line word others small offset (inr among) = inr (inr among)
rest_shrinks line word others small offset (inl within) =
    let low : line + word ≤ offset = within.0 in
    let high : offset < line + word + (8 - word) = within.1 in
    elim (cases_eq offset (line + word)) [
      | inl same ↦ inl same
      | inr other ↦ inr (inl (omega arith, omega arith))
    ]

-- and with the last one nothing of it is left
rest_ends : (line word : ℕ) (others dirty : List (ℕ × ℕ)) → word < 8 → 8 ≤ word + 1 → ((offset : ℕ) → IsAmong others offset → IsAmong dirty offset)
    → Cleans ((line + word, 8 - word) ∷ others) (line + word) dirty
rest_ends line word others dirty small last kept offset (inr among) = inr (kept offset among)
rest_ends line word others dirty small last kept offset (inl within) =
    let low : line + word ≤ offset = within.0 in
    let high : offset < line + word + (8 - word) = within.1 in
    inl (omega arith)

pub fence_leads : (call : Call) (line : ℕ) (fence : Fence) (word : ℕ) (held : Held) (others : List (ℕ × ℕ)) (x : ℕ) → IsCall call → line + 8 ≤ node_words call.view.layout → IsFence fence → x < 2 ^ 64
    → held.ready ≡ false → Fences call word held line others (Holds call.node word (fencing held line fence others)) (fence_asks (call_address call (line + fence.word)) fence) x (fence_next fence x)
fence_leads call line fence word held others x sound inside is fits waits = leads fence _ _ (fence_turns (call_address call (line + fence.word)) fence x is fits)
  where
    leads : (before : Fence) (action : Action) (after : Option Fence) → FenceTurn (call_address call (line + before.word)) x before action after
        → Fences call word held line others (Holds call.node word (fencing held line before others)) action x after
    leads before action after (turn.loads {word = k} small told) = looks (glances (sound.node, omega arith) waits)
    leads before action after (turn.drains {word = k} more value) = drains (sound.node, omega arith) value waits refl (rest_shrinks line k others (omega arith))
    leads before action after (turn.drains_last {word = k} last value) = λ dirty ready kept. drains (sound.node, omega arith) value waits refl
        (rest_ends line k others dirty (omega arith) (omega arith) kept)

-- what is held while the bitmap's or the value's line is made durable
abbrev stored : Finish → Held
stored finish = changes finish.call finish.hold finish.old (change_to (name_in finish.call) finish.new) false

-- the kind of step of a turn
abbrev pub Finishes : Call → Stage → Action → ℕ → Turn Finish (Once Placed) → Type 0
Finishes call stage action x (Go finish) = Step call.view.layout call.view.generation stage action x (finish_stage finish) None
Finishes call stage action x (Done answer) = Step call.view.layout call.view.generation stage action x Idle (Some answer)

pub finish_leads : (finish : Finish) (x : ℕ) → IsFinish finish → x < 2 ^ 64 → Finishes finish.call (finish_stage finish) (finish_asks finish) x (finish_turned finish x)
finish_leads finish x sound fits = at finish.at sound.here
  where
    fenced : (line : ℕ) (stage : Stage) (action : Action) (o : Option Fence) → Fences finish.call finish.hold.locked (stored finish) line [] stage action x o
        → Finishes finish.call stage action x (finish_fenced finish line o)
    fenced line stage action (Some fence) step = step
    fenced line stage action None step = step [] true (λ offset none. none)

    at : (at : FinishAt) → IsFinishAt finish.call at
        → Finishes finish.call (Holds finish.call.node finish.hold.locked (finish_at_held finish at)) (finish_at_asks finish at) x (finish_at_turned finish at x)
    at (finish_at.Fence line fence) here = fenced line _ (fence_asks (call_address finish.call (line + fence.word)) fence) (fence_next fence x)
        (fence_leads finish.call line fence finish.hold.locked (stored finish) [] x sound.call here.0 here.1 fits refl)
    at finish_at.Add here = counts refl refl refl refl
    at (finish_at.Unlock place) here = unlocks refl refl refl refl (writes refl refl)
