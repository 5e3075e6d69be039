-- A machine, or a part of one, that is told what stands where it looks, as often as it asks.
use Rattle.std.specs.Prelude.{ℕ, zero, suc, Option, Some, None}
use Rattle.pm_words.specs.declared.machine.Turn.{Turn}
use Rattle.pm_words.specs.declared.machine.Turn.TheVariants.{Go, Done}

-- by this turn it has an answer, or goes on to one
abbrev pub turn_answer : {M A : Type 0} → Turn M A → (M → Option A) → Option A
turn_answer (Go machine) on = on machine
turn_answer (Done answer) on = Some answer

-- its answer where its turns are these, in so many of them
abbrev pub answer_in : {M A : Type 0} → ℕ → (M → Turn M A) → M → Option A
answer_in zero turn machine = None
answer_in (suc times) turn machine = turn_answer (turn machine) (answer_in times turn)
