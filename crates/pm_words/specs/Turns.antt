-- What is left of a machine after a turn.
use Rattle.std.specs.Prelude.{◌≡◌, ℕ, ◌<◌, Option, Some, None}
use Rattle.pm_words.specs.declared.machine.Turn.{Turn}
use Rattle.pm_words.specs.declared.machine.Turn.TheVariants.{Go, Done}

-- a machine that goes on has fewer actions left
abbrev pub GoesBelow : {M A : Type 0} → (M → ℕ) → ℕ → Turn M A → Type 0
GoesBelow left bound (Go machine) = left machine < bound
GoesBelow left bound (Done answer) = Unit {0}

-- A machine's turn, by what it is then and the answer that it gave, if it gave one.
abbrev pub turn_of : {M A : Type 0} → M → Option A → Turn M A
turn_of machine None = Go machine
turn_of machine (Some answer) = Done answer

-- Told in place, it is this machine then, and gave this answer.
abbrev pub AdvancesTo : {M A : Type 0} → Turn M A → M → Option A → Type 0
AdvancesTo turn machine answer = turn ≡ turn_of machine answer
