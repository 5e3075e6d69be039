-- What a machine answers, by what it knows along its turns.
use Rattle.std.proofs.Common.{◌≡◌, ℕ, zero, suc, ◌<◌, refl, ap, ◌∙◌, arith}
use Rattle.std.specs.Prelude.{IsSomeAnd}
use Rattle.pm_words.specs.declared.machine.Turn.{Turn}
use Rattle.pm_words.specs.declared.machine.Turn.TheVariants.{Go, Done}
use Rattle.tree_floor.specs.Telling.{turn_answer, answer_in}

-- what follows where a turn goes on, and where it ends, follows of each turn
pub either_way : {M A : Type 0} (After Gives : Turn M A → Type 0) → ((next : M) → After (Go next) → Gives (Go next)) → ((answer : A) → After (Done answer) → Gives (Done answer)) → (turn : Turn M A) → After turn → Gives turn
either_way After Gives goes ends (Go next) after = goes next after
either_way After Gives goes ends (Done answer) after = ends answer after

module _ {M A : Type 0} (turn : M → Turn M A) (Knows : M → Type 0) (left : M → ℕ) (IsRight : A → Type 0) where
  -- it knows as much, and has fewer turns left; or has answered right
  abbrev pub GoesOn : ℕ → Turn M A → Type 0
  GoesOn bound (Go machine) = Knows machine × (left machine < bound)
  GoesOn bound (Done answer) = IsRight answer

  on : (times bound : ℕ) → ((machine : M) → Knows machine → left machine < bound → IsSomeAnd (answer_in times turn machine) IsRight) → (t : Turn M A) → GoesOn bound t → IsSomeAnd (turn_answer t (answer_in times turn)) IsRight
  on times bound inner (Go machine) goes = inner machine goes.0 goes.1
  on times bound inner (Done answer) goes = goes

  pub answers_right : ((machine : M) → Knows machine → GoesOn (left machine) (turn machine)) → (times : ℕ) (machine : M) → Knows machine → left machine < times → IsSomeAnd (answer_in times turn machine) IsRight
  answers_right step zero machine knows less = absurd (omega arith)
  answers_right step (suc times) machine knows less =
      on times (left machine) (λ next known fewer. answers_right step times next known (omega arith)) (turn machine) (step machine knows)

-- A machine that hands on the turns of its scan answers what that answers.
module _ {M S A : Type 0} (turn : M → Turn M A) (scan : S → Turn S A) (make : S → M) where
  abbrev made : Turn S A → Turn M A
  made (Go next) = Go (make next)
  made (Done answer) = Done answer

  goes_as : (times : ℕ) → ((next : S) → answer_in times turn (make next) ≡ answer_in times scan next) → (t : Turn S A) → turn_answer (made t) (answer_in times turn) ≡ turn_answer t (answer_in times scan)
  goes_as times inner (Go next) = inner next
  goes_as times inner (Done answer) = refl

  pub answers_as : ((s next : S) → scan s ≡ Go next → turn (make s) ≡ Go (make next)) → ((s : S) (answer : A) → scan s ≡ Done answer → turn (make s) ≡ Done answer) → (times : ℕ) (s : S)
      → answer_in times turn (make s) ≡ answer_in times scan s
  answers_as goes ends zero s = refl
  answers_as goes ends (suc times) s = ap (λ t. turn_answer t (answer_in times turn)) (same (scan s) refl) ∙ goes_as times (λ next. answers_as goes ends times next) (scan s)
    where
      same : (t : Turn S A) → scan s ≡ t → turn (make s) ≡ made t
      same (Go next) is = goes s next is
      same (Done answer) is = ends s answer is
