-- Turns of a machine one after another, on words that nobody else changes meanwhile.
use Rattle.std.specs.Prelude.{◌≡◌, ℕ, zero, suc, ◌+◌, ◌<◌, List}
use Rattle.pm_words.specs.declared.layout.Layout.{Layout}
use Rattle.pm_words.specs.declared.action.Action.{Action}
use Rattle.pm_words.specs.declared.action.Action.TheVariants.{Add}
use Rattle.pm_words.specs.declared.machine.Turn.{Turn}
use Rattle.pm_words.specs.declared.machine.Turn.TheVariants.{Go, Done}
use Rattle.pm_words.specs.Images.{Row}
use Rattle.pm_words.specs.Rows.{CanAct, acted, got}
use Rattle.pm_words.specs.Turns.{GoesBelow}

-- It adds to no word, so it counts nothing in the clock.
abbrev pub AddsNothing : Action → Type 0
AddsNothing (Add address) = ⊥
AddsNothing _ = Unit {0}

-- The machine that was `first` on these words is now this one, on these words, after so many turns. In none of them it
-- was done, or added to a word, and each left it fewer actions.
pub data Goes {M A : Type 0} (asks : M → Action) (turned : M → ℕ → Turn M A) (left : M → ℕ) (l : Layout)
    (words : List ℕ) (first : M) : M → List ℕ → ℕ → Type 0 where
  begins : Goes asks turned left l words first first words zero
  goes : {machine next : M} {now : List ℕ} {turns : ℕ} → Goes asks turned left l words first machine now turns →
      AddsNothing (asks machine) → turned machine (got l now (asks machine)) ≡ Go next → left next < left machine →
      Goes asks turned left l words first next (acted l now (asks machine)) (suc turns)

-- Wherever it comes so, its action can be done, and it takes the number that this gives.
abbrev pub MayGo : {M A : Type 0} → (M → Action) → (M → ℕ → Turn M A) → (M → ℕ) → (M → ℕ → Type 0) → Layout →
    List ℕ → M → Type 0
MayGo {M} asks turned left takes l words first = (machine : M) (now : List ℕ) (turns : ℕ) →
    Goes asks turned left l words first machine now turns →
    CanAct l now (asks machine) × takes machine (got l now (asks machine))

-- It made turns that went on, and one more, which comes to `end`, and each took one event.
pub record Bursts {M A : Type 0} (asks : M → Action) (turned : M → ℕ → Turn M A) (left : M → ℕ) (old new : Row)
    (first : M) (end : Turn M A) (begun ended : ℕ) : Type 0 where
  pub last : M
  pub now : List ℕ
  pub turns : ℕ
  pub before : Goes asks turned left old.layout old.words first last now turns
  pub adds : AddsNothing (asks last)
  pub row : new ≡ record old { words = acted old.layout now (asks last) }
  pub ends : end ≡ turned last (got old.layout now (asks last))
  pub fewer : GoesBelow left (left last) end
  pub steps : ended ≡ begun + (turns + 1)

-- It is between two of its turns.
pub record IsOnRun {M A : Type 0} (asks : M → Action) (turned : M → ℕ → Turn M A) (left : M → ℕ) (old now : Row)
    (first machine : M) (begun steps : ℕ) : Type 0 where
  pub turns : ℕ
  pub before : Goes asks turned left old.layout old.words first machine now.words turns
  pub layout : now.layout ≡ old.layout
  pub counted : steps ≡ begun + turns

-- A machine stands in another one as a state of that: it asks for what the inner one asks for, goes on with it, is told
-- what that takes, and a turn leaves it fewer actions where it leaves that fewer.
pub record Holds {M A N B : Type 0} (asks : M → Action) (turned : M → ℕ → Turn M A) (left : M → ℕ)
    (takes : M → ℕ → Type 0) (outer_asks : N → Action) (outer_turned : N → ℕ → Turn N B) (outer_left : N → ℕ)
    (outer_takes : N → ℕ → Type 0) (holds : M → N) : Type 0 where
  pub asked : (machine : M) → outer_asks (holds machine) ≡ asks machine
  pub on : (machine next : M) (number : ℕ) → turned machine number ≡ Go next →
      outer_turned (holds machine) number ≡ Go (holds next)
  pub taken : (machine : M) (number : ℕ) → outer_takes (holds machine) number → takes machine number
  pub fewer : (machine : M) (number : ℕ) → outer_takes (holds machine) number →
      GoesBelow left (left machine) (turned machine number) →
      GoesBelow outer_left (outer_left (holds machine)) (outer_turned (holds machine) number)

-- What it comes to from a turn on: where that goes on, a burst of the machine that it goes on as; else that is its end
-- already, and nothing was done.
abbrev pub ComesFrom : {M A : Type 0} → (M → Action) → (M → ℕ → Turn M A) → (M → ℕ) → Row → Row → Turn M A →
    Turn M A → ℕ → ℕ → Type 0
ComesFrom asks turned left old new (Go machine) end begun ended =
    Bursts asks turned left old new machine end begun ended
ComesFrom asks turned left old new (Done answer) end begun ended =
    (end ≡ Done answer) × (new ≡ old) × (ended ≡ begun)

-- where the turn goes on, it may go on so
abbrev pub MayGoFrom : {M A : Type 0} → (M → Action) → (M → ℕ → Turn M A) → (M → ℕ) → (M → ℕ → Type 0) → Row →
    Turn M A → Type 0
MayGoFrom asks turned left takes old (Go machine) = MayGo asks turned left takes old.layout old.words machine
MayGoFrom asks turned left takes old (Done answer) = Unit {0}
