-- How the lines of a script make rounds.
use Rattle.std.specs.Prelude.{◌≡◌, ◌≢◌, ℕ, ◌^◌, ◌⊎◌, Option, Some, None, List, [], ◌∷◌, ◌++◌}
use Rattle.std.specs.List.{AllByRecursion}
use Rattle.cat_history.specs.declared.op.CallerOp.{CallerOp}
use Rattle.cat_history.specs.declared.plan.CrashPlan.{CrashPlan}
use Rattle.cat_history.specs.declared.plan.RoundPlan.{RoundPlan}
use Rattle.cat_script.specs.declared.line.Line.{Line}
use Rattle.cat_script.specs.declared.line.Line.TheVariants.{Blank, Call, Join, Crash, Updater, Limit}

-- The calls of lines, in their order.
abbrev pub calls_in : List Line → List CallerOp
calls_in [] = []
calls_in (Blank ∷ lines) = calls_in lines
calls_in (Call caller op ∷ lines) = record { caller = caller; op = op } ∷ calls_in lines
calls_in (Join ∷ lines) = calls_in lines
calls_in (Crash plan ∷ lines) = calls_in lines
calls_in (Updater turns ∷ lines) = calls_in lines
calls_in (Limit limit ∷ lines) = calls_in lines

-- What the last `updater` line and the last `limit` line of these set: the calls between turns of the updater, and how
-- many writes there are. The first numbers where there is none.
abbrev pub settings_in : (ℕ × ℕ) → List Line → ℕ × ℕ
settings_in first [] = first
settings_in first (Blank ∷ lines) = settings_in first lines
settings_in first (Call caller op ∷ lines) = settings_in first lines
settings_in first (Join ∷ lines) = settings_in first lines
settings_in first (Crash plan ∷ lines) = settings_in first lines
settings_in first (Updater turns ∷ lines) = settings_in (turns, first.1) lines
settings_in first (Limit limit ∷ lines) = settings_in (first.0, limit) lines

-- A line that ends no round.
abbrev pub GoesOn : Line → Type 0
GoesOn Blank = Unit {0}
GoesOn (Call caller op) = Unit {0}
GoesOn Join = ⊥
GoesOn (Crash plan) = ⊥
GoesOn (Updater turns) = Unit {0}
GoesOn (Limit limit) = Unit {0}

-- A line that ends a round, by this crash or by none.
abbrev pub EndsBy : Line → Option CrashPlan → Type 0
EndsBy Blank crash = ⊥
EndsBy (Call caller op) crash = ⊥
EndsBy Join crash = crash ≡ None
EndsBy (Crash plan) crash = crash ≡ Some plan
EndsBy (Updater turns) crash = ⊥
EndsBy (Limit limit) crash = ⊥

-- What a round is asked whose lines, but for its end, are these, and before which those lines stand: its calls, and the
-- settings in force at its end. At first the updater makes a turn after each 64 calls, and there are 2 ^ 62 writes.
pub record AsksRound (before lines : List Line) (plan : RoundPlan) : Type 0 where
  pub going : AllByRecursion GoesOn lines
  pub ops : plan.ops ≡ calls_in lines
  pub updater : plan.updater ≡ (settings_in (64, 2 ^ 62) (before ++ lines)).0
  pub limit : plan.limit ≡ (settings_in (64, 2 ^ 62) (before ++ lines)).1

-- These lines, before which those stand, are rounds, each with a line that ends it.
abbrev pub AreEnded : List Line → List Line → List RoundPlan → Type 0
AreEnded before lines [] = lines ≡ []
AreEnded before lines (plan ∷ plans) = (round : List Line) × (end : Line) × (rest : List Line) ×
    (lines ≡ round ++ end ∷ rest) × AsksRound before round plan × EndsBy end plan.crash ×
    AreEnded (before ++ round ++ end ∷ []) rest plans

-- Behind ended rounds the end of the script ends one more where a call stands there, or where no line ends a round.
abbrev pub HasLast : List Line → List Line → Type 0
HasLast closed rest = (calls_in rest ≢ []) ⊎ (closed ≡ [])

-- The rounds of a script whose lines up to the last one that ends a round are `closed`.
abbrev pub FinishAs : List Line → List Line → List RoundPlan → Type 0
FinishAs closed rest plans = ((¬ HasLast closed rest) × AreEnded [] closed plans) ⊎
    (HasLast closed rest × (front : List RoundPlan) × (last : RoundPlan) × (plans ≡ front ++ last ∷ []) ×
    AreEnded [] closed front × AsksRound closed rest last × (last.crash ≡ None))

-- The lines of a script make these rounds.
pub record AreRounds (lines : List Line) (plans : List RoundPlan) : Type 0 where
  pub closed : List Line
  pub rest : List Line
  pub cut : lines ≡ closed ++ rest
  pub going : AllByRecursion GoesOn rest
  pub finish : FinishAs closed rest plans
