-- The calls of rounds, whether one caller makes them, and behind which rounds the index is opened again.
use Rattle.std.specs.Prelude.{◌≡◌, ℕ, ◌+◌, ◌<◌, ◌≤◌, ◌==◌, ◌||◌, ◌↔◌, ◌++◌, Bool, true, false, if◌then◌else◌, is_some}
use Rattle.std.specs.Prelude.{None}
use Rattle.std.specs.Prelude.{List, [], ◌∷◌, All, length}
use Rattle.std.specs.List.{sum_by}
use Rattle.cat_history.specs.declared.op.CallerOp.{CallerOp}
use Rattle.cat_history.specs.declared.plan.RoundPlan.{RoundPlan}
use Rattle.cat_text.specs.ReportGrammar.{IsReportOp}
use Rattle.core_rounds.specs.Waiting.{one_if}

-- Some caller makes all the calls.
abbrev pub AreLoneCalls : List CallerOp → Type 0
AreLoneCalls asked = (caller : ℕ) × All (λ a. a.caller ≡ caller) asked

-- Whether some call is of another caller than this one,
abbrev pub has_other : ℕ → List CallerOp → Bool
has_other caller [] = false
has_other caller (a ∷ asked) = if a.caller == caller then has_other caller asked else true

-- and whether several callers have calls.
abbrev pub is_crowd : List CallerOp → Bool
is_crowd [] = false
is_crowd (first ∷ asked) = has_other first.caller asked

-- Each of the rounds has calls of one caller at most.
abbrev pub AreLoneRounds : List RoundPlan → Type 0
AreLoneRounds plans = All (λ (plan : RoundPlan). AreLoneCalls plan.ops) plans

-- Each of the rounds is joined at its end: no crash ends it.
abbrev pub AreJoined : List RoundPlan → Type 0
AreJoined plans = All (λ (plan : RoundPlan). plan.crash ≡ None) plans

-- Whether the index is opened again behind a round: a crash ends it, or several callers have calls in it.
abbrev pub has_restart : RoundPlan → Bool
has_restart plan = is_some plan.crash || is_crowd plan.ops

-- How many of the rounds are so.
abbrev pub restarts : List RoundPlan → ℕ
restarts [] = 0
restarts (plan ∷ plans) = one_if (has_restart plan) + restarts plans

-- A call of which a report can tell: of one of 16 callers, of a name, with a number below 2 ^ 64.
abbrev pub IsReportCall : CallerOp → Type 0
IsReportCall asked = (asked.caller < 16) × IsReportOp asked.op

abbrev pub AreReportCalls : List CallerOp → Type 0
AreReportCalls asked = All IsReportCall asked

-- How many calls the rounds have in all.
abbrev pub calls_in : List RoundPlan → ℕ
calls_in plans = sum_by (λ plan. length plan.ops) plans

-- Rounds of one caller each, all joined, that may be played where there are so many callers: a report can tell of
-- them.
pub record AreJoinedLone (count : ℕ) (plans : List RoundPlan) : Type 0 where
  pub lone : AreLoneRounds plans
  pub joined : AreJoined plans
  pub callers : All (λ (plan : RoundPlan). All (λ a. a.caller < count) plan.ops) plans
  pub told : All (λ (plan : RoundPlan). AreReportCalls plan.ops) plans
  pub calls : calls_in plans ≤ 100000

-- ---- laws

-- Several callers have calls just where no caller makes all of them.
abbrev pub IsCrowdOrLone : Type 0
IsCrowdOrLone = (asked : List CallerOp) → (is_crowd asked ≡ true → ¬ AreLoneCalls asked) ×
    (is_crowd asked ≡ false → AreLoneCalls asked)

-- The index is never opened again among rounds exactly where each is of one caller and joined,
abbrev pub JoinedLoneHaveNoRestart : Type 0
JoinedLoneHaveNoRestart = (plans : List RoundPlan) → (AreLoneRounds plans × AreJoined plans) ↔ (restarts plans ≡ 0)

-- it is so at most once for each round,
abbrev pub RestartsAreFew : Type 0
RestartsAreFew = (plans : List RoundPlan) → restarts plans ≤ length plans

-- and the times among rounds behind others add to those.
abbrev pub RestartsAddUp : Type 0
RestartsAddUp = (plans more : List RoundPlan) → restarts (plans ++ more) ≡ restarts plans + restarts more
