-- The rounds of a script that is accepted: what calls they have, how crashes end them, and that there is one at least.
use Rattle.std.proofs.Common.{◌≡◌, ℕ, ◌+◌, ◌<◌, ◌≤◌, ◌^◌, List, [], ◌∷◌, ◌++◌, length, refl, sym, ap, subst, arith}
use Rattle.std.proofs.Common.{inl, inr, length-append}
use Rattle.std.specs.Prelude.{All, IfSome, Option, None}
use Rattle.std.specs.List.{AllByRecursion, AllZip}
use Rattle.std.proofs.lemmas.List.Elements.{All-from_recursion, recursion_from_All}
use Rattle.std.proofs.lemmas.Bool.{cases_eq}
use Rattle.cat_history.specs.declared.op.CallerOp.{CallerOp}
use Rattle.cat_history.specs.declared.op.Op.{Op}
use Rattle.cat_history.specs.declared.op.Op.TheVariants.{Put, Get, Del, Scan}
use Rattle.cat_history.specs.declared.plan.CrashPlan.{CrashPlan}
use Rattle.cat_history.specs.declared.plan.RoundPlan.{RoundPlan}
use Rattle.cat_script.specs.Asks.{AsksFor, IsLine}
use Rattle.cat_script.specs.Fits.{FitsCallers}
use Rattle.cat_script.specs.Rounds.{calls_in, settings_in, AsksRound, AreEnded, AreRounds, EndsBy}
use Rattle.cat_script.specs.Scripts.{IsScript, numbered}
use Rattle.cat_script.specs.declared.line.Line.{Line}
use Rattle.cat_script.specs.declared.line.Line.TheVariants.{Blank, Call, Join, Crash, Updater, Limit}
use Rattle.cat_script.specs.declared.line.Reason.TheVariants as reason
use Rattle.cat_script.specs.declared.script.Script.{Script}
use Rattle.cat_text.specs.ReportGrammar.{IsReportOp}
use Rattle.shapes.proofs.NameLists.{all_append, all_first, all_second}
use Rattle.crowd_rounds.specs.core_rounds.specs.LoneCalls.{AreReportCalls, IsReportCall}
use Rattle.crowd_rounds.specs.Segments.{HasBudgets}
use Rattle.catalog_cli.specs.Reports.{IsAccepted}

-- a call of a report, by one of so many callers
abbrev IsPlayableCall : ℕ → CallerOp → Type 0
IsPlayableCall callers a = IsReportCall a × (a.caller < callers)

-- a line that asks no more
abbrev IsPlayable : ℕ → Line → Type 0
IsPlayable callers Blank = Unit {0}
IsPlayable callers (Call caller op) = IsPlayableCall callers (record { caller = caller; op = op })
IsPlayable callers Join = Unit {0}
IsPlayable callers (Crash plan) = length plan.budgets ≡ callers
IsPlayable callers (Updater turns) = Unit {0}
IsPlayable callers (Limit limit) = limit ≤ 2 ^ 62

-- a round that asks no more
pub record IsPlayablePlan (callers : ℕ) (plan : RoundPlan) : Type 0 where
  pub told : AreReportCalls plan.ops
  pub callers_are : All (λ (a : CallerOp). a.caller < callers) plan.ops
  pub limit : plan.limit ≤ 2 ^ 62
  pub budgets : HasBudgets callers plan

op-told : (words : List (List ℕ)) (caller : List ℕ) (op : Op) → AsksFor words caller op → IsReportOp op
op-told words caller (Put name value) asks = (asks.0, asks.1.1.fits)
op-told words caller (Get name) asks = asks.0
op-told words caller (Del name) asks = asks.0
op-told words caller (Scan from count) asks = (asks.0, asks.1.1.fits)

lines-playable : (callers number : ℕ) (texts : List (List ℕ)) (lines : List Line) → AllZip IsLine texts lines → AllByRecursion (FitsCallers callers) (numbered number lines) →
    AllByRecursion (IsPlayable callers) lines
lines-playable callers number [] [] are fits = tt
lines-playable callers number [] (line ∷ lines) are fits = absurd are
lines-playable callers number (text ∷ texts) [] are fits = absurd are
lines-playable callers number (text ∷ texts) (Blank ∷ lines) are fits = (tt, lines-playable callers (number + 1) texts lines are.1 fits)
lines-playable callers number (text ∷ texts) (Call caller op ∷ lines) are fits =
    let few = are.0.0.1.1 in
    let below : callers ≤ caller → ⊥ = λ above. fits.0 reason.Caller (refl, above) in
    (((omega (arith, few), op-told _ _ op are.0.0.2), omega (arith, below)), lines-playable callers (number + 1) texts lines are.1 fits.1)
lines-playable callers number (text ∷ texts) (Join ∷ lines) are fits = (tt, lines-playable callers (number + 1) texts lines are.1 fits.1)
lines-playable callers number (text ∷ texts) (Crash plan ∷ lines) are fits = (
  elim (cases_eq (length plan.budgets) callers) [
    | inl same ↦ same
    | inr other ↦ absurd (fits.0 reason.Words (refl, other))
  ],
  lines-playable callers (number + 1) texts lines are.1 fits.1,
)
lines-playable callers number (text ∷ texts) (Updater turns ∷ lines) are fits = (tt, lines-playable callers (number + 1) texts lines are.1 fits.1)
lines-playable callers number (text ∷ texts) (Limit limit ∷ lines) are fits = (are.0.0.1.1, lines-playable callers (number + 1) texts lines are.1 fits.1)

calls-playable : (callers : ℕ) (lines : List Line) → AllByRecursion (IsPlayable callers) lines → AllByRecursion (IsPlayableCall callers) (calls_in lines)
calls-playable callers [] are = tt
calls-playable callers (Blank ∷ lines) are = calls-playable callers lines are.1
calls-playable callers (Call caller op ∷ lines) are = (are.0, calls-playable callers lines are.1)
calls-playable callers (Join ∷ lines) are = calls-playable callers lines are.1
calls-playable callers (Crash plan ∷ lines) are = calls-playable callers lines are.1
calls-playable callers (Updater turns ∷ lines) are = calls-playable callers lines are.1
calls-playable callers (Limit limit ∷ lines) are = calls-playable callers lines are.1

limit-low : (callers : ℕ) (first : ℕ × ℕ) (lines : List Line) → first.1 ≤ 2 ^ 62 → AllByRecursion (IsPlayable callers) lines → (settings_in first lines).1 ≤ 2 ^ 62
limit-low callers first [] low are = low
limit-low callers first (Blank ∷ lines) low are = limit-low callers first lines low are.1
limit-low callers first (Call caller op ∷ lines) low are = limit-low callers first lines low are.1
limit-low callers first (Join ∷ lines) low are = limit-low callers first lines low are.1
limit-low callers first (Crash plan ∷ lines) low are = limit-low callers first lines low are.1
limit-low callers first (Updater turns ∷ lines) low are = limit-low callers (turns, first.1) lines low are.1
limit-low callers first (Limit limit ∷ lines) low are = limit-low callers (first.0, limit) lines are.0 are.1

no-crash : (callers : ℕ) (plan : RoundPlan) → plan.crash ≡ None → HasBudgets callers plan
no-crash callers plan none = subst (λ (o : Option CrashPlan). IfSome o (λ crash. length crash.budgets ≡ callers)) (sym none) tt

budgets-given : (callers : ℕ) (line : Line) (plan : RoundPlan) → EndsBy line plan.crash → IsPlayable callers line → HasBudgets callers plan
budgets-given callers Blank plan ends is = absurd ends
budgets-given callers (Call caller op) plan ends is = absurd ends
budgets-given callers Join plan ends is = no-crash callers plan ends
budgets-given callers (Crash crash) plan ends is = subst (λ (o : Option CrashPlan). IfSome o (λ crash. length crash.budgets ≡ callers)) (sym ends) is
budgets-given callers (Updater turns) plan ends is = absurd ends
budgets-given callers (Limit limit) plan ends is = absurd ends

plan-playable : (callers : ℕ) (before lines : List Line) (plan : RoundPlan) → AsksRound before lines plan → AllByRecursion (IsPlayable callers) before → AllByRecursion (IsPlayable callers) lines →
    HasBudgets callers plan → IsPlayablePlan callers plan
plan-playable callers before lines plan asks front are budgets =
    let calls = subst (All (IsPlayableCall callers)) (sym asks.ops) (All-from_recursion (IsPlayableCall callers) (calls_in lines) (calls-playable callers lines are)) in
    let low : 2 ^ 62 ≤ 2 ^ 62 = omega arith in
    record {
      told = λ i d within. (calls i d within).0;
      callers_are = λ i d within. (calls i d within).1;
      limit = subst (λ (n : ℕ). n ≤ 2 ^ 62) (sym asks.limit) (limit-low callers (64, 2 ^ 62) (before ++ lines) low (all_append (IsPlayable callers) before lines front are));
      budgets = budgets;
    }

ended-playable : (callers : ℕ) (before lines : List Line) (plans : List RoundPlan) → AreEnded before lines plans → AllByRecursion (IsPlayable callers) before → AllByRecursion (IsPlayable callers) lines →
    AllByRecursion (IsPlayablePlan callers) plans
ended-playable callers before lines [] ended front are = tt
ended-playable callers before lines (plan ∷ plans) ended front are =
    let P = IsPlayable callers in
    let round = ended.0 in
    let end = ended.1 in
    let more = ended.2 in
    let cut = subst (AllByRecursion P) ended.3 are in
    let here = all_first P round (end ∷ more) cut in
    let later = all_second P round (end ∷ more) cut in
    let behind = all_append P (before ++ round) (end ∷ []) (all_append P before round front here) (later.0, tt) in
    (plan-playable callers before round plan ended.4 front here (budgets-given callers end plan ended.5 later.0), ended-playable callers (before ++ round ++ end ∷ []) more plans ended.6 behind later.1)

rounds-playable : (callers : ℕ) (lines : List Line) (plans : List RoundPlan) → AreRounds lines plans → AllByRecursion (IsPlayable callers) lines → AllByRecursion (IsPlayablePlan callers) plans
rounds-playable callers lines plans is are =
    let P = IsPlayable callers in
    let cut = subst (AllByRecursion P) is.cut are in
    let closed = all_first P is.closed is.rest cut in
    elim is.finish [
      | inl finish ↦ ended-playable callers [] is.closed plans finish.1 tt closed
      | inr finish ↦
          let last = plan-playable callers is.closed is.rest finish.2 finish.5 closed (all_second P is.closed is.rest cut) (no-crash callers finish.2 finish.6) in
          subst (AllByRecursion (IsPlayablePlan callers)) (sym finish.3)
          (all_append (IsPlayablePlan callers) finish.1 (finish.2 ∷ []) (ended-playable callers [] is.closed finish.1 finish.4 tt closed) (last, tt))
    ]

-- the rounds of a script that is accepted can be played
pub all-playable : (callers : ℕ) (bytes : List ℕ) (script : Script) (plans : List RoundPlan) → IsAccepted callers bytes script → plans ≡ script.rounds → All (IsPlayablePlan callers) plans
all-playable callers bytes script plans accepted same =
    let is = accepted.is_script in
    let fits = subst (AllByRecursion (FitsCallers callers)) is.told (recursion_from_All (FitsCallers callers) script.lines accepted.fits) in
    subst (All (IsPlayablePlan callers)) (sym same)
    (All-from_recursion (IsPlayablePlan callers) script.rounds
    (rounds-playable callers is.said script.rounds is.rounds (lines-playable callers 1 _ is.said is.lines fits)))

some-ended : (closed : List Line) (plans : List RoundPlan) → AreEnded [] closed plans → (closed ≡ [] → ⊥) → 1 ≤ length plans
some-ended closed [] ended some = absurd (some ended)
some-ended closed (plan ∷ plans) ended some = omega arith

-- a script has a round
pub some-round : (bytes : List ℕ) (script : Script) → IsScript bytes script → 1 ≤ length script.rounds
some-round bytes script is =
    elim is.rounds.finish [
      | inl finish ↦ some-ended is.rounds.closed script.rounds finish.1 (λ none. finish.0 (inr none))
      | inr finish ↦ omega (arith, ap length finish.3, length-append finish.1 (finish.2 ∷ []))
    ]
