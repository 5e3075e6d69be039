-- How many calls a script has, and how many rounds.
use Rattle.std.proofs.Common.{◌≡◌, ℕ, ◌+◌, ◌≤◌, List, [], ◌∷◌, ◌++◌, length, sum_by, refl, ap, ◌∙◌, arith, inl, inr}
use Rattle.std.proofs.Common.{length-append}
use Rattle.std.proofs.lemmas.List.Sums.{sum_by-append, sum_by-cons, sum_by_push}
use Rattle.std.specs.Prelude.{Option}
use Rattle.cat_history.specs.declared.plan.CrashPlan.{CrashPlan}
use Rattle.cat_history.specs.declared.plan.RoundPlan.{RoundPlan}
use Rattle.cat_script.specs.Limits.{call_count, end_count}
use Rattle.cat_script.specs.Rounds.{calls_in as asked_in, AreEnded, AreRounds, EndsBy}
use Rattle.cat_script.specs.Scripts.{IsScript}
use Rattle.cat_script.specs.declared.line.Line.{Line}
use Rattle.cat_script.specs.declared.line.Line.TheVariants.{Blank, Call, Join, Crash, Updater, Limit}
use Rattle.cat_script.specs.declared.script.Script.{Script}
use Rattle.crowd_rounds.specs.core_rounds.specs.LoneCalls.{calls_in}

abbrev ops_count : RoundPlan → ℕ
ops_count plan = length plan.ops

counted : (lines : List Line) → length (asked_in lines) ≡ sum_by call_count lines
counted [] = refl
counted (Blank ∷ lines) = omega (arith, counted lines, sum_by-cons call_count Blank lines)
counted (Call caller op ∷ lines) = omega (arith, counted lines, sum_by-cons call_count (Call caller op) lines)
counted (Join ∷ lines) = omega (arith, counted lines, sum_by-cons call_count Join lines)
counted (Crash plan ∷ lines) = omega (arith, counted lines, sum_by-cons call_count (Crash plan) lines)
counted (Updater turns ∷ lines) = omega (arith, counted lines, sum_by-cons call_count (Updater turns) lines)
counted (Limit limit ∷ lines) = omega (arith, counted lines, sum_by-cons call_count (Limit limit) lines)

parted : (a b : List Line) → length (asked_in (a ++ b)) ≡ length (asked_in a) + length (asked_in b)
parted [] b = omega arith
parted (Blank ∷ a) b = parted a b
parted (Call caller op ∷ a) b = omega (arith, parted a b)
parted (Join ∷ a) b = parted a b
parted (Crash plan ∷ a) b = parted a b
parted (Updater turns ∷ a) b = parted a b
parted (Limit limit ∷ a) b = parted a b

one-line : (line : Line) (lines : List Line) → length (asked_in lines) ≤ length (asked_in (line ∷ lines))
one-line Blank lines = omega arith
one-line (Call caller op) lines = omega arith
one-line Join lines = omega arith
one-line (Crash plan) lines = omega arith
one-line (Updater turns) lines = omega arith
one-line (Limit limit) lines = omega arith

of-ended : (before lines : List Line) (plans : List RoundPlan) → AreEnded before lines plans → calls_in plans ≤ length (asked_in lines)
of-ended before lines [] ended = omega arith
of-ended before lines (plan ∷ plans) ended =
    let round = ended.0 in
    let end = ended.1 in
    let more = ended.2 in
    let one : calls_in (plan ∷ plans) ≡ length plan.ops + calls_in plans = sum_by-cons ops_count plan plans in
    let later = of-ended (before ++ round ++ end ∷ []) more plans ended.6 in
    omega (arith, one, later, ap (λ (ls : List Line). length (asked_in ls)) ended.3, parted round (end ∷ more), one-line end more, ap length ended.4.ops)

of-rounds : (lines : List Line) (plans : List RoundPlan) → AreRounds lines plans → calls_in plans ≤ length (asked_in lines)
of-rounds lines plans is =
    let cut = ap (λ (ls : List Line). length (asked_in ls)) is.cut ∙ parted is.closed is.rest in
    elim is.finish [
      | inl finish ↦ let front = of-ended [] is.closed plans finish.1 in omega arith
      | inr finish ↦
          let front = of-ended [] is.closed finish.1 finish.4 in
          let all : calls_in plans ≡ calls_in finish.1 + length finish.2.ops = ap calls_in finish.3 ∙ sum_by_push ops_count finish.1 finish.2 in
          let last = ap length finish.5.ops in
          omega arith
    ]

-- the rounds of a script have no more calls than the limit says
pub calls-of-script : (bytes : List ℕ) (script : Script) → IsScript bytes script → calls_in script.rounds ≤ 100000
calls-of-script bytes script is =
    let few = of-rounds is.said script.rounds is.rounds in
    let as_many = counted is.said in
    let limit = is.limits.calls in
    omega arith

-- ---- rounds

one-end : (line : Line) (crash : Option CrashPlan) → EndsBy line crash → end_count line ≡ 1
one-end Blank crash ends = absurd ends
one-end (Call caller op) crash ends = absurd ends
one-end Join crash ends = refl
one-end (Crash plan) crash ends = refl
one-end (Updater turns) crash ends = absurd ends
one-end (Limit limit) crash ends = absurd ends

-- a line ends each of them,
ended-few : (before lines : List Line) (plans : List RoundPlan) → AreEnded before lines plans → length plans ≤ sum_by end_count lines
ended-few before lines [] ended = omega arith
ended-few before lines (plan ∷ plans) ended =
    let round = ended.0 in
    let end = ended.1 in
    let more = ended.2 in
    let later = ended-few (before ++ round ++ end ∷ []) more plans ended.6 in
    let cut = ap (sum_by end_count) ended.3 ∙ sum_by-append end_count round (end ∷ more) in
    omega (arith, later, cut, sum_by-cons end_count end more, one-end end plan.crash ended.5)

-- but for the last one
rounds-few : (lines : List Line) (plans : List RoundPlan) → AreRounds lines plans → length plans ≤ sum_by end_count lines + 1
rounds-few lines plans is =
    let cut = ap (sum_by end_count) is.cut ∙ sum_by-append end_count is.closed is.rest in
    elim is.finish [
      | inl finish ↦ let front = ended-few [] is.closed plans finish.1 in omega arith
      | inr finish ↦
          let front = ended-few [] is.closed finish.1 finish.4 in
          let all = ap length finish.3 ∙ length-append finish.1 (finish.2 ∷ []) in
          omega arith
    ]

-- so there are no more than the limit says
pub rounds-of-script : (bytes : List ℕ) (script : Script) → IsScript bytes script → length script.rounds ≤ 1001
rounds-of-script bytes script is =
    let few = rounds-few is.said script.rounds is.rounds in
    let limit = is.limits.ends in
    omega (arith, few, limit)
