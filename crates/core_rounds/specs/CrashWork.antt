-- Rounds that a crash ends do their work: which of their calls are surely answered.
use Rattle.std.specs.Prelude.{◌≡◌, ℕ, ◌+◌, ◌*◌, ◌/◌, ◌<◌, ◌≤◌, Bool, true, List, [], ◌∷◌, ◌++◌, All, Some, length}
use Rattle.std.specs.Prelude.{slice_get}
use Rattle.cat_history.specs.declared.op.CallerOp.{CallerOp}
use Rattle.cat_history.specs.declared.plan.CrashPlan.{CrashPlan}
use Rattle.cat_history.specs.declared.plan.RoundPlan.{RoundPlan}
use Rattle.cat_history.specs.declared.record.Record.{Record}
use Rattle.cat_text.specs.declared.report.RoundReport.{RoundReport}
use Rattle.shapes.specs.ShapeRounds.{puts_added}
use Rattle.stopped_rounds.specs.InTime.{AreInTime, AreOnNames, HasNoTurns}
use Rattle.core_rounds.specs.LoneCalls.{has_restart, restarts}
use Rattle.core_rounds.specs.Rounds.{added_in}
use Rattle.core_rounds.specs.Waiting.{puts_among, writes_among}

-- A round of this caller is made without a turn, of the updater or of its own, where the index was just opened, with so
-- many members at most: none of its calls is a scan, at most eight are puts or deletes, as many as a caller has log
-- lines, and its puts and those members are fewer than the nodes.
pub record IsTurnlessRound (nodes members caller : ℕ) (plan : RoundPlan) : Type 0 where
  pub lone : All (λ (a : CallerOp). a.caller ≡ caller) plan.ops
  pub on_names : AreOnNames plan.ops
  pub lines : writes_among plan.ops ≤ 8
  pub room : members + puts_among plan.ops < nodes
  pub none : HasNoTurns plan

-- Without a turn a call on a name makes so many events at most, on the largest layout.
abbrev pub most_events : ℕ
most_events = 70000

-- Where a crash ends such a round, each call is answered for which, and for each one before it, its caller's budget has
-- as many events.
abbrev pub IsAnsweredInTime : ℕ → ℕ → RoundPlan → List Record → Type 0
IsAnsweredInTime nodes members plan records = (crash : CrashPlan) (caller budget : ℕ) → plan.crash ≡ Some crash →
    slice_get crash.budgets caller ≡ Some budget → IsTurnlessRound nodes members caller plan →
    AreInTime most_events budget records

-- Rounds of these plans were reported so, one after another, and in each one that begins on an index just opened calls
-- are answered in time. The first one may begin so, and then it has so many members. A later one does where the index
-- was opened again behind the round before it: a crash ended that round, or several callers had calls in it. Then the
-- index weighs no more than the first one did and the puts since then that added a name or were cut off; and it has no
-- more members than it weighs for, with half as many as a node has slots for each.
abbrev pub CrashRoundsWork : ℕ → ℕ → ℕ → Bool → ℕ → List RoundPlan → List RoundReport → Type 0
CrashRoundsWork slots nodes weighs opened members [] [] = Unit {0}
CrashRoundsWork slots nodes weighs opened members [] (report ∷ reports) = ⊥
CrashRoundsWork slots nodes weighs opened members (plan ∷ plans) [] = ⊥
CrashRoundsWork slots nodes weighs opened members (plan ∷ plans) (report ∷ reports) =
    (opened ≡ true → IsAnsweredInTime nodes members plan report.records) ×
    CrashRoundsWork slots nodes (weighs + puts_added report.records) (has_restart plan)
    ((weighs + puts_added report.records) / (slots / 2)) plans reports

-- ---- laws

-- With more weight and more members at the first, and where that isn't just opened, no more is said.
abbrev pub MoreWeightWorks : Type 0
MoreWeightWorks = (slots nodes weighs weighs' members members' : ℕ) (opened opened' : Bool) (plans : List RoundPlan)
    (reports : List RoundReport) → 2 ≤ slots → weighs ≤ weighs' → members ≤ members' →
    (opened' ≡ true → opened ≡ true) →
    CrashRoundsWork slots nodes weighs opened members plans reports →
    CrashRoundsWork slots nodes weighs' opened' members' plans reports

-- Others go on behind rounds, from an index that was just opened: it weighs no more than the first weight and the puts
-- since then, half as many as a node has slots for each member at least, and has no more members than the first one
-- where no round came before.
abbrev pub WorkGoesOn : Type 0
WorkGoesOn = (slots nodes weighs now members left : ℕ) (opened : Bool) (plans later : List RoundPlan)
    (reports more : List RoundReport) → 2 ≤ slots → now ≤ weighs + added_in reports → left * (slots / 2) ≤ now →
    (length plans ≡ 0 → left ≤ members) →
    CrashRoundsWork slots nodes weighs opened members plans reports →
    CrashRoundsWork slots nodes now true left later more →
    CrashRoundsWork slots nodes weighs opened members (plans ++ later) (reports ++ more)

-- Of rounds behind none of which the index is opened again nothing is said but that each is reported,
abbrev pub PlainRoundsWork : Type 0
PlainRoundsWork = (slots nodes weighs members : ℕ) (opened : Bool) (plans : List RoundPlan)
    (reports : List RoundReport) → restarts plans ≡ 0 → length reports ≡ length plans →
    CrashRoundsWork slots nodes weighs opened members plans reports

-- and of one more round behind them only where it is the first.
abbrev pub OneMoreWorks : Type 0
OneMoreWorks = (slots nodes weighs members : ℕ) (opened : Bool) (plans : List RoundPlan) (reports : List RoundReport)
    (plan : RoundPlan) (report : RoundReport) → restarts plans ≡ 0 → length reports ≡ length plans →
    (length plans ≡ 0 → opened ≡ true → IsAnsweredInTime nodes members plan report.records) →
    CrashRoundsWork slots nodes weighs opened members (plans ++ plan ∷ []) (reports ++ report ∷ [])
