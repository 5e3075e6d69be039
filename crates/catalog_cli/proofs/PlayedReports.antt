-- Rounds that were played as those of a report.
use Rattle.std.proofs.Common.{◌≡◌, ◌≤◌, List, length, arith}
use Rattle.std.specs.Prelude.{All}
use Rattle.cat_history.specs.declared.plan.RoundPlan.{RoundPlan}
use Rattle.cat_text.specs.ReportGrammar.{IsReport, IsReportRound}
use Rattle.cat_text.specs.declared.report.RoundReport.{RoundReport}

-- as many rounds as there are plans, one or more, and each of a report, are a report
pub played-report : (plans : List RoundPlan) (reports : List RoundReport) → 1 ≤ length plans → length reports ≡ length plans → All IsReportRound reports → IsReport reports
played-report plans reports some as_many told = record { some = omega (arith, some, as_many); rounds = told }
