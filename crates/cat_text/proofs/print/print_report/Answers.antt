use Rattle.std.proofs.Common.{◌≡◌, subst, sym}
use Rattle.std.proofs.lemmas.Result.{IfOk-weaker}
use Rattle.cat_text.specs.ReportGrammar.{IsReportText}
use Rattle.cat_text.specs.Reports.{report_text}
use Rattle.cat_text.proofs.ReportLaws.{has_text}
use Rattle.cat_text.proofs.print.print_report.Goals as goal

pub returns-clause-tells : goal.returns-clause-tells
returns-clause-tells c =
    let report = c.args.report.now in
    IfOk-weaker c.print_rounds.result (λ text. text.items ≡ report_text report) (λ text. IsReportText text.items report)
    (λ text is. subst (λ bytes. IsReportText bytes report) (sym is) (has_text report c.requires.report)) c.print_rounds.ensures
