use Rattle.cat_text.proofs.LoneReports.{lone_stand}
use Rattle.cat_text.proofs.ReportLaws.{has_text, one_text, one_report}
use Rattle.cat_text.proofs.laws.report_law.Goals as goal

pub returns-clause-text : goal.returns-clause-text
returns-clause-text c = has_text

pub returns-clause-one_text : goal.returns-clause-one_text
returns-clause-one_text c = one_text

pub returns-clause-one_report : goal.returns-clause-one_report
returns-clause-one_report c = one_report

pub returns-clause-lone_records : goal.returns-clause-lone_records
returns-clause-lone_records c = lone_stand
