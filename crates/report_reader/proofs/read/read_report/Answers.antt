use Rattle.report_reader.proofs.StepLaws.{text_accepted, prints_back, printed_reads, outside_told}
use Rattle.report_reader.proofs.read.read_report.Goals as goal

pub returns-clause-accepted : goal.returns-clause-accepted
returns-clause-accepted c = text_accepted c.args.bytes.now c.read_text.result c.read_text.ensures.report c.read_text.ensures.fault

pub returns-clause-prints : goal.returns-clause-prints
returns-clause-prints c = prints_back c.args.bytes.now c.read_text.result c.read_text.ensures.report

pub returns-clause-printed : goal.returns-clause-printed
returns-clause-printed c = printed_reads c.args.bytes.now c.read_text.result c.read_text.ensures.report c.read_text.ensures.fault

pub returns-clause-first_outside : goal.returns-clause-first_outside
returns-clause-first_outside c = outside_told c.args.bytes.now c.read_text.result c.read_text.ensures.report c.read_text.ensures.fault
