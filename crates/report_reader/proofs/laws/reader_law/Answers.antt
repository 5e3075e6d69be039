use Rattle.report_reader.proofs.StepLaws.{outside_is_no_text, one_first}
use Rattle.report_reader.proofs.laws.reader_law.Goals as goal

pub returns-clause-outside : goal.returns-clause-outside
returns-clause-outside c = outside_is_no_text

pub returns-clause-one_first : goal.returns-clause-one_first
returns-clause-one_first c = one_first
