use Rattle.report_reader.specs.Fields.{fields_behind}
use Rattle.std.proofs.Common.{refl}
use Rattle.report_reader.proofs.AnswerLaws.{parts_need}
use Rattle.report_reader.proofs.answer.read_parts.Goals as goal

pub returns-in_err-cut-clause-none : goal.returns-in_err-cut-clause-none
returns-in_err-cut-clause-none c = λ _ a says.
    let need = parts_need a c.args.first.now (fields_behind c.args.rest.now) says.0 says.1 in c.in_err-cut.ensures.none refl need.1 need.4

pub returns-in_err-count-clause-none : goal.returns-in_err-count-clause-none
returns-in_err-count-clause-none c = λ _ a says.
    let need = parts_need a c.args.first.now (fields_behind c.args.rest.now) says.0 says.1 in c.in_err-count.ensures.none refl need.0 need.2 need.3
