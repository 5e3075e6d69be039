use Rattle.std.proofs.Common.{refl}
use Rattle.report_reader.specs.Fields.{fields_behind}
use Rattle.report_reader.proofs.AnswerLaws.{cut_needs}
use Rattle.report_reader.proofs.answer.read_cut.Goals as goal

pub returns-in_err-mark-clause-none : goal.returns-in_err-mark-clause-none
returns-in_err-mark-clause-none c = λ _ a says.
    let need = cut_needs a (fields_behind c.args.rest.now) says.0 says.1 in c.in_err-mark.ensures.none refl need.0 (need.1, need.2)
