use Rattle.std.proofs.Common.{◌∷◌, ◌++◌, ◌∙◌, codes, refl, ap, subst}
use Rattle.cat_text.specs.ReportLines.{op_fields}
use Rattle.report_reader.specs.Answers.{answer_fields}
use Rattle.report_reader.specs.Fields.{fields_of}
use Rattle.report_reader.specs.Heads.{IsHead, head_fields}
use Rattle.report_reader.proofs.StateLaws.{head_comes, late_caller}
use Rattle.report_reader.proofs.reading.Reading.add_head.Goals as goal

pub returns-in_default-clause-err : goal.returns-in_default-clause-err
returns-in_default-clause-err c =
    let here = c.in-Some-Call in
    let says = here.ensures.some in
    let head = subst IsHead here.field-0-is says.0 in
    late_caller c.args.self.now here.caller (op_fields here.op ++ codes "->" ∷ answer_fields here.answer) (fields_of c.args.line.now) c.requires.is c.requires.closed head.0
    (c.in_default.ensures.none refl) (says.1 ∙ ap head_fields here.field-0-is)

pub returns-in-None-clause-err : goal.returns-in-None-clause-err
returns-in-None-clause-err c = λ may.
    let head = head_comes c.args.self.now (fields_of c.args.line.now) c.requires.closed may in c.in-None.ensures.none refl head.0 head.1
