use Rattle.std.proofs.Common.{ℕ, List, [], get_or, decimal, refl, sym, ap, ◌∙◌}
use Rattle.report_reader.specs.Fields.{fields_behind}
use Rattle.report_reader.proofs.AnswerLaws.{spent_needs}
use Rattle.report_reader.proofs.answer.read_spent.Goals as goal

pub returns-in_err-field-clause-none : goal.returns-in_err-field-clause-none
returns-in_err-field-clause-none c = λ _ a says.
    let need = spent_needs a (fields_behind c.args.rest.now) says.0 says.1 in c.in_err-field.ensures.none refl (decimal need.0) need.2

pub returns-in_err-clock-clause-none : goal.returns-in_err-clock-clause-none
returns-in_err-clock-clause-none c = λ _ a says.
    let need = spent_needs a (fields_behind c.args.rest.now) says.0 says.1 in
    c.in_err-clock.ensures.none refl need.0 need.1 (ap (λ (l : List (List ℕ)). get_or l 0 []) (sym c.in_ok-field.ensures.some ∙ need.2))
