use Rattle.std.proofs.Common.{ℕ, List, ◌∷◌, refl, sym, ap, ◌∙◌}
use Rattle.report_reader.specs.Fields.{fields_behind}
use Rattle.report_reader.proofs.AnswerLaws.{unstarted_alone, full_alone}
use Rattle.report_reader.proofs.answer.read_answer.Goals as goal

pub returns-then-is_word-clause-none : goal.returns-then-is_word-clause-none
returns-then-is_word-clause-none c = λ un a says.
    let more = fields_behind c.args.rest.now in
    c.alone.ensures.none un (unstarted_alone a more says.0 (ap (λ (f : List ℕ). f ∷ more) (sym (c.if-is_word.ensures.0 refl)) ∙ says.1))

pub returns-then-is_word-2-clause-none : goal.returns-then-is_word-2-clause-none
returns-then-is_word-2-clause-none c = λ un a says.
    let more = fields_behind c.args.rest.now in
    c.alone-then-is_word-2.ensures.none un (full_alone a more says.0 (ap (λ (f : List ℕ). f ∷ more) (sym (c.if-is_word-2.ensures.0 refl)) ∙ says.1))
