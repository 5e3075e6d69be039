use Rattle.std.proofs.Common.{◌∷◌, ◌++◌, ◌∙◌, List, ℕ, ap}
use Rattle.std.proofs.lemmas.Bool.{false≢true}
use Rattle.cat_text.specs.ReportLines.{op_fields}
use Rattle.report_reader.specs.Answers.{SaysOp}
use Rattle.report_reader.specs.Fields.{fields_behind}
use Rattle.report_reader.proofs.HeadLaws.{is_call, suits_so}
use Rattle.report_reader.proofs.head.read_call.Goals as goal

pub returns-then-not-suits-clause-none : goal.returns-then-not-suits-clause-none
returns-then-not-suits-clause-none c = λ _ head says.
    let first = c.args.first.now in
    let more = fields_behind c.args.rest.now in
    let op = c.in-Some.op in
    let arrow = c.in_ok-arrow.arrow.now in
    let rest = c.in_ok-first.first.now ∷ fields_behind c.in_ok-first.rest.now in
    let asked : SaysOp more op (arrow ∷ rest) = (
      c.in-Some.ensures.some.0,
      c.in_ok-verb.ensures.some ∙ c.in-Some.ensures.some.1
          ∙ ap (λ (l : List (List ℕ)). op_fields op ++ l) (c.in_ok-arrow.ensures.some ∙ ap (λ (l : List (List ℕ)). arrow ∷ l) c.in_ok-first.ensures.some),
    ) in
    let behind = is_call head first more c.requires.join c.requires.crash says in
    false≢true (c.if-not-suits.ensures.1 (suits_so first more arrow rest op c.in_ok-answer.answer behind asked c.in_ok-answer.ensures.some))
