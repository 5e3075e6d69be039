use Rattle.std.proofs.Common.{◌∷◌, ◌∙◌, List, ℕ, ap, drop, decimal, refl, sym}
use Rattle.report_reader.specs.Fields.{fields_behind}
use Rattle.report_reader.proofs.HeadLaws.{is_last}
use Rattle.report_reader.proofs.head.read_last.Goals as goal

pub returns-in_err-last-clause-none : goal.returns-in_err-last-clause-none
returns-in_err-last-clause-none c = λ _ head says.
    let need = is_last head c.args.crashed (fields_behind c.args.rest.now) says in
    c.in_err-last.ensures.none refl (decimal need.names)
    (ap (drop 2) (sym (c.in_ok-first.ensures.some ∙ ap (λ (l : List (List ℕ)). c.in_ok-first.first.now ∷ l) c.in_ok-word.ensures.some) ∙ need.more_is))
