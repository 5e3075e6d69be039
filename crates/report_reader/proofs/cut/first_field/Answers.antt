use Rattle.std.proofs.Common.{◌∷◌, length, take, eq-eqb, sym, ap, ◌∙◌, arith}
use Rattle.std.proofs.lemmas.Bool.Decides.{Decides-eqb}
use Rattle.std.proofs.lemmas.List.{take_rest, drop_all}
use Rattle.report_reader.specs.Fields.{fields_behind}
use Rattle.report_reader.proofs.FieldLaws.{first_cut, no_cut}
use Rattle.report_reader.proofs.cut.first_field.Goals as goal

pub returns-in-Some : goal.returns-in-Some
returns-in-Some c =
    let found = c.in-Some.ensures in
    let line = c.args.line.now in
    let end = c.in-Some.end in
    first_cut line end found.0.high (λ j less is. found.0.before j (omega arith) less (eq-eqb _ 32 is)) ((Decides-eqb _ 32).0 found.1)
    ∙ ap (λ rest. take end line ∷ fields_behind rest) (sym (take_rest line end))

pub returns-in-None : goal.returns-in-None
returns-in-None c =
    let line = c.args.line.now in
    no_cut line (λ j less is. c.in-None.ensures j (omega arith) less (eq-eqb _ 32 is))
    ∙ ap (λ rest. line ∷ fields_behind rest) (sym (drop_all (length line) line (omega arith)) ∙ sym (take_rest line (length line)))
