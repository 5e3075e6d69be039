use Rattle.std.proofs.Common.{◌≡◌, ◌++◌, ◌∷◌, ◌∙◌, ◌<◌, [], length, cond, ap, refl, sym, subst, arith}
use Rattle.std.proofs.lemmas.List.Elements.{All-push}
use Rattle.std.specs.Prelude.{All}
use Rattle.cat_text.specs.ReportGrammar.{IsReportPart}
use Rattle.report_reader.specs.Answers.{count_of}
use Rattle.report_reader.specs.Fields.{fields_of}
use Rattle.report_reader.proofs.StateLaws.{part_added}
use Rattle.report_reader.proofs.reading.Reading.add_part.Goals as goal

pub returns-then-len-count_of-clause-ok : goal.returns-then-len-count_of-clause-ok
returns-then-len-count_of-clause-ok c =
    let was = c.args.self.now in
    let old = was.parts.items in
    let part = c.in_ok-part.part in
    let items : c.push.new.self.items ≡ old ++ part ∷ [] = c.push.ensures.items ∙ ap (λ t. cond t (old ++ part ∷ []) old) c.if-is_err.ensures.negation in
    let less : length c.push.new.self.items < count_of c.args.scan.answer = omega (arith, c.if-len-count_of.true, c.len.ensures, c.count_of.ensures, c.push.new.self.ok) in
    part_added was _ c.args.scan part (fields_of c.args.line.now) c.requires.is c.requires.scan c.in_ok-part.ensures.ok
    (record { rounds = refl; records = refl; caller = refl; first = refl }) c.requires.scan items less

pub close-requires-clause-parts : goal.close-requires-clause-parts
close-requires-clause-parts c =
    let old = c.args.self.now.parts.items in
    let part = c.in_ok-part.part in
    let items : c.push.new.self.items ≡ old ++ part ∷ [] = c.push.ensures.items ∙ ap (λ t. cond t (old ++ part ∷ []) old) c.if-is_err.ensures.negation in
    subst (All IsReportPart) (sym (ap (λ v. v.items) c.replace-parts.ensures.value ∙ items)) (All-push IsReportPart old part c.requires.is.parts c.in_ok-part.ensures.ok.0)
