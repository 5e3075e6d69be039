use Rattle.std.proofs.Common.{◌≡◌, List, refl, sym, subst}
use Rattle.std.proofs.lemmas.Bool.{false≢true}
use Rattle.cat_text.specs.ReportGrammar.{IsReport}
use Rattle.cat_text.specs.ReportLines.{report_lines}
use Rattle.cat_text.specs.declared.report.RoundReport.{RoundReport}
use Rattle.report_reader.specs.Reading.{lines_read}
use Rattle.report_reader.proofs.StateLaws.{whole_is, has_ended}
use Rattle.report_reader.proofs.reading.Reading.finish.Goals as goal

pub returns-then-not-has_ended-clause-none : goal.returns-then-not-has_ended-clause-none
returns-then-not-has_ended-clause-none c = λ _ report is same.
    let ended = has_ended c.args.self report c.requires is same in
    false≢true (c.if-not-has_ended.ensures.1 (ended.closed, ended.empty, ended.some))

pub returns-clause-some : goal.returns-clause-some
returns-clause-some c =
    let ended = c.if-not-has_ended.ensures.0 refl in
    subst (λ (rounds : List RoundReport). IsReport rounds × (lines_read c.args.self ≡ report_lines rounds)) (sym c.of.ensures)
    (whole_is c.args.self c.requires ended.0 ended.1 ended.2)
