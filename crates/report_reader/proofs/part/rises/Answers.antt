use Rattle.std.proofs.Common.{◌∙◌, sym}
use Rattle.report_reader.proofs.PartLaws.{rise_by_last}
use Rattle.report_reader.proofs.part.rises.Goals as goal

pub returns-in-Some : goal.returns-in-Some
returns-in-Some c = λ value.
    let by_last = rise_by_last c.args.pairs.now c.in-Some.last.now (record { name = c.args.name.now; value = value }) c.in-Some.ensures.value c.requires in
    ((λ is. by_last.1 (sym c.lt.ensures ∙ is)), (λ rise. c.lt.ensures ∙ by_last.0 rise))
