use Rattle.std.proofs.Common.{◌∙◌, refl}
use Rattle.report_reader.proofs.StateLaws.{opens}
use Rattle.report_reader.proofs.reading.Reading.add_call.Goals as goal

pub returns-clause-ok : goal.returns-clause-ok
returns-clause-ok c =
    opens c.args.self.now _ c.args.call c.requires.is c.requires.closed c.requires.call (λ none. c.if-count_of-eq0.false (c.count_of.ensures ∙ none))
    (record { rounds = refl; records = refl; caller = refl; first = refl }) refl refl
