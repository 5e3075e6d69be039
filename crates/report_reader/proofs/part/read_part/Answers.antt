use Rattle.std.proofs.Common.{refl, flat_map}
use Rattle.cat_text.specs.ReportLines.{pair_fields}
use Rattle.report_reader.specs.Fields.{fields_of}
use Rattle.report_reader.proofs.PartLaws.{bounds_of}
use Rattle.report_reader.proofs.part.read_part.Goals as goal

pub returns-in_default-clause-err : goal.returns-in_default-clause-err
returns-in_default-clause-err c = λ part says.
    c.in_default.ensures.none refl (record { low = part.low; high = part.high; place = part.place }) (flat_map pair_fields part.pairs) (bounds_of part (fields_of c.args.line.now) says)
