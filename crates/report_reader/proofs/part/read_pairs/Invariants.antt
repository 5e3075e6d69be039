use Rattle.std.proofs.Common.{◌≡◌, ◌++◌, length}
use Rattle.std.specs.Prelude.{All, flat_map}
use Rattle.cat_history.specs.Scans.{Rise}
use Rattle.cat_text.specs.ReportGrammar.{IsReportPair}
use Rattle.cat_text.specs.ReportLines.{pair_fields}
use Rattle.report_reader.specs.Fields.{fields_behind}
use Rattle.report_reader.proofs.part.read_pairs.Given as goal

abbrev pub invariant-loop-name : goal.invariant-loop-name
invariant-loop-name l = record {
  fields : fields_behind l.rest ≡ flat_map pair_fields l.pairs.items ++ fields_behind l.left;
  pairs_are : All IsReportPair l.pairs.items;
  rise : Rise l.pairs.items;
}

abbrev pub decreases-loop-name : goal.decreases-loop-name
decreases-loop-name l = length (fields_behind l.left)
