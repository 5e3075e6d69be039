use Rattle.std.proofs.Common.{length}
use Rattle.report_reader.proofs.StepLaws.{IsReadTo}
use Rattle.report_reader.proofs.read.read_text.Given as goal

abbrev pub invariant-loop-line : goal.invariant-loop-line
invariant-loop-line l = IsReadTo l.bytes l.rest l.number l.reading

abbrev pub decreases-loop-line : goal.decreases-loop-line
decreases-loop-line l = length l.rest
