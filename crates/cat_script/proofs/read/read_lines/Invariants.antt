use Rattle.std.proofs.Common.{◌≡◌, ℕ, ◌+◌, ◌≤◌, List, ◌++◌, length}
use Rattle.cat_script.specs.Lines.{lines_of}
use Rattle.cat_script.specs.Reading.{IsReading}
use Rattle.cat_script.proofs.read.read_lines.Given as goal

-- the lines so far were read, and each had a byte or its line feed
abbrev pub invariant-loop-rest : goal.invariant-loop-rest
invariant-loop-rest l = (done : List (List ℕ)) × (lines_of l.bytes ≡ done ++ lines_of l.rest) × IsReading done l.reading × (l.reading.counts.lines + length l.rest ≤ length l.bytes)

abbrev pub decreases-loop-rest : goal.decreases-loop-rest
decreases-loop-rest l = length l.rest
