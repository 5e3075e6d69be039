use Rattle.image_rules.specs.Rules.{IsUnfit}
use Rattle.image_rules.proofs.LowestLemmas.{NoneBelow}
use Rattle.image_rules.proofs.log_line.unfit_line.Given as goal

-- each line that the loop has passed is in order
abbrev pub invariant-loop-line : goal.invariant-loop-line
invariant-loop-line l = NoneBelow (IsUnfit l.image.layout l.image.words) l.line
