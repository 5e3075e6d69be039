use Rattle.image_rules.specs.Sound.{AreKept}
use Rattle.image_rules.proofs.broken.first_broken.Given as goal

-- no rule before this one is broken
abbrev pub invariant-loop-rule : goal.invariant-loop-rule
invariant-loop-rule l = AreKept l.image.layout l.image.words l.rule
