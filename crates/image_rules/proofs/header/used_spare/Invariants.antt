use Rattle.image_rules.proofs.LowestLemmas.{NoneBelow}
use Rattle.image_rules.proofs.WordLemmas.{IsUsedNumber}
use Rattle.image_rules.proofs.header.used_spare.Given as goal

-- no word that the loop has passed is used
abbrev pub invariant-loop-word : goal.invariant-loop-word
invariant-loop-word l = NoneBelow (IsUsedNumber l.image.words) l.word
