use Rattle.std.proofs.Common.{◌≡◌, take}
use Rattle.cat_key.specs.Names.{words_of}
use Rattle.cat_key.proofs.packed.Given as goal

abbrev pub invariant-loop-at : goal.invariant-loop-at
invariant-loop-at l = l.words ≡ words_of (take l.at l.text)
