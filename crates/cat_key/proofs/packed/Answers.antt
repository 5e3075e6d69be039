use Rattle.std.proofs.Common.{refl, arith}
use Rattle.std.proofs.lemmas.List.Elements.{All-from_get_or}
use Rattle.cat_key.specs.Names.{words_of, word_of}
use Rattle.cat_key.proofs.Digits.{IsByte}
use Rattle.cat_key.proofs.Packing.{packs_byte, packs_within}
use Rattle.cat_key.proofs.packed.Goals as goal

pub loop-at-init : goal.loop-at-init
unfolding words_of word_of
loop-at-init c = refl

pub overflow_add-words : goal.overflow_add-words
overflow_add-words c =
    let bytes = All-from_get_or IsByte c.args.text.now 0 (λ at within. omega (arith, c.type_inv.text at)) in
    omega (arith, packs_within c.args.text.now c.loop-at.words c.loop-at.at c.from.result c.loop-at.invariant c.loop-at-test.true c.requires c.from.ensures bytes)

pub loop-at-preserved : goal.loop-at-preserved
loop-at-preserved c =
    packs_byte c.args.text.now c.loop-at.words c.loop-at.at c.from.result c.loop-at.invariant c.loop-at-test.true c.requires c.from.ensures (omega (arith, c.from.ensures, c.type_inv.text c.loop-at.at))
