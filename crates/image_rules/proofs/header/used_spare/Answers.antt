use Rattle.std.proofs.Common.{◌<◌, ◌∙◌, arith}
use Rattle.image_rules.proofs.WordLemmas.{number_used, used_number}
use Rattle.image_rules.proofs.header.used_spare.Goals as goal

pub returns-then-word-ne0 : goal.returns-then-word-ne0
returns-then-word-ne0 c =
    let image = c.args.image.now in
    let least = c.loop-word.auto.word in (
      number_used image.layout image.words c.loop-word.word
          (record { least = least; below = c.loop-word-test.true; other = c.if-word.true; used = λ zero. c.if-word-ne0.true (c.word.ensures ∙ zero) }),
      λ lower below is. c.loop-word.invariant lower below (used_number image.layout image.words lower is),
    )

pub returns : goal.returns
returns c = λ number is.
    let image = c.args.image.now in
    let used = used_number image.layout image.words number is in
    let below : number < c.loop-word.word = omega (arith, used.below) in
    c.loop-word.invariant number below used
