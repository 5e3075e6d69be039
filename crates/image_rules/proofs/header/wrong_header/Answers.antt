use Rattle.std.proofs.Common.{◌∙◌, subst, sym}
use Rattle.std.proofs.lemmas.Bool.{false≢true}
use Rattle.version_lock.specs.Versions.{IsGeneration}
use Rattle.image_rules.proofs.HeaderLemmas.{generation_broken, generation_right}
use Rattle.image_rules.proofs.header.wrong_header.Goals as goal

pub returns-then-not-is_generation : goal.returns-then-not-is_generation
returns-then-not-is_generation c =
    generation_broken c.args.image.now.layout c.args.image.now.words (λ counts.
    let yes = c.is_generation.ensures.1 (subst IsGeneration (sym c.header_generation.ensures) counts) in
    false≢true (sym c.if-not-is_generation.true ∙ yes))

pub returns : goal.returns
returns c =
    generation_right c.args.image.now.layout c.args.image.now.words c.used_spare.result
    (subst IsGeneration c.header_generation.ensures (c.is_generation.ensures.0 c.if-not-is_generation.false)) c.used_spare.ensures
