use Rattle.std.proofs.Common.{ap, arith}
use Rattle.pm_words.specs.Locations.{image_words}
use Rattle.catalog_cli.proofs.WordLists.{begun, one-more, ended}
use Rattle.catalog_cli.proofs.files.print_words.Goals as goal

pub loop-at-init : goal.loop-at-init
loop-at-init c =
    let image = c.layout.ensures.image in
    begun c.args.from c.args.count c.min-end.result _ c.args.image.now.words c.new-text.result.items image.whole
    (omega (arith, c.min-end.ensures, c.image_words.ensures.words, ap image_words c.layout.ensures.layout))
    (omega (arith, c.min-end.ensures, c.saturating_add.ensures))
    (λ short. omega (arith, short, c.min-end.ensures, c.saturating_add.ensures, c.image_words.ensures.words, c.image_words.ensures.bound, ap image_words c.layout.ensures.layout))
    c.new-text.ensures.items

pub loop-at-preserved : goal.loop-at-preserved
loop-at-preserved c =
    let image = c.layout.ensures.image in
    one-more c.loop-at.at c.min-end.result c.word.result c.args.image.now.words c.loop-at.text.items c.add_word.new.text.items _ c.loop-at.invariant c.loop-at-test.true
    (omega (arith, image.whole, c.min-end.ensures, c.image_words.ensures.words, ap image_words c.layout.ensures.layout))
    c.word.ensures c.in_ok-add_word.ensures

pub returns : goal.returns
returns c = ended c.loop-at.at c.min-end.result c.args.image.now.words c.loop-at.text.items _ c.loop-at.invariant c.loop-at-test.false
