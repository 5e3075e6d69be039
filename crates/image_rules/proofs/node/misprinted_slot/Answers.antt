use Rattle.std.proofs.Common.{rules}
use Rattle.std.proofs.lemmas.Iterator.{first_from_Range}
use borrow.Author.Tests.{tests}
use Rattle.image_rules.specs.Nodes.{image_spot}
use Rattle.image_rules.specs.Rules.{IsMisprinted}
use Rattle.image_rules.proofs.LowestLemmas.{lowest_slot}
use Rattle.image_rules.proofs.node.misprinted_slot.Goals as goal

pub returns-clause-lowest : goal.returns-clause-lowest
returns-clause-lowest c =
    let s = image_spot c.args.image.now.layout c.args.image.now.words c.args.node in
    lowest_slot (IsMisprinted c.args.image.now.layout.slots s) _ c.slot_count.result c.find.result c.slot_count.ensures.count (λ k is. is.within)
    (first_from_Range _ _ _ c.find.result (IsMisprinted c.args.image.now.layout.slots s) (λ k. ¬ IsMisprinted c.args.image.now.layout.slots s k) c.find.ensures.ran (λ x q k. search (rules, tests)) (λ x q k. search (rules, tests)))
