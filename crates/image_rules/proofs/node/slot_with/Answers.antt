use Rattle.std.proofs.Common.{rules, ◌<◌, sym, subst}
use Rattle.std.proofs.lemmas.Iterator.{first_from_Range}
use borrow.Author.Tests.{tests}
use Rattle.image_rules.specs.Nodes.{image_spot, HasWords}
use Rattle.image_rules.proofs.LowestLemmas.{lowest_from_range}
use Rattle.image_rules.proofs.node.slot_with.Goals as goal

pub returns : goal.returns
returns c =
    let slots = c.args.image.now.layout.slots in
    let s = image_spot c.args.image.now.layout c.args.image.now.words c.args.node in
    record {
      lowest =
          lowest_from_range (HasWords slots s c.args.words) c.slot_count.result c.find.result (λ k is. subst (λ n. k < n) (sym c.slot_count.ensures.count) is.within)
          (first_from_Range _ _ _ c.find.result (HasWords slots s c.args.words) (λ k. ¬ HasWords slots s c.args.words k) c.find.ensures.ran (λ x q k. search (rules, tests)) (λ x q k. search (rules, tests)));
    }
