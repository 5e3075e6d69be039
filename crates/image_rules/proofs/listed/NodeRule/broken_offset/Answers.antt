use Rattle.std.proofs.Common.{sym, subst}
use Rattle.image_rules.specs.Lowest.{IsLowest}
use Rattle.image_rules.specs.Nodes.{image_spot}
use Rattle.image_rules.specs.Rules.{BreaksBy}
use Rattle.image_rules.proofs.listed.NodeRule.broken_offset.Goals as goal

pub returns-in-Names-clause-lowest : goal.returns-in-Names-clause-lowest
returns-in-Names-clause-lowest c =
    subst (λ rule. IsLowest (BreaksBy rule c.args.image.now.layout.slots (image_spot c.args.image.now.layout c.args.image.now.words c.args.node)) c.misnamed_offset.result) (sym c.in-Names.is)
    c.misnamed_offset.ensures.lowest

pub returns-in-Prints-clause-lowest : goal.returns-in-Prints-clause-lowest
returns-in-Prints-clause-lowest c =
    subst (λ rule. IsLowest (BreaksBy rule c.args.image.now.layout.slots (image_spot c.args.image.now.layout c.args.image.now.words c.args.node)) c.misprinted_offset.result) (sym c.in-Prints.is)
    c.misprinted_offset.ensures.lowest

pub returns-in-Apart-clause-lowest : goal.returns-in-Apart-clause-lowest
returns-in-Apart-clause-lowest c =
    subst (λ rule. IsLowest (BreaksBy rule c.args.image.now.layout.slots (image_spot c.args.image.now.layout c.args.image.now.words c.args.node)) c.repeated_offset.result) (sym c.in-Apart.is)
    c.repeated_offset.ensures.lowest
