use Rattle.std.proofs.Common.{nat_lt, ap, sym, ◌∙◌}
use Rattle.data_node.specs.Lists.{number_of}
use Rattle.data_node.proofs.KeyLemmas.{anchor-number}
use Rattle.image_rules.specs.Nodes.{image_spot}
use Rattle.image_pairs.proofs.names.is_under.Goals as goal

pub returns : goal.returns
returns c =
    let anchor = ap number_of c.anchor_of.ensures ∙ sym (anchor-number (image_spot c.args.image.now.layout c.args.image.now.words c.args.node)) in
    c.is_below.ensures ∙ ap (nat_lt (number_of c.args.key.now)) anchor
