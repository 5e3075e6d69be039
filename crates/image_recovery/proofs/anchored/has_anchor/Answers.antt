use Rattle.std.proofs.Common.{◌≡◌, ◌∙◌, ap, sym, subst}
use Rattle.std.specs.Prelude.{◌↔◌, IsTrue}
use Rattle.data_node.specs.Lists.{anchor_in, number_of}
use Rattle.data_node.proofs.KeyLemmas.{anchor-number}
use Rattle.image_rules.specs.Nodes.{image_spot}
use Rattle.image_recovery.proofs.anchored.has_anchor.Goals as goal

pub returns : goal.returns
returns c =
    let s = image_spot c.args.image.now.layout c.args.image.now.words c.args.node in
    let same : number_of c.anchor_of.result ≡ anchor_in s = ap number_of c.anchor_of.ensures ∙ sym (anchor-number s) in
    subst (λ key. IsTrue c.is_same.result ↔ (key ≡ number_of c.args.anchor)) same c.is_same.ensures
