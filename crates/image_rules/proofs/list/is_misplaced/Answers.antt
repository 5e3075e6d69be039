use Rattle.std.proofs.Common.{◌≡◌, ◌∙◌, ap, sym, subst, nat_lt}
use Rattle.std.specs.Prelude.{not}
use Rattle.cat_key.specs.Names.{AreNameWords}
use Rattle.data_node.specs.Lists.{number_of, anchor_in}
use Rattle.data_node.proofs.KeyLemmas.{anchor-number}
use Rattle.image_rules.specs.Nodes.{image_spot}
use Rattle.image_rules.proofs.ListRules.{misplaced_if}
use Rattle.image_rules.proofs.list.is_misplaced.Goals as goal

pub returns-else-is_none : goal.returns-else-is_none
returns-else-is_none c =
    let s = image_spot c.args.image.now.layout c.args.image.now.words c.args.node in
    let t = image_spot c.args.image.now.layout c.args.image.now.words c.args.before in
    let below : c.is_below.result ≡ nat_lt (anchor_in t) (anchor_in s) =
    c.is_below.ensures ∙ (λ i. nat_lt ((ap number_of c.anchor_of.ensures ∙ sym (anchor-number t)) i) ((ap number_of c.anchor_of-anchor.ensures ∙ sym (anchor-number s)) i)) in
    misplaced_if s t c.is_below.result below (subst AreNameWords c.anchor_of-anchor.ensures (c.of_words.ensures.some.0 (c.is_none.ensures ∙ ap not c.if-is_none.false)))
