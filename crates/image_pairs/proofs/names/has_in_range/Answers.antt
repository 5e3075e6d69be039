use Rattle.std.proofs.Common.{not, ap, sym, ◌∙◌}
use Rattle.std.proofs.lemmas.Bool.{eq-eqb, ltb-true, ltb-false}
use Rattle.data_node.specs.Lists.{number_of}
use Rattle.image_pairs.proofs.PairWalks.{out_below, in_last, in_by_next}
use Rattle.image_pairs.proofs.names.has_in_range.Goals as goal

pub returns-then-next-eq0 : goal.returns-then-next-eq0
returns-then-next-eq0 c =
    let low = ltb-false _ _ (sym c.is_under.ensures ∙ c.if-not-is_under.true) in
    eq-eqb c.args.next 0 c.if-next-eq0.true
    ∙ sym (in_last c.args.image.now.layout c.args.image.now.words c.requires.sound c.args.node c.args.next (number_of c.args.key.now) c.requires.listed c.requires.next low c.if-next-eq0.true)

pub returns-else-next-eq0 : goal.returns-else-next-eq0
returns-else-next-eq0 c =
    let low = ltb-false _ _ (sym c.is_under.ensures ∙ c.if-not-is_under.true) in
    c.is_under-else-next-eq0.ensures
    ∙ in_by_next c.args.image.now.layout c.args.image.now.words c.requires.sound c.args.node c.args.next (number_of c.args.key.now) c.requires.listed c.requires.next low c.if-next-eq0.false

pub returns-else-not-is_under : goal.returns-else-not-is_under
returns-else-not-is_under c =
    let less = ltb-true _ _ (sym c.is_under.ensures ∙ c.if-not-is_under.false) in
    ap not c.if-not-is_under.false
    ∙ sym (out_below c.args.image.now.layout c.args.image.now.words c.requires.sound c.args.node c.args.next (number_of c.args.key.now) c.requires.listed c.requires.next less)
