use Rattle.std.proofs.Common.{◌≢◌, ◌∙◌, ap, sym, arith}
use Rattle.std.proofs.lemmas.Bool.{eq-eqb, ltb-true, ltb-false, lt-ltb}
use Rattle.data_node.specs.Lists.{number_of, anchor_in}
use Rattle.data_node.proofs.KeyLemmas.{anchor-number}
use Rattle.image_rules.specs.Nodes.{image_spot, next_in}
use Rattle.image_recovery.proofs.trim.is_between.Goals as goal

pub returns-then-is_below : goal.returns-then-is_below
returns-then-is_below c =
    let s = image_spot c.args.image.now.layout c.args.image.now.words c.args.node in
    let same = ap number_of c.anchor_of.ensures ∙ sym (anchor-number s) in
    let below = ltb-true (number_of c.args.key) (number_of c.anchor_of.result) (sym c.is_below.ensures ∙ c.if-is_below.true) in
    (λ clash. cc, λ between. let low = between.low in absurd (omega arith))

pub returns-then-next-eq0 : goal.returns-then-next-eq0
returns-then-next-eq0 c =
    let s = image_spot c.args.image.now.layout c.args.image.now.words c.args.node in
    let same = ap number_of c.anchor_of.ensures ∙ sym (anchor-number s) in
    let reached = ltb-false (number_of c.args.key) (number_of c.anchor_of.result) (sym c.is_below.ensures ∙ c.if-is_below.false) in
    let none = sym c.next_of-next.ensures ∙ c.if-next-eq0.true in
    (λ _. record { low = omega arith; high = λ leads. absurd (leads none) }, λ _. eq-eqb c.next_of-next.result 0 c.if-next-eq0.true)

pub returns-else-next-eq0 : goal.returns-else-next-eq0
returns-else-next-eq0 c =
    let l = c.args.image.now.layout in
    let words = c.args.image.now.words in
    let key = number_of c.args.key in
    let s = image_spot l words c.args.node in
    let t = image_spot l words (next_in l words c.args.node) in
    let same = ap number_of c.anchor_of.ensures ∙ sym (anchor-number s) in
    let reached = ltb-false key (number_of c.anchor_of.result) (sym c.is_below.ensures ∙ c.if-is_below.false) in
    let next = ap number_of c.anchor_of-else-next-eq0.ensures ∙ sym (anchor-number (image_spot l words c.next_of-next.result)) ∙ ap (λ n. anchor_in (image_spot l words n)) c.next_of-next.ensures in
    let leads : next_in l words c.args.node ≢ 0 = λ none. c.if-next-eq0.false (c.next_of-next.ensures ∙ none) in (
      λ below. let less = ltb-true key (number_of c.anchor_of-else-next-eq0.result) (sym c.is_below-else-next-eq0.ensures ∙ below) in record { low = omega arith; high = λ _. omega arith },
      λ between. let high = between.high leads in c.is_below-else-next-eq0.ensures ∙ lt-ltb key (number_of c.anchor_of-else-next-eq0.result) (omega arith),
    )
