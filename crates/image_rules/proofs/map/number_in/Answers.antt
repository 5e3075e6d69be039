use Rattle.std.proofs.Common.{◌∙◌, Some, None, sym, refl}
use Rattle.image_rules.proofs.MapLemmas.{in_target, in_no_target}
use Rattle.image_rules.proofs.map.number_in.Goals as goal

pub returns-in_err-node : goal.returns-in_err-node
returns-in_err-node c = λ m of_m.
    let l = c.args.image.now.layout in
    let image = c.args.image.now.words in
    c.from_residual.ensures ∙ in_no_target l image m c.args.name.now of_m c.words-words.ensures.name (c.in_err-node.ensures.none refl)

pub returns-in_err-slot : goal.returns-in_err-slot
returns-in_err-slot c = λ m of_m.
    let l = c.args.image.now.layout in
    let image = c.args.image.now.words in
    c.from_residual-in_err-slot.ensures ∙ in_target l image m c.args.name.now c.in_ok-node.node of_m c.words-words.ensures.name c.in_ok-node.ensures.some.0 None
    (λ slot within live same. c.in_err-slot.ensures.lowest slot (record { within = within; live = live; same = same ∙ sym c.words-words.ensures.words }))

pub returns : goal.returns
returns c = λ m of_m.
    let l = c.args.image.now.layout in
    let image = c.args.image.now.words in
    let has = c.in_ok-slot.ensures.lowest.0 in
    in_target l image m c.args.name.now c.in_ok-node.node of_m c.words-words.ensures.name c.in_ok-node.ensures.some.0 (Some c.value_in.result)
    (c.in_ok-slot.slot, has.within, has.live, has.same ∙ c.words-words.ensures.words, sym c.value_in.ensures)
