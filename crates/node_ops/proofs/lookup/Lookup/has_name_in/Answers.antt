use Rattle.std.proofs.Common.{true, false, ap, ◌∙◌, arith}
use Rattle.std.proofs.lemmas.Bool.{eq-eqb, ne_eqb}
use Rattle.pm_words.specs.Offsets.{slot_offset}
use Rattle.node_ops.specs.Calls.{call_address}
use Rattle.node_ops.proofs.Comparisons.{address_fits, name_call, name_small, name_within}
use Rattle.node_ops.proofs.Comparisons.{word_can, word_leads, words_end}
use Rattle.node_ops.proofs.lookup.Lookup.has_name_in.Goals as goal

pub slot_word-requires-clause-slot : goal.slot_word-requires-clause-slot
slot_word-requires-clause-slot g c =
    name_small c.args.self.now.call c.requires.0 c.requires.1 c.requires.2 c.args.slot c.requires.3

pub address-first-requires-clause-sound : goal.address-first-requires-clause-sound
address-first-requires-clause-sound g c =
    name_call c.args.self.now.call c.requires.0 c.requires.1 c.requires.2 c.args.slot c.requires.3

pub address-first-requires-clause-within : goal.address-first-requires-clause-within
address-first-requires-clause-within g c =
    let within =
    name_within c.args.self.now.call c.requires.0 c.requires.1 c.requires.2 c.args.slot c.requires.3 0 (omega arith) in
    omega (arith, within, c.slot_word.ensures)

pub overflow_add-first : goal.overflow_add-first
overflow_add-first g c =
    let fits =
    address_fits c.args.self.now.call (slot_offset c.args.slot 0) c.loop-at.at c.address-first.result
    (name_call c.args.self.now.call c.requires.0 c.requires.1 c.requires.2 c.args.slot c.requires.3)
    (c.address-first.ensures ∙ ap (call_address c.args.self.now.call) c.slot_word.ensures)
    (name_within c.args.self.now.call c.requires.0 c.requires.1 c.requires.2 c.args.slot c.requires.3 c.loop-at.at
    (omega (arith, c.loop-at-test.true))) in
    omega (arith, fits)

pub act-requires : goal.act-requires
act-requires g c =
    word_can c.args.self.now.call c.requires.0 c.requires.1 c.requires.2 c.args.slot c.loop-at.at c.loop-at-test.true
    (c.loop-at.invariant c.requires.0 c.requires.1 c.requires.2 c.requires.3)
    (c.address-first.ensures ∙ ap (call_address c.args.self.now.call) c.slot_word.ensures)

pub returns-then-act-self : goal.returns-then-act-self
returns-then-act-self g c hold directory left may =
    word_leads c.args.self.now.call hold directory left c.args.slot c.loop-at.at c.loop-at-test.true
    (c.loop-at.invariant hold directory left may) false (ne_eqb _ _ c.if-act-self.true)
    (c.address-first.ensures ∙ ap (call_address c.args.self.now.call) c.slot_word.ensures) c.act.ensures.row
    c.act.ensures.got c.act.ensures.tick

pub loop-at-preserved : goal.loop-at-preserved
loop-at-preserved g c hold directory left may =
    word_leads c.args.self.now.call hold directory left c.args.slot c.loop-at.at c.loop-at-test.true
    (c.loop-at.invariant hold directory left may) true (eq-eqb _ _ c.if-act-self.false)
    (c.address-first.ensures ∙ ap (call_address c.args.self.now.call) c.slot_word.ensures) c.act.ensures.row
    c.act.ensures.got c.act.ensures.tick

pub returns : goal.returns
returns g c hold directory left may =
    words_end c.args.self.now.call hold directory left c.args.slot c.loop-at.at (omega (arith, c.loop-at-test.false))
    (c.loop-at.invariant hold directory left may)
