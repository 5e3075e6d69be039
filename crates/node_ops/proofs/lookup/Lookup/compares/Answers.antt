use Rattle.std.proofs.Common.{ℕ, ◌<◌, true, ap, ◌∙◌, sym, subst}
use Rattle.pm_words.specs.Locations.{node_words}
use Rattle.node_ops.specs.Calls.{call_address}
use Rattle.node_ops.proofs.Comparisons.{candidate_call, candidate_slot, candidate_told, candidate_within}
use Rattle.node_ops.proofs.Comparisons.{candidates_fewer, value_can, value_looks}
use Rattle.node_ops.proofs.lookup.Lookup.compares.Goals as goal

pub slot_word-requires-clause-slot : goal.slot_word-requires-clause-slot
slot_word-requires-clause-slot g c =
    candidate_slot c.args.self.now.call c.requires.0 c.requires.1 c.slots.left c.in-Some.slot
    (sym c.lowest_live.ensures ∙ c.in-Some.is) (c.slots.invariant c.requires.0 c.requires.1 c.requires.2)

pub address-address-requires-clause-sound : goal.address-address-requires-clause-sound
address-address-requires-clause-sound g c =
    candidate_call c.args.self.now.call c.requires.0 c.requires.1 c.slots.left c.in-Some.slot
    (sym c.lowest_live.ensures ∙ c.in-Some.is) (c.slots.invariant c.requires.0 c.requires.1 c.requires.2)

pub address-address-requires-clause-within : goal.address-address-requires-clause-within
address-address-requires-clause-within g c =
    subst (λ (n : ℕ). n < node_words c.args.self.now.call.view.layout) (sym c.slot_word.ensures)
    (candidate_within c.args.self.now.call c.requires.0 c.requires.1 c.slots.left c.in-Some.slot
    (sym c.lowest_live.ensures ∙ c.in-Some.is) (c.slots.invariant c.requires.0 c.requires.1 c.requires.2))

pub act-value-requires : goal.act-value-requires
act-value-requires g c =
    value_can c.args.self.now.call c.requires.0 c.requires.1 c.in-Some.slot
    (candidate_told c.args.self.now.call c.requires.0 c.requires.1 c.slots.left c.in-Some.slot
    (sym c.lowest_live.ensures ∙ c.in-Some.is) (c.slots.invariant c.requires.0 c.requires.1 c.requires.2) true
    c.if-has_name_in.true c.has_name_in.ensures)
    (c.address-address.ensures ∙ ap (call_address c.args.self.now.call) c.slot_word.ensures)

pub returns-then-has_name_in : goal.returns-then-has_name_in
returns-then-has_name_in g c hold directory may =
    value_looks c.args.self.now.call hold directory c.in-Some.slot
    (candidate_told c.args.self.now.call hold directory c.slots.left c.in-Some.slot
    (sym c.lowest_live.ensures ∙ c.in-Some.is) (c.slots.invariant hold directory may) true c.if-has_name_in.true
    c.has_name_in.ensures)
    (c.address-address.ensures ∙ ap (call_address c.args.self.now.call) c.slot_word.ensures) c.act-value.ensures.row
    c.act-value.ensures.got c.act-value.ensures.tick

pub without_live-left-requires : goal.without_live-left-requires
without_live-left-requires g c =
    candidate_slot c.args.self.now.call c.requires.0 c.requires.1 c.slots.left c.in-Some.slot
    (sym c.lowest_live.ensures ∙ c.in-Some.is) (c.slots.invariant c.requires.0 c.requires.1 c.requires.2)

pub slots-smaller : goal.slots-smaller
slots-smaller g c =
    subst (λ (n : ℕ). n < c.slots.left) (sym c.without_live-left.ensures.value)
    (candidates_fewer c.args.self.now.call c.requires.0 c.requires.1 c.slots.left c.in-Some.slot
    (sym c.lowest_live.ensures ∙ c.in-Some.is) (c.slots.invariant c.requires.0 c.requires.1 c.requires.2))
