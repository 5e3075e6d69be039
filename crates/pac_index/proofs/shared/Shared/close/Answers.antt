use Rattle.std.proofs.Common.{ℕ, List, get_or, ap, ◌∙◌}
use Rattle.std.specs.Mem.Slots.{slots_items}
use Rattle.pac_index.specs.Callers.{kept_by}
use Rattle.pac_index.proofs.Closing.{settled_index, settled_meets, settled_so, taken}
use Rattle.pac_index.proofs.shared.Shared.close.Goals as goal

pub in_order-requires : goal.in_order-requires
in_order-requires c =
    let t = taken c.args.self c.args.callers.items c.gathered-seat.result.id c.gathered-seat.result.me (slots_items c.close_with-closed.result.words) (slots_items c.close_with-closed.result.slots) c.in_ok-states.states.items c.as_slice-3.result.now _ c.index-clock.result.now _ c.requires.callers c.requires.rests
    c.gathered-seat.ensures.all c.close_with-closed.ensures.values.2 c.as_slice.ensures.value c.in_ok-states.ensures (c.as_slice-3.ensures.value ∙ c.in_ok-kept.ensures ∙ ap kept_by c.as_slice-2.ensures.value) (c.index-clock.ensures ∙ ap (λ (l : List ℕ). get_or l 0 c.index-clock.result.now) c.in_ok-words.ensures) in
    (t.closed.history, t.long, t.writes)

pub of_parts-requires-clause-index : goal.of_parts-requires-clause-index
of_parts-requires-clause-index c =
    let t = taken c.args.self c.args.callers.items c.gathered-seat.result.id c.gathered-seat.result.me (slots_items c.close_with-closed.result.words) (slots_items c.close_with-closed.result.slots) c.in_ok-states.states.items c.as_slice-3.result.now _ c.index-clock.result.now _ c.requires.callers c.requires.rests
    c.gathered-seat.ensures.all c.close_with-closed.ensures.values.2 c.as_slice.ensures.value c.in_ok-states.ensures (c.as_slice-3.ensures.value ∙ c.in_ok-kept.ensures ∙ ap kept_by c.as_slice-2.ensures.value) (c.index-clock.ensures ∙ ap (λ (l : List ℕ). get_or l 0 c.index-clock.result.now) c.in_ok-words.ensures) in
    let made = settled_so c.args.self (slots_items c.close_with-closed.result.words) _ c.of_words-memory.result c.settle_stamps.new.memory c.of_words-memory.ensures c.in_ok-words.ensures c.settle_stamps.ensures.layout c.settle_stamps.ensures.settled in
    settled_index c.args.self c.args.callers.items (slots_items c.close_with-closed.result.words) c.in_ok-states.states.items c.as_slice-3.result.now _ c.settle_stamps.new.memory _ t (c.in_ok-history.ensures t.closed.history t.long t.writes) made

pub returns : goal.returns
returns c =
    let t = taken c.args.self c.args.callers.items c.gathered-seat.result.id c.gathered-seat.result.me (slots_items c.close_with-closed.result.words) (slots_items c.close_with-closed.result.slots) c.in_ok-states.states.items c.as_slice-3.result.now _ c.index-clock.result.now _ c.requires.callers c.requires.rests
    c.gathered-seat.ensures.all c.close_with-closed.ensures.values.2 c.as_slice.ensures.value c.in_ok-states.ensures (c.as_slice-3.ensures.value ∙ c.in_ok-kept.ensures ∙ ap kept_by c.as_slice-2.ensures.value) (c.index-clock.ensures ∙ ap (λ (l : List ℕ). get_or l 0 c.index-clock.result.now) c.in_ok-words.ensures) in
    let made = settled_so c.args.self (slots_items c.close_with-closed.result.words) _ c.of_words-memory.result c.settle_stamps.new.memory c.of_words-memory.ensures c.in_ok-words.ensures c.settle_stamps.ensures.layout c.settle_stamps.ensures.settled in
    record { meeting = settled_meets c.args.self c.args.callers.items (slots_items c.close_with-closed.result.words) c.in_ok-states.states.items c.as_slice-3.result.now _ c.settle_stamps.new.memory _ t (c.in_ok-history.ensures t.closed.history t.long t.writes) made c.of_parts.result c.of_parts.ensures.same c.of_parts.ensures.index }
