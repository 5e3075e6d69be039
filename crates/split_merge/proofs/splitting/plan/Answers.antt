use Rattle.std.proofs.Common.{ℕ, ◌/◌, ◌<◌, List, take, slice_index, ap, ◌∙◌, arith}
use Rattle.std.proofs.lemmas.List.Elements.{All-take, recursion_from_All}
use Rattle.data_node.specs.Orders.{listed}
use Rattle.data_node.specs.Spots.{name_words}
use Rattle.split_merge.specs.Plans.{spot_of, order_of, moved_of, least_words, anchor_of, bits_of}
use Rattle.split_merge.proofs.Made.{order_all, one_bits}
use Rattle.split_merge.proofs.Halving.{in_within}
use Rattle.split_merge.proofs.splitting.plan.Goals as goal

pub halves-halves-requires-clause-bits : goal.halves-halves-requires-clause-bits
halves-halves-requires-clause-bits c =
    let few = c.requires.slots.1 in
    let same = c.slots-slots.ensures in
    order_all c.args.full.now c.slots-slots.result (listed c.order_in-order.result) (omega arith) c.order_in-order.ensures.listed

pub anchor_in-requires : goal.anchor_in-requires
anchor_in-requires c =
    let few = c.requires.slots.1 in
    let low = c.requires.slots.0 in
    let same = c.slots-slots.ensures in
    let slots = c.slots-slots.result in
    let within = in_within c.args.full.now slots (omega arith) (slots / 2) (omega arith) in
    let first = c.halves-halves.ensures.first ∙ ap (λ (xs : List ℕ). slice_index xs (slots / 2)) c.order_in-order.ensures.listed in
    omega arith

pub returns : goal.returns
returns c =
    let few = c.requires.slots.1 in
    let same = c.slots-slots.ensures in
    let slots = c.slots-slots.result in
    let full = c.args.full.now in
    let list = c.order_in-order.ensures.listed in
    let moved = c.upper_in.ensures ∙ ap (λ (xs : List ℕ). moved_of xs (slots / 2)) list ∙ ap (λ n. moved_of (order_of full n) (n / 2)) same in
    let first = c.halves-halves.ensures.first ∙ ap (λ (xs : List ℕ). slice_index xs (slots / 2)) list in
    let anchor = c.anchor_in.ensures ∙ ap (λ n. anchor_of (name_words (spot_of full) n)) first ∙ ap (λ n. anchor_of (least_words full n)) same in
    let all = order_all full slots (listed c.order_in-order.result) (omega arith) list in
    let small = recursion_from_All (λ slot. slot < 64) (take (slots / 2) (listed c.order_in-order.result)) (All-take (λ slot. slot < 64) (slots / 2) (listed c.order_in-order.result) all) in
    let keep = one_bits (take (slots / 2) (listed c.order_in-order.result)) c.halves-halves.result.keep small c.halves-halves.ensures.keep
    ∙ ap (λ (xs : List ℕ). bits_of (take (slots / 2) xs)) list ∙ ap (λ n. bits_of (take (n / 2) (order_of full n))) same in
    λ i. record {
      layout = c.args.view.now.layout;
      node = c.args.node;
      locked = c.args.word;
      share = c.args.share;
      full = full;
      moved = moved i;
      anchor = anchor i;
      keep = keep i;
    }
