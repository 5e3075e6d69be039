use Rattle.std.proofs.Common.{◌+◌, ◌/◌, ◌%◌, cond, slice_index, sym, ap, ◌∙◌, arith}
use Rattle.std.proofs.lemmas.Bool.{lt-ltb}
use Rattle.data_node.specs.Slots.{prints_of}
use Rattle.data_node.specs.Spots.{print_in_spot}
use Rattle.split_merge.specs.Plans.{plan_print, spot_of, source_in}
use Rattle.split_merge.proofs.planning.Plan.print.Goals as goal

pub returns-then-slot-slots : goal.returns-then-slot-slots
unfolding plan_print
returns-then-slot-slots c =
    let plan = c.args.self.now in
    let inside = lt-ltb c.args.slot (plan.layout.slots / 2) (let low = c.if-slot-slots.true in let same = c.slots.ensures in omega arith) in
    let value = print_in_spot (spot_of plan.full) (source_in plan c.args.slot) in
    c.print_at.ensures ∙ ap (λ k. slice_index (prints_of (slice_index plan.full (8 + k / 8))) (k % 8)) c.from-source.ensures ∙ sym (ap (λ b. cond b value 0) inside)
