use Rattle.std.proofs.Common.{◌<◌, ◌^◌, ◌∙◌, refl, arith}
use Rattle.data_node.proofs.Bitmaps.{lowest_clear, all_live, not_all_live}
use Rattle.data_node.specs.Slots.{IsLowestClear}
use Rattle.data_node.proofs.slots.clear_slot.Goals as goal

lowest : (c : goal.Then-slot-slots) → IsLowestClear c.args.bitmap c.args.slots c.from-slot.result
lowest c =
    let fits : c.args.bitmap < 2 ^ 64 = omega arith in
    lowest_clear c.args.bitmap c.args.slots c.from-slot.result fits (c.from-slot.ensures ∙ c.trailing_ones.ensures) c.if-slot-slots.true c.requires

pub returns-then-slot-slots-clause-full : goal.returns-then-slot-slots-clause-full
returns-then-slot-slots-clause-full c = (λ none. cc, λ live. absurd (not_all_live c.args.bitmap c.args.slots c.from-slot.result (lowest c) live))

pub returns-then-slot-slots-clause-lowest : goal.returns-then-slot-slots-clause-lowest
returns-then-slot-slots-clause-lowest c = lowest c

pub returns-else-slot-slots-clause-full : goal.returns-else-slot-slots-clause-full
returns-else-slot-slots-clause-full c =
    let fits : c.args.bitmap < 2 ^ 64 = omega arith in
    (λ none. all_live c.args.bitmap c.args.slots c.from-slot.result fits (c.from-slot.ensures ∙ c.trailing_ones.ensures) c.if-slot-slots.false, λ live. refl)
