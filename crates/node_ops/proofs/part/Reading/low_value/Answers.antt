use Rattle.std.proofs.Common.{◌≡◌, suc, ◌+◌, ap, ◌∙◌, arith}
use Rattle.node_ops.specs.PartSteps.{low_or, low_value}
use Rattle.node_ops.proofs.part.Reading.low_value.Goals as goal

pub loop-slot-preserved : goal.loop-slot-preserved
loop-slot-preserved c =
    let slot = c.loop-slot.slot in
    let next : suc slot ≡ slot + 1 = omega arith in
    c.low_or-old.ensures ∙ ap (low_or c.args.self.now slot) c.loop-slot.invariant ∙ ap (low_value c.args.self.now) next

pub returns : goal.returns
returns c =
    let within = c.loop-slot.auto.slot-end in
    let past = c.loop-slot-test.false in
    let slots = c.slots-slot-end.ensures in
    let all : c.loop-slot.slot ≡ c.args.self.now.call.view.layout.slots = omega arith in
    c.loop-slot.invariant ∙ ap (low_value c.args.self.now) all
