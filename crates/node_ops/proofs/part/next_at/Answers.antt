use Rattle.std.proofs.Common.{◌∙◌, sym}
use Rattle.std.proofs.lemmas.Bool.{false≢true}
use Rattle.node_ops.proofs.PartLemmas.{next-clear}
use Rattle.node_ops.proofs.part.next_at.Goals as goal

pub loop-slot-preserved : goal.loop-slot-preserved
loop-slot-preserved c =
    c.loop-slot.invariant ∙ next-clear c.args.bitmap c.loop-slot.slot c.args.slots c.loop-slot-test.true (λ live. false≢true (sym c.if-is_live.false ∙ c.is_live.ensures.1 live))
