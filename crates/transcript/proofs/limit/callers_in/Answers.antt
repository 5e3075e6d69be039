use Rattle.std.proofs.Common.{◌∙◌, List, map, ap}
use Rattle.std.specs.List.{list_any}
use Rattle.std.specs.Ordering.{nat_cmp, eq_by_cmp}
use Rattle.std.proofs.lemmas.List.{take_all}
use Rattle.cat_history.specs.declared.op.CallerOp.{CallerOp}
use Rattle.transcript.proofs.CountLemmas.{set_counts}
use Rattle.transcript.proofs.limit.callers_in.Goals as goal

pub returns : goal.returns
returns c =
    let asked = c.args.asked.now in
    c.len.ensures.len
    ∙ set_counts c.loop-call.callers.keys (map (λ (a : CallerOp). a.caller) asked) c.loop-call.invariant.ordered
    (λ q. c.loop-call.invariant.has q ∙ ap (λ (calls : List CallerOp). list_any (eq_by_cmp nat_cmp q) (map (λ (a : CallerOp). a.caller) calls)) (take_all c.loop-call.call-index asked c.loop-call-test.false))
