use Rattle.std.proofs.Common.{take, sym, ap, ◌∙◌}
use Rattle.std.proofs.lemmas.List.{take_all}
use Rattle.std.proofs.lemmas.List.Sums.{fold_more}
use Rattle.std.specs.FinMap.{entries}
use Rattle.cat_history.specs.Maps.{Map}
use Rattle.cat_history.specs.Writes.{after_all, changed}
use Rattle.cat_history.specs.declared.op.Write.{Write}
use Rattle.cat_history.proofs.growing.change_all.Goals as goal

pub loop-write-init : goal.loop-write-init
loop-write-init c = λ m same. same

pub loop-write-preserved : goal.loop-write-preserved
loop-write-preserved c = λ m same.
    let i = c.loop-write.write-index in
    let writes = c.args.writes.now in
    let before : Map = after_all m (take i writes) in
    c.in_ok-change.ensures.ok before (c.loop-write.invariant m same)
    ∙ ap entries (sym (fold_more (λ (n : Map) (w : Write). changed n w.change) m writes i c.write-item.result c.loop-write-test.true
    ∙ ap (λ (w : Write). changed before w.change) (sym c.write-item.is)))

pub returns : goal.returns
returns c = record {
  ok = λ m same. c.loop-write.invariant m same
      ∙ ap (λ (writes : _). entries (after_all m writes)) (take_all c.loop-write.write-index c.args.writes.now c.loop-write-test.false);
}
