use Rattle.std.proofs.Common.{◌-◌, ◌∙◌, ap, refl, arith, length}
use Rattle.stopped_rounds.proofs.Came.{none_else}
use Rattle.stopped_rounds.proofs.ScanStops.{reads-first, reads-cut, reads-end, reads-more, reads-last, read-next, to_come, fewer-behind}
use Rattle.stopped_rounds.proofs.crash_round.scan.Goals as goal

pub loop-next-init : goal.loop-next-init
loop-next-init g c = record {
  reads = reads-first _ c.args.from.now c.args.count c.args.place _ c.in_ok-parts.ensures.items;
  same = (refl, refl, refl);
  slots = refl;
  most = refl;
  calls = omega arith;
  writes = omega arith;
  weighs_so = omega arith;
}

pub returns-then-budget-eq0-clause-read : goal.returns-then-budget-eq0-clause-read
returns-then-budget-eq0-clause-read g c = rw c.of.ensures (reads-cut _ c.args.from.now c.args.count c.args.place c.loop-next.next c.in-Some.low c.loop-next.left _ c.in-Some.is c.loop-next.invariant.reads)

pub returns-in_default-2-clause-read : goal.returns-in_default-2-clause-read
returns-in_default-2-clause-read g c = rw c.of-in_default-2.ensures (reads-cut _ c.args.from.now c.args.count c.args.place c.loop-next.next c.in-Some.low c.loop-next.left _ c.in-Some.is c.loop-next.invariant.reads)

pub returns-then-budget-eq0-clause-told : goal.returns-then-budget-eq0-clause-told
returns-then-budget-eq0-clause-told g c = rw c.of.ensures c.loop-next.invariant.reads.told

pub returns-in_default-2-clause-told : goal.returns-in_default-2-clause-told
returns-in_default-2-clause-told g c = rw c.of-in_default-2.ensures c.loop-next.invariant.reads.told

pub loop-next-smaller-then-left-gt0 : goal.loop-next-smaller-then-left-gt0
loop-next-smaller-then-left-gt0 g c =
    let M = g.M.BoundedMap in
    let is = read-next (M.state c.args.map.now) (M.state c.loop-next.map) c.in-Some.low c.loop-next.left c.args.place _ c.in-Some-2.part c.loop-next.invariant.same c.in-Some-2.is c.in_ok-part.ensures.part c.in_ok-part.ensures.told in
    let less = fewer-behind (M.state c.args.map.now) c.loop-next.next c.in-Some.low c.loop-next.left c.args.place c.in-Some-2.part c.in-Some.is is in
    omega (arith, less)

pub loop-next-preserved-then-left-gt0 : goal.loop-next-preserved-then-left-gt0
loop-next-preserved-then-left-gt0 g c =
    let M = g.M.BoundedMap in
    let was = c.loop-next.invariant in
    let is = read-next (M.state c.args.map.now) (M.state c.loop-next.map) c.in-Some.low c.loop-next.left c.args.place _ c.in-Some-2.part was.same c.in-Some-2.is c.in_ok-part.ensures.part c.in_ok-part.ensures.told in
    let less = fewer-behind (M.state c.args.map.now) c.loop-next.next c.in-Some.low c.loop-next.left c.args.place c.in-Some-2.part c.in-Some.is is in
    let now = c.read_part.ensures.same in
    let fewer = ap (λ ps. c.loop-next.left - length ps) c.as_slice.ensures in
    record {
      reads = reads-more (M.state c.args.map.now) c.args.from.now c.args.count c.args.place c.in-Some.low c.loop-next.left _ _ _ c.in-Some-2.part c.loop-next.next c.in-Some.is was.reads is fewer c.in_ok-push.ensures.items c.if-left-gt0.true;
      same = (now.0 ∙ was.same.0, now.1 ∙ was.same.1, now.2 ∙ was.same.2);
      slots = c.read_part.ensures.slots ∙ was.slots;
      most = c.read_part.ensures.most ∙ was.most;
      calls = omega (arith, less, was.calls, c.read_part.ensures.calls_left);
      writes = omega (arith, was.writes, c.read_part.ensures.writes_left);
      weighs_so = omega (arith, was.weighs_so, c.read_part.ensures.weighs);
    }

pub loop-next-preserved : goal.loop-next-preserved
loop-next-preserved g c =
    let M = g.M.BoundedMap in
    let was = c.loop-next.invariant in
    let is = read-next (M.state c.args.map.now) (M.state c.loop-next.map) c.in-Some.low c.loop-next.left c.args.place _ c.in-Some-2.part was.same c.in-Some-2.is c.in_ok-part.ensures.part c.in_ok-part.ensures.told in
    let come = ap (to_come (M.state c.args.map.now).anchors) c.in-Some.is in
    let now = c.read_part.ensures.same in
    let fewer = ap (λ ps. c.loop-next.left - length ps) c.as_slice.ensures in
    record {
      reads = reads-last (M.state c.args.map.now) c.args.from.now c.args.count c.args.place c.in-Some.low c.loop-next.left _ _ _ c.in-Some-2.part c.loop-next.next c.in-Some.is was.reads is fewer c.in_ok-push.ensures.items (omega (arith, c.if-left-gt0.false));
      same = (now.0 ∙ was.same.0, now.1 ∙ was.same.1, now.2 ∙ was.same.2);
      slots = c.read_part.ensures.slots ∙ was.slots;
      most = c.read_part.ensures.most ∙ was.most;
      calls = omega (arith, come, was.calls, c.read_part.ensures.calls_left);
      writes = omega (arith, was.writes, c.read_part.ensures.writes_left);
      weighs_so = omega (arith, was.weighs_so, c.read_part.ensures.weighs);
    }

pub returns-clause-read : goal.returns-clause-read
returns-clause-read g c = rw c.of-2.ensures (reads-end _ c.args.from.now c.args.count c.args.place c.loop-next.next c.loop-next.left _ (none_else c.loop-next.next c.in_default.not-Some) c.loop-next.invariant.reads)

pub returns-clause-told : goal.returns-clause-told
returns-clause-told g c = rw c.of-2.ensures c.loop-next.invariant.reads.told
