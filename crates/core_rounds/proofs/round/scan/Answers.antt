use Rattle.std.proofs.Common.{◌-◌, ◌<◌, ◌∙◌, ap, arith, length, subst, sym}
use Rattle.shapes.specs.Anchors.{next_of}
use Rattle.stopped_rounds.proofs.ScanStops.{to_come, fewer-to-come}
use Rattle.core_rounds.proofs.ScanSteps.{one-to-come, scanned-first, scanned-last, scanned-more}
use Rattle.core_rounds.proofs.Using.{none-at-err, same-first, uses-none}
use Rattle.core_rounds.proofs.round.scan.Goals as goal

pub loop-next-init : goal.loop-next-init
loop-next-init g c = scanned-first (g.M.UpdatedMap.state c.args.map.now) (g.M.UpdatedMap.waits c.args.map.now) c.args.from.now c.args.count c.args.place _ c.in_ok-parts.ensures.items

-- the next part begins where this one ends
pub loop-next-smaller-then-left-gt0 : goal.loop-next-smaller-then-left-gt0
loop-next-smaller-then-left-gt0 g c =
    let anchors = (g.M.UpdatedMap.state c.args.map.now).anchors in
    let high = c.in_ok-part.ensures.high ∙ ap (λ a. next_of a c.in-Some.low) c.loop-next.invariant.same.anchors in
    let come = ap (to_come anchors) c.in-Some.is in
    let less = fewer-to-come anchors c.in-Some.low c.in_ok-part.part.high high in
    omega (arith, come, less)

pub loop-next-preserved-then-left-gt0 : goal.loop-next-preserved-then-left-gt0
loop-next-preserved-then-left-gt0 g c =
    let told = c.in_ok-part.ensures in
    scanned-more _ _ _ _ _ _ c.args.from.now c.args.count c.args.place c.in-Some.low c.loop-next.left _ _ _ c.in_ok-part.part _ c.in-Some.is c.loop-next.invariant
    (record { part = told.part; here = told.place; high = told.high; told = told.report }) c.read_part.ensures.same c.read_part.ensures.uses c.read_part.ensures.waits
    (ap (λ ps. c.loop-next.left - length ps) c.as_slice.ensures) c.if-left-gt0.true c.in_ok-push.ensures.items

-- no name is left
pub loop-next-smaller : goal.loop-next-smaller
loop-next-smaller g c = let come = ap (to_come (g.M.UpdatedMap.state c.args.map.now).anchors) c.in-Some.is in omega (arith, come)

pub loop-next-preserved : goal.loop-next-preserved
loop-next-preserved g c =
    let told = c.in_ok-part.ensures in
    scanned-last _ _ _ _ _ _ c.args.from.now c.args.count c.args.place c.in-Some.low c.loop-next.left _ _ _ c.in_ok-part.part _ c.in-Some.is c.loop-next.invariant
    (record { part = told.part; here = told.place; high = told.high; told = told.report }) c.read_part.ensures.same c.read_part.ensures.uses c.read_part.ensures.waits
    (ap (λ ps. c.loop-next.left - length ps) c.as_slice.ensures) c.if-left-gt0.false c.in_ok-push.ensures.items

-- a call is left for each part to come
pub read_part-requires-clause-caller : goal.read_part-requires-clause-caller
read_part-requires-clause-caller g c = subst (λ n. c.args.caller < n) (sym c.loop-next.invariant.bounds.callers) c.requires.caller

pub read_part-requires-clause-calls : goal.read_part-requires-clause-calls
read_part-requires-clause-calls g c =
    let anchors = (g.M.UpdatedMap.state c.args.map.now).anchors in
    let come = ap (to_come anchors) c.in-Some.is in
    omega (arith, come, one-to-come anchors c.in-Some.low, c.loop-next.invariant.calls, c.requires.calls)

pub returns-clause-same : goal.returns-clause-same
returns-clause-same g c = c.loop-next.invariant.same

pub returns-clause-waits : goal.returns-clause-waits
returns-clause-waits g c = c.loop-next.invariant.waits

pub returns-clause-uses : goal.returns-clause-uses
returns-clause-uses g c =
    let was = c.loop-next.invariant in
    record { bounds = was.bounds; calls_left = omega (arith, was.calls); writes_left = omega (arith, was.writes) }

pub returns-in_err-parts-clause-same : goal.returns-in_err-parts-clause-same
returns-in_err-parts-clause-same g c = same-first _

pub returns-in_err-parts-clause-uses : goal.returns-in_err-parts-clause-uses
returns-in_err-parts-clause-uses g c = uses-none _ _ _

pub returns-in_err-parts-clause-waits : goal.returns-in_err-parts-clause-waits
returns-in_err-parts-clause-waits g c changes writes puts waits = waits

pub returns-in_err-parts-clause-answer : goal.returns-in_err-parts-clause-answer
returns-in_err-parts-clause-answer g c = none-at-err c.from_residual.result _ _ c.from_residual.ensures.1

pub returns-in_err-parts-clause-few : goal.returns-in_err-parts-clause-few
returns-in_err-parts-clause-few g c = none-at-err c.from_residual.result _ _ c.from_residual.ensures.1

pub returns-in_err-parts-clause-report : goal.returns-in_err-parts-clause-report
returns-in_err-parts-clause-report g c = none-at-err c.from_residual.result _ _ c.from_residual.ensures.1

pub returns-in_err-part-clause-answer : goal.returns-in_err-part-clause-answer
returns-in_err-part-clause-answer g c = none-at-err c.from_residual-in_err-part.result _ _ c.from_residual-in_err-part.ensures.1

pub returns-in_err-part-clause-few : goal.returns-in_err-part-clause-few
returns-in_err-part-clause-few g c = none-at-err c.from_residual-in_err-part.result _ _ c.from_residual-in_err-part.ensures.1

pub returns-in_err-part-clause-report : goal.returns-in_err-part-clause-report
returns-in_err-part-clause-report g c = none-at-err c.from_residual-in_err-part.result _ _ c.from_residual-in_err-part.ensures.1

pub returns-in_err-push-clause-answer : goal.returns-in_err-push-clause-answer
returns-in_err-push-clause-answer g c = none-at-err c.from_residual-in_err-push.result _ _ c.from_residual-in_err-push.ensures.1

pub returns-in_err-push-clause-few : goal.returns-in_err-push-clause-few
returns-in_err-push-clause-few g c = none-at-err c.from_residual-in_err-push.result _ _ c.from_residual-in_err-push.ensures.1

pub returns-in_err-push-clause-report : goal.returns-in_err-push-clause-report
returns-in_err-push-clause-report g c = none-at-err c.from_residual-in_err-push.result _ _ c.from_residual-in_err-push.ensures.1
