use Rattle.std.proofs.Common.{sym, subst, arith}
use Rattle.cat_history.specs.declared.op.Op.{Op}
use Rattle.cat_history.specs.declared.record.Reply.TheVariants as reply
use Rattle.core_rounds.specs.Updated.{IsLeftAs, WaitBehind, change_by}
use Rattle.core_rounds.specs.Waiting.{one_put, one_write}
use Rattle.core_rounds.proofs.CoreMaps.{on-err}
use Rattle.stopped_rounds.proofs.ScanStops.{parts-fit}
use Rattle.core_rounds.proofs.Using.{none-at-err, uses-more, uses-within, waits-none}
use Rattle.core_rounds.proofs.round.answer_in_time.Goals as goal

-- a scan has no more parts than there can be members
pub scan-requires-clause-calls : goal.scan-requires-clause-calls
scan-requires-clause-calls g c = omega (arith, c.requires.calls, parts-fit _ _ _ _ c.in-Scan.from c.has_shape.ensures.shape.shape)

pub returns-in_err-scan-in-Scan-clause-uses : goal.returns-in_err-scan-in-Scan-clause-uses
returns-in_err-scan-in-Scan-clause-uses g c = uses-more _ _ _ _ c.scan.ensures.uses (parts-fit _ _ _ _ c.in-Scan.from c.has_shape.ensures.shape.shape)

pub returns-in_ok-scan-in-Scan-clause-uses : goal.returns-in_ok-scan-in-Scan-clause-uses
returns-in_ok-scan-in-Scan-clause-uses g c = uses-more _ _ _ _ c.scan.ensures.uses (parts-fit _ _ _ _ c.in-Scan.from c.has_shape.ensures.shape.shape)

pub put-requires-clause-caller : goal.put-requires-clause-caller
put-requires-clause-caller g c = c.requires.caller

pub put-requires-clause-calls : goal.put-requires-clause-calls
put-requires-clause-calls g c = omega (arith, c.requires.calls, parts-fit _ _ _ _ c.in-Put.name c.has_shape.ensures.shape.shape)

pub put-requires-clause-writes : goal.put-requires-clause-writes
put-requires-clause-writes g c = c.requires.writes

pub get-requires-clause-caller : goal.get-requires-clause-caller
get-requires-clause-caller g c = c.requires.caller

pub get-requires-clause-calls : goal.get-requires-clause-calls
get-requires-clause-calls g c = omega (arith, c.requires.calls, parts-fit _ _ _ _ c.in-Get.name c.has_shape.ensures.shape.shape)

pub del-requires-clause-caller : goal.del-requires-clause-caller
del-requires-clause-caller g c = c.requires.caller

pub del-requires-clause-calls : goal.del-requires-clause-calls
del-requires-clause-calls g c = omega (arith, c.requires.calls, parts-fit _ _ _ _ c.in-Del.name c.has_shape.ensures.shape.shape)

pub del-requires-clause-writes : goal.del-requires-clause-writes
del-requires-clause-writes g c = c.requires.writes

pub scan-requires-clause-caller : goal.scan-requires-clause-caller
scan-requires-clause-caller g c = c.requires.caller

pub returns-in-Ok-clause-uses : goal.returns-in-Ok-clause-uses
returns-in-Ok-clause-uses g c =
    uses-within _ _ _ _ _ c.put.ensures.uses (omega (arith, parts-fit _ _ _ _ c.in-Put.name c.has_shape.ensures.shape.shape)) (omega arith)

pub returns-in-Ok-clause-waits : goal.returns-in-Ok-clause-waits
returns-in-Ok-clause-waits g c =
    subst (λ (op : Op). WaitBehind (g.M.UpdatedMap.waits c.args.map.now) (g.M.UpdatedMap.waits c.put.new.self) (change_by (g.M.UpdatedMap.state c.args.map.now) op (reply.Old c.in-Ok.old c.args.place)) (one_write op) (one_put op))
    (sym c.in-Put.is) c.in-Ok.ensures.waits

pub returns-in-Err-clause-uses : goal.returns-in-Err-clause-uses
returns-in-Err-clause-uses g c =
    uses-within _ _ _ _ _ c.put.ensures.uses (omega (arith, parts-fit _ _ _ _ c.in-Put.name c.has_shape.ensures.shape.shape)) (omega arith)

pub returns-in-Err-clause-waits : goal.returns-in-Err-clause-waits
returns-in-Err-clause-waits g c =
    subst (λ (op : Op). WaitBehind (g.M.UpdatedMap.waits c.args.map.now) (g.M.UpdatedMap.waits c.put.new.self) (change_by (g.M.UpdatedMap.state c.args.map.now) op reply.Full) (one_write op) (one_put op))
    (sym c.in-Put.is) c.in-Err.ensures.err_waits

pub returns-in-Err-clause-left : goal.returns-in-Err-clause-left
returns-in-Err-clause-left g c =
    subst (λ (op : Op). IsLeftAs (g.M.UpdatedMap.state c.args.map.now) op reply.Full (g.M.UpdatedMap.state c.put.new.self)) (sym c.in-Put.is)
    (record { contents = λ _ _. c.in-Err.ensures.err.contents; anchors = c.in-Err.ensures.err.anchors; weighs = omega (arith, c.in-Err.ensures.err.weighs) })

pub returns-in-Get-clause-uses : goal.returns-in-Get-clause-uses
returns-in-Get-clause-uses g c =
    uses-within _ _ _ _ _ c.get.ensures.uses (omega (arith, parts-fit _ _ _ _ c.in-Get.name c.has_shape.ensures.shape.shape)) (omega arith)

pub returns-in-Get-clause-waits : goal.returns-in-Get-clause-waits
returns-in-Get-clause-waits g c =
    subst (λ (op : Op). WaitBehind (g.M.UpdatedMap.waits c.args.map.now) (g.M.UpdatedMap.waits c.get.new.self) (change_by (g.M.UpdatedMap.state c.args.map.now) op (reply.Old c.get.result c.args.place)) (one_write op) (one_put op))
    (sym c.in-Get.is) (waits-none _ _ c.get.ensures.waits)

pub returns-in-Get-clause-left : goal.returns-in-Get-clause-left
returns-in-Get-clause-left g c =
    subst (λ (op : Op). IsLeftAs (g.M.UpdatedMap.state c.args.map.now) op (reply.Old c.get.result c.args.place) (g.M.UpdatedMap.state c.get.new.self)) (sym c.in-Get.is)
    (record { contents = λ _ _. c.get.ensures.same.contents; anchors = c.get.ensures.same.anchors; weighs = omega (arith, c.get.ensures.same.weighs) })

pub returns-in-Del-clause-uses : goal.returns-in-Del-clause-uses
returns-in-Del-clause-uses g c =
    uses-within _ _ _ _ _ c.del.ensures.uses (omega (arith, parts-fit _ _ _ _ c.in-Del.name c.has_shape.ensures.shape.shape)) (omega arith)

pub returns-in-Del-clause-waits : goal.returns-in-Del-clause-waits
returns-in-Del-clause-waits g c =
    subst (λ (op : Op). WaitBehind (g.M.UpdatedMap.waits c.args.map.now) (g.M.UpdatedMap.waits c.del.new.self) (change_by (g.M.UpdatedMap.state c.args.map.now) op (reply.Old c.del.result c.args.place)) (one_write op) (one_put op))
    (sym c.in-Del.is) c.del.ensures.waits

pub returns-in-Del-clause-left : goal.returns-in-Del-clause-left
returns-in-Del-clause-left g c =
    subst (λ (op : Op). IsLeftAs (g.M.UpdatedMap.state c.args.map.now) op (reply.Old c.del.result c.args.place) (g.M.UpdatedMap.state c.del.new.self)) (sym c.in-Del.is)
    (record { contents = λ _ _. c.del.ensures.after; anchors = c.del.ensures.anchors; weighs = omega (arith, c.del.ensures.weighs) })

pub returns-in_err-scan-in-Scan-clause-err : goal.returns-in_err-scan-in-Scan-clause-err
returns-in_err-scan-in-Scan-clause-err g c = on-err c.from_residual.result _ c.scan.ensures.same

pub returns-in_err-scan-in-Scan-clause-answer : goal.returns-in_err-scan-in-Scan-clause-answer
returns-in_err-scan-in-Scan-clause-answer g c = none-at-err c.from_residual.result _ _ c.from_residual.ensures.1

pub returns-in_err-scan-in-Scan-clause-report : goal.returns-in_err-scan-in-Scan-clause-report
returns-in_err-scan-in-Scan-clause-report g c = none-at-err c.from_residual.result _ _ c.from_residual.ensures.1

pub returns-in_err-scan-in-Scan-clause-full : goal.returns-in_err-scan-in-Scan-clause-full
returns-in_err-scan-in-Scan-clause-full g c = none-at-err c.from_residual.result _ _ c.from_residual.ensures.1

pub returns-in_err-scan-in-Scan-clause-early : goal.returns-in_err-scan-in-Scan-clause-early
returns-in_err-scan-in-Scan-clause-early g c = none-at-err c.from_residual.result _ _ c.from_residual.ensures.1

pub returns-in_err-scan-in-Scan-clause-bounds : goal.returns-in_err-scan-in-Scan-clause-bounds
returns-in_err-scan-in-Scan-clause-bounds g c = none-at-err c.from_residual.result _ _ c.from_residual.ensures.1

pub returns-in_err-scan-in-Scan-clause-left : goal.returns-in_err-scan-in-Scan-clause-left
returns-in_err-scan-in-Scan-clause-left g c = none-at-err c.from_residual.result _ _ c.from_residual.ensures.1

pub returns-in_err-scan-in-Scan-clause-waits : goal.returns-in_err-scan-in-Scan-clause-waits
returns-in_err-scan-in-Scan-clause-waits g c = none-at-err c.from_residual.result _ _ c.from_residual.ensures.1
