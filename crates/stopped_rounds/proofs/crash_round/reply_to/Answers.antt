use Rattle.std.proofs.Common.{◌∙◌, ◌+◌, ◌<◌, ◌≤◌, inl, refl, sym, subst, arith}
use Rattle.cat_history.specs.declared.op.Op.{Op}
use Rattle.cat_history.specs.declared.record.CutMark.TheVariants.{Read}
use Rattle.cat_history.specs.declared.record.Reply.TheVariants.{Parts}
use Rattle.shapes.specs.ShapeRounds.{one_added}
use Rattle.stopped_rounds.specs.Replies.{IsLate, IsTold, Replies, write_mark}
use Rattle.stopped_rounds.proofs.ScanStops.{parts-fit}
use Rattle.stopped_rounds.proofs.Replying.{put_weighs, put_replies, del_replies, get_replies, scan_replies}
use Rattle.cat_history.specs.Rounds.{IsOnName}
use Rattle.stopped_rounds.proofs.Timing.{answered_then, old_in_time, put_in_time}
use Rattle.stopped_rounds.proofs.crash_round.reply_to.Goals as goal

pub put-requires-clause-calls : goal.put-requires-clause-calls
put-requires-clause-calls g c = omega (arith, c.requires.calls, parts-fit _ _ _ _ c.in-Put.name c.has_shape.ensures.shape)

pub get-requires-clause-calls : goal.get-requires-clause-calls
get-requires-clause-calls g c = omega (arith, c.requires.calls, parts-fit _ _ _ _ c.in-Get.name c.has_shape.ensures.shape)

pub del-requires-clause-calls : goal.del-requires-clause-calls
del-requires-clause-calls g c = omega (arith, c.requires.calls, parts-fit _ _ _ _ c.in-Del.name c.has_shape.ensures.shape)

pub scan-requires-clause-calls : goal.scan-requires-clause-calls
scan-requires-clause-calls g c = omega (arith, c.requires.calls, parts-fit _ _ _ _ c.in-Scan.from c.has_shape.ensures.shape)

pub returns-in_err-parts-in-Scan-clause-calls_left : goal.returns-in_err-parts-in-Scan-clause-calls_left
returns-in_err-parts-in-Scan-clause-calls_left g c = omega (arith, c.scan.ensures.calls_left, parts-fit _ _ _ _ c.in-Scan.from c.has_shape.ensures.shape)

pub returns-in_ok-parts-in-Scan-clause-calls_left : goal.returns-in_ok-parts-in-Scan-clause-calls_left
returns-in_ok-parts-in-Scan-clause-calls_left g c = omega (arith, c.scan.ensures.calls_left, parts-fit _ _ _ _ c.in-Scan.from c.has_shape.ensures.shape)

pub returns-in-Put-clause-calls_left : goal.returns-in-Put-clause-calls_left
returns-in-Put-clause-calls_left g c = omega (arith, c.put.ensures.calls_left, parts-fit _ _ _ _ c.in-Put.name c.has_shape.ensures.shape)

pub returns-in-Get-clause-calls_left : goal.returns-in-Get-clause-calls_left
returns-in-Get-clause-calls_left g c = omega (arith, c.get.ensures.calls_left, parts-fit _ _ _ _ c.in-Get.name c.has_shape.ensures.shape)

pub returns-in-Del-clause-calls_left : goal.returns-in-Del-clause-calls_left
returns-in-Del-clause-calls_left g c = omega (arith, c.del.ensures.calls_left, parts-fit _ _ _ _ c.in-Del.name c.has_shape.ensures.shape)

pub returns-in-Put-clause-reply : goal.returns-in-Put-clause-reply
returns-in-Put-clause-reply g c =
    let M = g.M.BoundedMap in
    let some : 0 < c.args.budget.now = omega (arith, c.if-budget-eq0.false) in
    let timely : IsLate c.args.limit c.args.place c.args.op.now → ⊥ = λ late. let yes = c.comes_late.ensures.1 late in let no = c.if-comes_late.false in cc in
    subst (λ (op : Op). Replies (M.slots c.args.map.now) (M.most c.args.map.now) c.args.limit (M.state c.args.map.now) c.args.place op c.args.budget.now c.put_reply.result c.put.new.budget (M.state c.put.new.self)) (sym c.in-Put.is)
    (put_replies (M.slots c.args.map.now) (M.most c.args.map.now) c.args.limit (M.state c.args.map.now) (M.state c.put.new.self) c.args.place c.args.budget.now c.put.new.budget c.put_reply.result some (c.requires.uncut some)
    c.in-Put.name c.in-Put.value c.put.result (subst (λ (op : Op). IsLate c.args.limit c.args.place op → ⊥) c.in-Put.is timely) c.put.ensures.ends c.put_reply.ensures.reply)

pub returns-in-Del-clause-reply : goal.returns-in-Del-clause-reply
returns-in-Del-clause-reply g c =
    let M = g.M.BoundedMap in
    let some : 0 < c.args.budget.now = omega (arith, c.if-budget-eq0.false) in
    let timely : IsLate c.args.limit c.args.place c.args.op.now → ⊥ = λ late. let yes = c.comes_late.ensures.1 late in let no = c.if-comes_late.false in cc in
    subst (λ (op : Op). Replies (M.slots c.args.map.now) (M.most c.args.map.now) c.args.limit (M.state c.args.map.now) c.args.place op c.args.budget.now c.del_reply.result c.del.new.budget (M.state c.del.new.self)) (sym c.in-Del.is)
    (del_replies (M.slots c.args.map.now) (M.most c.args.map.now) c.args.limit (M.state c.args.map.now) (M.state c.del.new.self) c.args.place c.args.budget.now c.del.new.budget c.del_reply.result some (c.requires.uncut some)
    c.in-Del.name c.del.result (subst (λ (op : Op). IsLate c.args.limit c.args.place op → ⊥) c.in-Del.is timely) c.del.ensures.ends c.del_reply.ensures.reply)

pub returns-in-Get-clause-reply : goal.returns-in-Get-clause-reply
returns-in-Get-clause-reply g c =
    let M = g.M.BoundedMap in
    let some : 0 < c.args.budget.now = omega (arith, c.if-budget-eq0.false) in
    subst (λ (op : Op). Replies (M.slots c.args.map.now) (M.most c.args.map.now) c.args.limit (M.state c.args.map.now) c.args.place op c.args.budget.now c.get_reply.result c.get.new.budget (M.state c.get.new.self)) (sym c.in-Get.is)
    (get_replies (M.slots c.args.map.now) (M.most c.args.map.now) c.args.limit (M.state c.args.map.now) (M.state c.get.new.self) c.args.place c.args.budget.now c.get.new.budget c.get_reply.result some (c.requires.uncut some)
    c.in-Get.name c.get.result c.get.ensures.same c.get.ensures.ends c.get_reply.ensures.reply)

pub returns-in_ok-parts-in-Scan-clause-reply : goal.returns-in_ok-parts-in-Scan-clause-reply
returns-in_ok-parts-in-Scan-clause-reply g c =
    let M = g.M.BoundedMap in
    let some : 0 < c.args.budget.now = omega (arith, c.if-budget-eq0.false) in
    subst (λ (op : Op). Replies (M.slots c.args.map.now) (M.most c.args.map.now) c.args.limit (M.state c.args.map.now) c.args.place op c.args.budget.now (Parts c.in_ok-parts-in-Scan.parts c.in_ok-parts-in-Scan.cut) c.scan.new.budget (M.state c.scan.new.map)) (sym c.in-Scan.is)
    (scan_replies (M.slots c.args.map.now) (M.most c.args.map.now) c.args.limit (M.state c.args.map.now) (M.state c.scan.new.map) c.args.place c.args.budget.now c.scan.new.budget (Parts c.in_ok-parts-in-Scan.parts c.in_ok-parts-in-Scan.cut) some (c.requires.uncut some)
    c.in-Scan.from c.in-Scan.count c.in_ok-parts-in-Scan.parts c.in_ok-parts-in-Scan.cut c.scan.ensures.same c.in_ok-parts-in-Scan.ensures.read c.in_ok-parts-in-Scan.ensures.cut refl)

pub returns-in-Put-clause-weighs : goal.returns-in-Put-clause-weighs
returns-in-Put-clause-weighs g c =
    let added = put_weighs c.in-Put.name c.in-Put.value c.args.place c.put.result c.put_reply.result c.put_reply.ensures.reply in
    let weighs = c.put.ensures.weighs in
    subst (λ (op : Op). g.M.BoundedMap.weighs c.put.new.self ≤ g.M.BoundedMap.weighs c.args.map.now + one_added op c.put_reply.result) (sym c.in-Put.is) (omega (arith, added, weighs))

pub returns-in-Put-clause-told : goal.returns-in-Put-clause-told
returns-in-Put-clause-told g c = subst (λ (op : Op). IsTold op c.put_reply.result) (sym c.in-Put.is) (c.put_reply.ensures.told c.in-Put.name c.in-Put.value)

pub returns-then-budget-eq0-clause-in_time : goal.returns-then-budget-eq0-clause-in_time
returns-then-budget-eq0-clause-in_time g c = λ a rest same named some turnless. absurd (omega (arith, some, c.if-budget-eq0.true))

pub returns-then-comes_late-clause-in_time : goal.returns-then-comes_late-clause-in_time
returns-then-comes_late-clause-in_time g c = λ a rest same named some turnless. inl (tt, omega arith, c.has_shape.ensures.fewer a rest turnless)

pub returns-in-Put-clause-in_time : goal.returns-in-Put-clause-in_time
returns-in-Put-clause-in_time g c = λ a rest same named some turnless.
    put_in_time g.M.BoundedMap.call_events c.args.budget.now c.put.new.budget (g.M.BoundedMap.turnless c.put.new.self rest) c.put.result c.args.place c.put_reply.result _ c.put_reply.ensures.reply (c.put.ensures.in_time a rest (same ∙ c.in-Put.is) turnless)

pub returns-in-Get-clause-in_time : goal.returns-in-Get-clause-in_time
returns-in-Get-clause-in_time g c = λ a rest same named some turnless.
    old_in_time g.M.BoundedMap.call_events c.args.budget.now c.get.new.budget (g.M.BoundedMap.turnless c.get.new.self rest) c.get.result c.args.place c.get_reply.result _ c.get_reply.ensures.reply (c.get.ensures.in_time a rest (same ∙ c.in-Get.is) turnless)

pub returns-in-Del-clause-in_time : goal.returns-in-Del-clause-in_time
returns-in-Del-clause-in_time g c = λ a rest same named some turnless.
    old_in_time g.M.BoundedMap.call_events c.args.budget.now c.del.new.budget (g.M.BoundedMap.turnless c.del.new.self rest) c.del.result c.args.place c.del_reply.result _ c.del_reply.ensures.reply (c.del.ensures.in_time a rest (same ∙ c.in-Del.is) turnless)

pub returns-in_ok-parts-in-Scan-clause-in_time : goal.returns-in_ok-parts-in-Scan-clause-in_time
returns-in_ok-parts-in-Scan-clause-in_time g c = λ a rest same named some turnless. absurd (subst IsOnName (same ∙ c.in-Scan.is) named)

pub returns-then-comes_late-clause-room : goal.returns-then-comes_late-clause-room
returns-then-comes_late-clause-room g c = λ a rest same named told room. c.has_shape.ensures.room a rest room

pub returns-in-Put-clause-room : goal.returns-in-Put-clause-room
returns-in-Put-clause-room g c = λ a rest same named told room.
    answered_then (g.M.BoundedMap.has_room c.put.new.self rest) c.put.result _ (λ placed. write_mark placed c.args.place) c.put_reply.result c.put_reply.ensures.reply (c.put.ensures.room a rest (same ∙ c.in-Put.is) room) told

pub returns-in-Get-clause-room : goal.returns-in-Get-clause-room
returns-in-Get-clause-room g c = λ a rest same named told room.
    answered_then (g.M.BoundedMap.has_room c.get.new.self rest) c.get.result _ (λ placed. Read) c.get_reply.result c.get_reply.ensures.reply (c.get.ensures.room a rest (same ∙ c.in-Get.is) room) told

pub returns-in-Del-clause-room : goal.returns-in-Del-clause-room
returns-in-Del-clause-room g c = λ a rest same named told room.
    answered_then (g.M.BoundedMap.has_room c.del.new.self rest) c.del.result _ (λ placed. write_mark placed c.args.place) c.del_reply.result c.del_reply.ensures.reply (c.del.ensures.room a rest (same ∙ c.in-Del.is) room) told

pub returns-in_ok-parts-in-Scan-clause-room : goal.returns-in_ok-parts-in-Scan-clause-room
returns-in_ok-parts-in-Scan-clause-room g c = λ a rest same named told room. absurd (subst IsOnName (same ∙ c.in-Scan.is) named)
