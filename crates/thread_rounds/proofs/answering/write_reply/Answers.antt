use Rattle.std.proofs.Common.{◌≡◌, ℕ, sym, ap, subst, ◌∙◌, arith}
use Rattle.std.specs.Prelude.{Option}
use Rattle.cat_history.specs.Records.{as_op}
use Rattle.cat_history.specs.declared.record.CutMark.{CutMark}
use Rattle.cat_history.specs.declared.record.Reply.{Reply}
use Rattle.pac_index.specs.index_core.specs.CoreCalls.{op_of}
use Rattle.pac_index.specs.declared.caller.CutCall.{CutCall}
use Rattle.pac_index.specs.declared.rule.Member.{Member}
use Rattle.std.proofs.lemmas.Result.{IfOk-from_err}
use Rattle.pac_index.specs.Budgets.{Pays, place_in}
use Rattle.pac_index.specs.Callers.{seen_by}
use Rattle.pac_index.specs.Kept.{party}
use Rattle.pac_index.proofs.Remaining.{has_step}
use Rattle.thread_rounds.specs.Made.{AnsweredOrCut, IsMade, reply_told, write_mark}
use Rattle.thread_rounds.proofs.Making.{index-alone, write-ends, write-made}
use Rattle.thread_rounds.proofs.answering.write_reply.Goals as goal

pub returns-clause-made : goal.returns-clause-made
returns-clause-made g c limit own =
    let caller = c.args.caller.now in
    let ready = c.reserve.new.self in
    let new = c.write-ended.new.caller in
    let asks = as_op (op_of c.args.call) in
    let reply = reply_told (write_mark (place_in new.cut)) c.write-ended.result in
    let same = c.in_ok-reserve.ensures.same in
    let rests = has_step c.args.shared.now caller c.requires.may.0 c.requires.steps in
    let made : IsMade limit ready.number ready.index asks reply (seen_by ready) (seen_by new) new.cut =
    write-made c.args.shared.now.epochs.parties limit c.args.call ready new c.requires.writes own (c.in_ok-reserve.ensures.caller c.args.shared.now c.requires.may.0).number (c.in_ok-reserve.ensures.bound.1 ∙ rests.2) c.write-ended.result c.write-ended.ensures.ends in
    let seen : seen_by ready ≡ seen_by caller = ap (λ seat. party seat.me) same.0 in
    let mark : c.mark_of-mark.result ≡ write_mark (place_in new.cut) = c.mark_of-mark.ensures.mark ∙ ap (λ (o : Option CutCall). write_mark (place_in o)) c.cut.ensures in
    subst (λ (r : Reply). IsMade limit caller.number caller.index asks r (seen_by caller) (seen_by new) new.cut) (ap (λ (m : CutMark). reply_told m c.write-ended.result) (sym mark) ∙ sym c.told.ensures.reply)
    (subst (λ (m : Member). IsMade limit caller.number caller.index asks reply m (seen_by new) new.cut) seen
    (subst (λ (i : ℕ). IsMade limit caller.number i asks reply (seen_by ready) (seen_by new) new.cut) same.2
    (subst (λ (n : ℕ). IsMade limit n ready.index asks reply (seen_by ready) (seen_by new) new.cut) same.1 made)))

pub returns-clause-ends : goal.returns-clause-ends
returns-clause-ends g c =
    let caller = c.args.caller.now in
    let ready = c.reserve.new.self in
    let new = c.write-ended.new.caller in
    subst (λ (r : Reply). AnsweredOrCut r caller new) (sym c.told.ensures.reply)
    (index-alone (reply_told c.mark_of-mark.result c.write-ended.result) ready caller new c.in_ok-reserve.ensures.same.2
    (write-ends c.args.shared.now.epochs.parties c.args.call ready new c.mark_of-mark.result c.write-ended.result c.write-ended.ensures.ends))

pub write-ended-requires-clause-spare : goal.write-ended-requires-clause-spare
write-ended-requires-clause-spare g c κs lives = let room = c.in_ok-reserve.ensures.ok in omega (arith, c.requires.writes, room)

pub returns-clause-stays : goal.returns-clause-stays
returns-clause-stays g c = (c.write-ended.ensures.stays.0, c.write-ended.ensures.stays.1 ∙ c.in_ok-reserve.ensures.same.1)

pub returns-clause-paid : goal.returns-clause-paid
returns-clause-paid g c =
    let caller = c.args.caller.now in
    let ready = c.reserve.new.self in
    let new = c.write-ended.new.caller in
    let seen : seen_by ready ≡ seen_by caller = ap (λ seat. party seat.me) c.in_ok-reserve.ensures.same.0 in
    subst (λ (left : Option ℕ). Pays left new.left (seen_by caller).taken (seen_by new).taken) c.in_ok-reserve.ensures.bound.0
    (subst (λ (m : Member). Pays ready.left new.left m.taken (seen_by new).taken) seen c.write-ended.ensures.paid)

pub returns-in_err-reserve : goal.returns-in_err-reserve
returns-in_err-reserve g c = record {
  stays = (c.in_err-reserve.ensures.caller c.args.shared.now c.requires.may.0, c.in_err-reserve.ensures.same.1);
  paid = IfOk-from_err c.from_residual.result _ c.from_residual.ensures.0;
  made = IfOk-from_err c.from_residual.result _ c.from_residual.ensures.0;
  ends = IfOk-from_err c.from_residual.result _ c.from_residual.ensures.0;
  told = IfOk-from_err c.from_residual.result _ c.from_residual.ensures.0;
}
