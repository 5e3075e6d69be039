use Rattle.std.proofs.Common.{refl, sym, subst}
use Rattle.std.proofs.lemmas.Result.{IfOk-weaker}
use Rattle.cat_history.specs.declared.op.Op.{Op}
use Rattle.pac_index.specs.Callers.{seen_by}
use Rattle.thread_rounds.specs.Made.{IsMade}
use Rattle.thread_rounds.proofs.answering.answer.Goals as goal

pub returns-in-Put-clause-stays : goal.returns-in-Put-clause-stays
returns-in-Put-clause-stays g c = c.write_reply.ensures.stays

pub returns-in-Put-clause-paid : goal.returns-in-Put-clause-paid
returns-in-Put-clause-paid g c = c.write_reply.ensures.paid

pub returns-in-Put-clause-made : goal.returns-in-Put-clause-made
returns-in-Put-clause-made g c =
    let old = c.args.caller.now in
    let new = c.write_reply.new.caller in
    IfOk-weaker c.write_reply.result _ _
    (λ reply made. subst (λ (op : Op). IsMade c.args.limit old.number old.index op reply (seen_by old) (seen_by new) new.cut) (sym c.in-Put.is) (made c.args.limit refl))
    c.write_reply.ensures.made

pub returns-in-Put-clause-ends : goal.returns-in-Put-clause-ends
returns-in-Put-clause-ends g c = c.write_reply.ensures.ends

pub returns-in-Put-clause-told : goal.returns-in-Put-clause-told
returns-in-Put-clause-told g c = c.write_reply.ensures.told

pub returns-in-Get-clause-made : goal.returns-in-Get-clause-made
returns-in-Get-clause-made g c =
    let old = c.args.caller.now in
    let new = c.get_reply.new.caller in
    subst (λ (op : Op). IsMade c.args.limit old.number old.index op c.get_reply.result (seen_by old) (seen_by new) new.cut) (sym c.in-Get.is) c.get_reply.ensures.made

pub returns-in-Del-clause-made : goal.returns-in-Del-clause-made
returns-in-Del-clause-made g c =
    let old = c.args.caller.now in
    let new = c.write_reply-in-Del.new.caller in
    IfOk-weaker c.write_reply-in-Del.result _ _
    (λ reply made. subst (λ (op : Op). IsMade c.args.limit old.number old.index op reply (seen_by old) (seen_by new) new.cut) (sym c.in-Del.is) (made c.args.limit refl))
    c.write_reply-in-Del.ensures.made

pub returns-in-Scan-clause-made : goal.returns-in-Scan-clause-made
returns-in-Scan-clause-made g c =
    let old = c.args.caller.now in
    let new = c.scan_reply.new.caller in
    IfOk-weaker c.scan_reply.result _ _
    (λ reply made. subst (λ (op : Op). IsMade c.args.limit old.number old.index op reply (seen_by old) (seen_by new) new.cut) (sym c.in-Scan.is) made)
    c.scan_reply.ensures.made
