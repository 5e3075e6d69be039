use Rattle.std.proofs.Common.{sym, subst}
use Rattle.cat_history.specs.declared.op.Op.TheVariants as op
use Rattle.cat_history.specs.declared.record.Reply.{Reply}
use Rattle.pac_index.specs.Callers.{seen_by}
use Rattle.pac_index.proofs.Remaining.{has_step}
use Rattle.thread_rounds.specs.Made.{AnsweredOrCut, IsMade}
use Rattle.thread_rounds.proofs.Making.{get-ends, get-made}
use Rattle.thread_rounds.proofs.answering.get_reply.Goals as goal

pub returns-clause-made : goal.returns-clause-made
returns-clause-made g c =
    let caller = c.args.caller.now in
    let new = c.get_at-ended.new.caller in
    subst (λ (r : Reply). IsMade c.args.limit caller.number caller.index (op.Get c.args.name) r (seen_by caller) (seen_by new) new.cut) (sym c.told.ensures.reply)
    (get-made c.args.limit c.args.name caller new c.requires.may.0.number (has_step c.args.shared.now caller c.requires.may.0 c.requires.steps).2 c.get_at-ended.result c.get_at-ended.ensures.done)

pub returns-clause-ends : goal.returns-clause-ends
returns-clause-ends g c =
    let caller = c.args.caller.now in
    let new = c.get_at-ended.new.caller in
    subst (λ (r : Reply). AnsweredOrCut r caller new) (sym c.told.ensures.reply) (get-ends c.args.name caller new c.get_at-ended.result c.get_at-ended.ensures.done)
