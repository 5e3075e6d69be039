use Rattle.std.proofs.Common.{◌≡◌, ℕ, ◌+◌, ◌<◌, ◌^◌, List, [], ◌∷◌, ◌++◌, length, get_or, take, sym, ap, subst, ◌∙◌, arith}
use Rattle.cat_history.specs.declared.op.CallerOp.{CallerOp}
use Rattle.cat_history.specs.declared.record.Record.{Record}
use Rattle.pac_index.specs.declared.caller.Caller.{Caller}
use Rattle.std.proofs.lemmas.List.{take_all}
use Rattle.caller_rounds.specs.CallerRounds.{asked_of}
use Rattle.cat_history.specs.declared.op.Op.{Op}
use Rattle.pac_index.specs.Callers.{IsCallerOf, seen_by}
use Rattle.pac_index.specs.Kept.{placed_by}
use Rattle.thread_rounds.specs.Made.{made}
use Rattle.thread_rounds.specs.Played.{HasPlayed, budget_of}
use Rattle.thread_rounds.proofs.Playing.{PlaysSoFar, begins-playing, index-is, none-made, one-made}
use Rattle.thread_rounds.proofs.worker.makes_calls.Goals.{then-call-number+in_ok-reply+in_ok-push, else-call-number}
use Rattle.thread_rounds.proofs.worker.makes_calls.Goals as goal

pub overflow_add-index : goal.overflow_add-index
overflow_add-index g c =
    let records = c.loop-at.records in
    let is = index-is c.args.plan.now c.args.caller.number (budget_of c.args.plan.now.crash c.args.caller.number) c.loop-at.at c.loop-at.caller c.loop-at.index records.items c.loop-at.invariant.2 in
    omega (arith, is, records.ok.0, records.ok.1, records.small)

pub loop-at-preserved : goal.loop-at-preserved
loop-at-preserved g c =
    let plan = c.args.plan.now in
    let less : c.loop-at.at < length plan.ops = subst (λ (l : List CallerOp). c.loop-at.at < length l) c.as_slice-asked.ensures c.loop-at-test.true in
    let there = c.index-asked-at.is ∙ ap (λ (l : List CallerOp). get_or l c.loop-at.at c.index-asked-at.result) c.as_slice-asked.ensures in
    let before = c.loop-at.invariant in
    let budget = budget_of plan.crash c.args.caller.number in
    let is = index-is plan c.args.caller.number budget c.loop-at.at c.loop-at.caller c.loop-at.index c.loop-at.records.items before.2 in
    let small : c.loop-at.index + 1 < 2 ^ 64 = omega (arith, is, c.loop-at.records.ok.0, c.loop-at.records.ok.1, c.loop-at.records.small) in
    elim c.if-call-number.branch [
      | then-call-number+in_ok-reply+in_ok-push w ↦
          let pushed : c.loop-at.records.items ++ made c.number-number.result c.loop-at.index c.index-asked-at.result.op w.in_ok-reply.reply ∷ [] ≡ c.loop-at.records.items ++ made c.args.caller.number c.loop-at.index c.index-asked-at.result.op w.in_ok-reply.reply ∷ [] =
          ap (λ (n : ℕ). c.loop-at.records.items ++ made n c.loop-at.index c.index-asked-at.result.op w.in_ok-reply.reply ∷ []) before.1 in
          let next = one-made plan c.args.caller.number budget c.loop-at.at c.loop-at.caller c.loop-at.index c.loop-at.records.items before.2 c.index-asked-at.result less there
          w.reply_to.new.caller w.in_ok-reply.reply (w.if-call-number.true ∙ before.1) w.reply_to.ensures.stays.1 small w.in_ok-reply.ensures.paid w.in_ok-reply.ensures.gone w.in_ok-reply.ensures.told in (
            subst (IsCallerOf c.args.shared.now) (sym w.caller-is) w.reply_to.ensures.stays.0,
            before.1,
            subst (λ (i : ℕ). PlaysSoFar plan c.args.caller.number budget (c.loop-at.at + 1) c.if-call-number.caller i c.if-call-number.records.items) (sym w.index-is)
                (subst (λ (rs : List Record). PlaysSoFar plan c.args.caller.number budget (c.loop-at.at + 1) c.if-call-number.caller (c.loop-at.index + 1) rs) (sym (ap (λ v. v.items) w.records-is ∙ w.in_ok-push.ensures.items ∙ pushed))
                (subst (λ (d : Caller). PlaysSoFar plan c.args.caller.number budget (c.loop-at.at + 1) d (c.loop-at.index + 1) (c.loop-at.records.items ++ made c.args.caller.number c.loop-at.index c.index-asked-at.result.op w.in_ok-reply.reply ∷ [])) (sym w.caller-is) next)),
          )
      | else-call-number w ↦ (
        subst (IsCallerOf c.args.shared.now) (sym w.caller-is) before.0,
        before.1,
        subst (λ (i : ℕ). PlaysSoFar plan c.args.caller.number budget (c.loop-at.at + 1) c.if-call-number.caller i c.if-call-number.records.items) (sym w.index-is)
            (subst (λ (rs : List Record). PlaysSoFar plan c.args.caller.number budget (c.loop-at.at + 1) c.if-call-number.caller c.loop-at.index rs) (sym (ap (λ v. v.items) w.records-is))
            (subst (λ (d : Caller). PlaysSoFar plan c.args.caller.number budget (c.loop-at.at + 1) d c.loop-at.index c.loop-at.records.items) (sym w.caller-is)
            (none-made plan c.args.caller.number budget c.loop-at.at c.loop-at.caller c.loop-at.index c.loop-at.records.items before.2 c.index-asked-at.result less there (λ same. w.if-call-number.false (same ∙ sym before.1))))),
      )
    ]

pub loop-at-init : goal.loop-at-init
loop-at-init g c =
    let plan = c.args.plan.now in
    let number = c.args.caller.number in
    let new = c.requires.new in
    let bound = c.bound.new.self in
    let left = c.bound.ensures.left in (
      c.bound.ensures.caller c.args.shared.now c.requires.may.0,
      c.number-number.ensures,
      subst (PlaysSoFar plan number (budget_of plan.crash number) 0 bound 0) (sym c.new-records.ensures.items)
          (begins-playing plan number (budget_of plan.crash number) bound (ap (λ (k : Caller). k.number) left) (ap (λ (k : Caller). placed_by number (seen_by k).seen) left ∙ ap (placed_by number) new.seen)
          (ap (λ (k : Caller). (seen_by k).added) left ∙ new.added) (ap (λ (k : Caller). k.index) left ∙ new.index)
          (ap (λ (k : Caller). k.left) left ∙ c.budget_of.ensures ∙ ap (budget_of plan.crash) c.number-number.ensures) c.bound.ensures.rests),
    )

pub returns : goal.returns
returns g c =
    let plan = c.args.plan.now in
    let number = c.args.caller.number in
    let played = c.loop-at.invariant.2 in
    let past = c.loop-at-test.false in
    let asked : asked_of number (take c.loop-at.at plan.ops) ≡ asked_of number plan.ops =
    ap (asked_of number) (take_all c.loop-at.at plan.ops (omega (arith, past, ap length c.as_slice-asked.ensures))) in
    record {
      of = c.loop-at.invariant.0;
      number = played.number_is;
      has = subst (λ (ops : List Op). HasPlayed plan.limit number (budget_of plan.crash number) ops c.loop-at.caller c.loop-at.records.items) asked played.has;
    }
