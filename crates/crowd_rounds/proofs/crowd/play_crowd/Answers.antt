use Rattle.std.proofs.Common.{ℕ, suc, ◌<◌, sym, ap, ◌∙◌, subst, arith, All}
use Rattle.cat_history.specs.declared.op.CallerOp.{CallerOp}
use Rattle.pm_words.specs.declared.layout.Layout.{Layout}
use Rattle.thread_rounds.specs.index_core.specs.Indexes.{Index}
use Rattle.std.proofs.lemmas.Result.{IfOk-weaker}
use Rattle.version_lock.specs.Versions.{IsGeneration}
use Rattle.crowd_rounds.proofs.CrowdRounds.{same-generation}
use Rattle.crowd_rounds.proofs.CrashedCrowds.{crashed-so, joined-so, reported-crash, reported-joined}
use Rattle.crowd_rounds.proofs.crowd.play_crowd.Goals as goal

pub reopened-requires-clause-quiet : goal.reopened-requires-clause-quiet
reopened-requires-clause-quiet g c =
    (joined-so c.args.plan.now.crash c.new_round.new.self c.args.plan.now c.in_ok-records.field-0 c.in-Joined.met c.in-Joined.is c.in_ok-records.ensures.run).1.quiet

pub reopened-requires-clause-next : goal.reopened-requires-clause-next
reopened-requires-clause-next g c =
    let run = (joined-so c.args.plan.now.crash c.new_round.new.self c.args.plan.now c.in_ok-records.field-0 c.in-Joined.met c.in-Joined.is c.in_ok-records.ensures.run).1 in
    subst (λ (n : ℕ). IsGeneration (suc n)) (sym (run.generation ∙ same-generation c.args.core c.new_round.new.self c.in_ok-new_round.ensures.ok)) c.requires.next

pub recovered-requires-clause-sound : goal.recovered-requires-clause-sound
recovered-requires-clause-sound g c =
    (crashed-so c.args.plan.now.crash c.new_round.new.self c.args.plan.now c.in_ok-records.field-0 c.in-Crashed.image c.in-Crashed.is c.in_ok-records.ensures.run).2.sound

pub recovered-requires-clause-next : goal.recovered-requires-clause-next
recovered-requires-clause-next g c =
    let run = (crashed-so c.args.plan.now.crash c.new_round.new.self c.args.plan.now c.in_ok-records.field-0 c.in-Crashed.image c.in-Crashed.is c.in_ok-records.ensures.run).2 in
    subst (λ (n : ℕ). IsGeneration (suc n)) (sym (run.generation ∙ same-generation c.args.core c.new_round.new.self c.in_ok-new_round.ensures.ok)) c.requires.next

pub returns-in-Joined : goal.returns-in-Joined
returns-in-Joined g c =
    IfOk-weaker c.reopened.result _ _
    (λ done behind.
    reported-joined c.args.core c.new_round.new.self c.in-Joined.met c.args.plan.now c.in_ok-records.field-0 done.report done.core c.in_ok-new_round.ensures.ok c.in-Joined.is c.in_ok-records.ensures.run
    c.requires.told (search arith) behind)
    c.reopened.ensures

pub returns-in-Crashed : goal.returns-in-Crashed
returns-in-Crashed g c =
    IfOk-weaker c.recovered.result _ _
    (λ done behind.
    reported-crash c.args.core c.new_round.new.self c.args.plan.now c.in_ok-records.field-0 c.in-Crashed.image done.report done.core c.in_ok-new_round.ensures.ok c.in-Crashed.is c.in_ok-records.ensures.run
    c.requires.told (search arith) behind)
    c.recovered.ensures

pub run_round-requires-clause-quiet : goal.run_round-requires-clause-quiet
run_round-requires-clause-quiet g c κs within = c.in_ok-new_round.ensures.quiet

pub run_round-requires-clause-start : goal.run_round-requires-clause-start
run_round-requires-clause-start g c κs within = ap (λ (s : Index). s.history) c.in_ok-new_round.ensures.ok.is

pub run_round-requires-clause-callers : goal.run_round-requires-clause-callers
run_round-requires-clause-callers g c κs within =
    subst (λ (l : Layout). All (λ (a : CallerOp). a.caller < l.callers) c.args.plan.now.ops) (sym (ap (λ (s : Index). s.layout) c.in_ok-new_round.ensures.ok.is)) c.requires.callers

pub run_round-requires-clause-limit : goal.run_round-requires-clause-limit
run_round-requires-clause-limit g c κs within = c.requires.limit
