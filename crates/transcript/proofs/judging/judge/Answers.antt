use Rattle.std.proofs.Common.{subst}
use Rattle.transcript.specs.Legality.{IsJudgement}
use Rattle.transcript.specs.Rules.{Case, case_of}
use Rattle.transcript.proofs.JudgeLemmas.{judged_ends, judged_in_order, judged_accepted, judged_refused, judged_illegal}
use Rattle.transcript.proofs.judging.judge.Goals as goal

-- the judgement on the lists is that on what they are made of
judged : (c : goal.After-drop-base-inside) → IsJudgement (case_of c.args.base c.args.asked.now c.args.told.now c.args.end.now) c.judge_lists.result
judged c =
    subst (λ (this : Case). IsJudgement this c.judge_lists.result) (λ i. case_of (c.as_slice.ensures i) (c.as_slice-2.ensures i) (c.as_slice-3.ensures i) c.args.end.now) c.judge_lists.ensures

pub returns-clause-legal : goal.returns-clause-legal
returns-clause-legal c = judged_ends (case_of c.args.base c.args.asked.now c.args.told.now c.args.end.now) c.judge_lists.result (judged c)

pub returns-clause-sorted : goal.returns-clause-sorted
returns-clause-sorted c = judged_in_order (case_of c.args.base c.args.asked.now c.args.told.now c.args.end.now) c.judge_lists.result (judged c)

pub returns-clause-accepted : goal.returns-clause-accepted
returns-clause-accepted c = judged_accepted (case_of c.args.base c.args.asked.now c.args.told.now c.args.end.now) c.judge_lists.result (judged c)

pub returns-clause-illegal : goal.returns-clause-illegal
returns-clause-illegal c = judged_illegal (case_of c.args.base c.args.asked.now c.args.told.now c.args.end.now) c.judge_lists.result (judged c)

pub returns-clause-refused : goal.returns-clause-refused
returns-clause-refused c = judged_refused (case_of c.args.base c.args.asked.now c.args.told.now c.args.end.now) c.judge_lists.result (judged c)
