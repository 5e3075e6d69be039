use Rattle.std.proofs.Common.{◌∙◌, sym}
use Rattle.std.proofs.lemmas.Bool.{false≢true}
use Rattle.transcript.specs.Rules.{Case, NumbersAgree, ScansAgree, CallersKeepOrder, LimitIsKept, case_of}
use Rattle.transcript.proofs.JudgeLemmas.{broken_3, broken_4, broken_5, broken_6, judged_so}
use Rattle.transcript.proofs.KeyLemmas.{told_apart}
use Rattle.transcript.proofs.judging.judge_writes.Goals as goal

pub returns-then-not-branch : goal.returns-then-not-branch
returns-then-not-branch c =
    let this : Case = case_of c.args.base.now c.args.asked.now c.args.told.now c.args.end.now in
    broken_3 this c.requires.each_call c.args.writes.now c.requires.writes (λ agree. false≢true (sym c.if-not-branch.true ∙ c.in_ok-numbers_agree.ensures.1 agree))

pub returns-then-not-branch-2 : goal.returns-then-not-branch-2
returns-then-not-branch-2 c =
    let this : Case = case_of c.args.base.now c.args.asked.now c.args.told.now c.args.end.now in
    let agree : NumbersAgree this c.args.writes.now = c.in_ok-numbers_agree.ensures.0 c.if-not-branch.false in
    broken_4 this c.requires.each_call c.args.writes.now c.requires.writes agree (λ parts. false≢true (sym c.if-not-branch-2.true ∙ c.in_ok-scans_agree.ensures.1 parts))

pub callers_keep_order-requires : goal.callers_keep_order-requires
callers_keep_order-requires c = told_apart c.args.asked.now c.args.told.now c.requires.each_call

pub returns-then-not-branch-3 : goal.returns-then-not-branch-3
returns-then-not-branch-3 c =
    let this : Case = case_of c.args.base.now c.args.asked.now c.args.told.now c.args.end.now in
    let agree : NumbersAgree this c.args.writes.now = c.in_ok-numbers_agree.ensures.0 c.if-not-branch.false in
    let parts : ScansAgree this c.args.writes.now = c.in_ok-scans_agree.ensures.0 c.if-not-branch-2.false in
    broken_5 this c.requires.each_call c.args.writes.now c.requires.writes agree parts (λ keeps. false≢true (sym c.if-not-branch-3.true ∙ c.in_ok-callers_keep_order.ensures.1 keeps))

pub returns-then-not-branch-4 : goal.returns-then-not-branch-4
returns-then-not-branch-4 c =
    let this : Case = case_of c.args.base.now c.args.asked.now c.args.told.now c.args.end.now in
    let agree : NumbersAgree this c.args.writes.now = c.in_ok-numbers_agree.ensures.0 c.if-not-branch.false in
    let parts : ScansAgree this c.args.writes.now = c.in_ok-scans_agree.ensures.0 c.if-not-branch-2.false in
    let in_order : CallersKeepOrder this.told c.args.writes.now = c.in_ok-callers_keep_order.ensures.0 c.if-not-branch-3.false in
    broken_6 this c.requires.each_call c.args.writes.now c.requires.writes agree parts in_order (λ kept. false≢true (sym c.if-not-branch-4.true ∙ c.in_ok-limit_is_kept.ensures.1 kept))

pub judge_end-requires : goal.judge_end-requires
judge_end-requires c = told_apart c.args.asked.now c.args.told.now c.requires.each_call

pub returns : goal.returns
returns c =
    let this : Case = case_of c.args.base.now c.args.asked.now c.args.told.now c.args.end.now in
    let agree : NumbersAgree this c.args.writes.now = c.in_ok-numbers_agree.ensures.0 c.if-not-branch.false in
    let parts : ScansAgree this c.args.writes.now = c.in_ok-scans_agree.ensures.0 c.if-not-branch-2.false in
    let in_order : CallersKeepOrder this.told c.args.writes.now = c.in_ok-callers_keep_order.ensures.0 c.if-not-branch-3.false in
    let within : LimitIsKept this.end.limit this.calls this.told c.args.writes.now = c.in_ok-limit_is_kept.ensures.0 c.if-not-branch-4.false in
    judged_so this c.requires.each_call c.args.writes.now c.requires.writes agree parts in_order within c.judge_end.result c.judge_end.ensures
