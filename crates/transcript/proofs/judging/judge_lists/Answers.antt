use Rattle.std.proofs.Common.{List, subst}
use Rattle.std.specs.Option.{MatchOption}
use Rattle.cat_history.specs.declared.op.Write.{Write}
use Rattle.transcript.specs.Rules.{AreCounted, case_of}
use Rattle.transcript.proofs.JudgeLemmas.{broken_2}
use Rattle.transcript.proofs.judging.judge_lists.Goals as goal

pub returns-in_default : goal.returns-in_default
returns-in_default c =
    let told = c.args.told.now in
    let count = c.args.end.now.writes in
    let none : (writes : List Write) → AreCounted told count writes → ⊥ =
    subst (λ found. MatchOption found ((writes : List Write) → AreCounted told count writes → ⊥) (λ writes. AreCounted told count writes.items)) c.in_default.is c.in_ok-writes.ensures in
    broken_2 (case_of c.args.base.now c.args.asked.now told c.args.end.now) (c.in_ok-each_call_is_told.ensures.0 c.if-not-branch.false) none
