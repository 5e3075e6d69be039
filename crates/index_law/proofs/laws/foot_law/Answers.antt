use Rattle.index_law.proofs.Footed as lemma
use Rattle.index_law.proofs.Footings.{foot_any, foot_keeps}
use Rattle.index_law.proofs.laws.foot_law.Goals as goal

pub returns-clause-any : goal.returns-clause-any
returns-clause-any c = foot_any

pub returns-clause-keeps : goal.returns-clause-keeps
returns-clause-keeps c = foot_keeps

pub returns-clause-evict : goal.returns-clause-evict
returns-clause-evict c = lemma.evict_footed

pub returns-clause-start : goal.returns-clause-start
returns-clause-start c = lemma.start_footed

pub returns-clause-alike : goal.returns-clause-alike
returns-clause-alike c = lemma.alike_footed

pub returns-clause-rest : goal.returns-clause-rest
returns-clause-rest c = lemma.rest_footed

pub returns-clause-round : goal.returns-clause-round
returns-clause-round c = lemma.round_footed

pub returns-clause-stamp : goal.returns-clause-stamp
returns-clause-stamp c = lemma.stamp_footed

pub returns-clause-fresh : goal.returns-clause-fresh
returns-clause-fresh c = lemma.fresh_footed
