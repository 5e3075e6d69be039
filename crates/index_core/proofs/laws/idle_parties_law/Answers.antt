use Rattle.index_core.proofs.MachineLaw as lemma
use Rattle.index_core.proofs.laws.idle_parties_law.Goals as goal

pub returns-clause-kept : goal.returns-clause-kept
returns-clause-kept c = lemma.with_idle

pub returns-clause-weight : goal.returns-clause-weight
returns-clause-weight c = lemma.idle_weigh
