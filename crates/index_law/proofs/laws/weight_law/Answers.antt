use Rattle.index_law.proofs.InUse.{use_weighs}
use Rattle.index_law.proofs.Weights as lemma
use Rattle.index_law.proofs.laws.weight_law.Goals as goal

pub returns-clause-step : goal.returns-clause-step
returns-clause-step c = lemma.step_weighs

pub returns-clause-start : goal.returns-clause-start
returns-clause-start c = lemma.start_weighs

pub returns-clause-join : goal.returns-clause-join
returns-clause-join c = lemma.join_weighs

pub returns-clause-evict : goal.returns-clause-evict
returns-clause-evict c = lemma.evict_weighs

pub returns-clause-idle : goal.returns-clause-idle
returns-clause-idle c = lemma.idle_weighs

pub returns-clause-used : goal.returns-clause-used
returns-clause-used c = use_weighs

pub returns-clause-crash : goal.returns-clause-crash
returns-clause-crash c = lemma.crash_weighs
