use Rattle.index_law.proofs.Evictions.{evict_law}
use Rattle.index_law.proofs.Starts.{start_law, join_law}
use Rattle.index_law.proofs.laws.start_law.Goals as goal

pub returns-clause-start : goal.returns-clause-start
returns-clause-start c = start_law

pub returns-clause-join : goal.returns-clause-join
returns-clause-join c = join_law

pub returns-clause-evict : goal.returns-clause-evict
returns-clause-evict c = evict_law
