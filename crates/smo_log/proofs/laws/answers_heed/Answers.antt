use Rattle.smo_log.proofs.LineLaw.{takes_heed, reads_heed}
use Rattle.smo_log.proofs.laws.answers_heed.Goals as goal

pub returns-clause-takes : goal.returns-clause-takes
returns-clause-takes c = takes_heed

pub returns-clause-reads : goal.returns-clause-reads
returns-clause-reads c = reads_heed
