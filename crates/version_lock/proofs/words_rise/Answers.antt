use Rattle.version_lock.proofs.HistoryFacts.{words-rise}
use Rattle.version_lock.proofs.words_rise.Goals as goal

pub returns : goal.returns
returns c = words-rise
