use Rattle.version_lock.proofs.WordTests.{free_words_told, worn_words_told}
use Rattle.version_lock.proofs.words_told.Goals as goal

pub returns : goal.returns
returns c = record { free = free_words_told; worn = worn_words_told }
