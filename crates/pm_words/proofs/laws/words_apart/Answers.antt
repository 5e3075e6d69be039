use Rattle.pm_words.proofs.Apart as apart
use Rattle.pm_words.proofs.laws.words_apart.Goals as goal

pub returns : goal.returns
returns c = record { within = apart.words_within; apart = apart.words_apart }
