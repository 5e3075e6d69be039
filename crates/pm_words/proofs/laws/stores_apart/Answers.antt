use Rattle.pm_words.proofs.Apart as apart
use Rattle.pm_words.proofs.laws.stores_apart.Goals as goal

pub returns : goal.returns
returns c = record { stands = apart.at-set_same; leaves = apart.at-set_other }
