use Rattle.pm_words.proofs.Apart as apart
use Rattle.pm_words.proofs.laws.addresses_apart.Goals as goal

pub returns : goal.returns
returns c = record { within = apart.addresses_within; apart = apart.addresses_apart }
