use Rattle.pm_words.proofs.Apart as apart
use Rattle.pm_words.proofs.laws.slots_apart.Goals as goal

pub returns : goal.returns
returns c = record { within = apart.slots_within; apart = apart.slots_apart }
