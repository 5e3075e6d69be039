use Rattle.pm_words.proofs.Kept as kept
use Rattle.pm_words.proofs.laws.drains_twin.Goals as goal

pub returns : goal.returns
returns c = record { twin = kept.action_address-drain; cached = kept.names_cached }
