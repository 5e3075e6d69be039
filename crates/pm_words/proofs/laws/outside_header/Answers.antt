use Rattle.pm_words.proofs.Kept as kept
use Rattle.pm_words.proofs.laws.outside_header.Goals as goal

pub returns : goal.returns
returns c = record { stores = kept.outside_header; drains = kept.keeps_header }
