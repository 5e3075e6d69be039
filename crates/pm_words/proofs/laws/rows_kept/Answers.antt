use Rattle.pm_words.proofs.Kept as kept
use Rattle.pm_words.proofs.Made as made
use Rattle.pm_words.proofs.laws.rows_kept.Goals as goal

pub returns : goal.returns
returns c = record { acts = kept.acted_row; evictions = kept.evicted_row; crashes = made.durable_row-image; durable = made.durable_row-at }
