use Rattle.pm_words.proofs.Made as made
use Rattle.pm_words.proofs.laws.fresh_image.Goals as goal

pub returns : goal.returns
returns c = record { image = made.fresh_image; words = made.fresh_at }
