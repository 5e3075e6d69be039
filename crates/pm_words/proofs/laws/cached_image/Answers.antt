use Rattle.pm_words.proofs.Made as made
use Rattle.pm_words.proofs.laws.cached_image.Goals as goal

pub returns : goal.returns
returns c = record { image = made.cached_row-image; words = made.cached_row-at }
