use Rattle.pm_words.proofs.Made as made
use Rattle.pm_words.proofs.laws.rows_made.Goals as goal

pub returns : goal.returns
returns c = record { row = made.row_of-row; twins = made.row_of-at; volatile = made.row_of-at_volatile }
