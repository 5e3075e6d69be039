use Rattle.tree_row.proofs.RowLaw.{reads_words, reads_fit, rows_alike, crash_reads, image_reads}
use Rattle.tree_row.proofs.laws.reading_law.Goals as goal

pub returns : goal.returns
returns c = record { reads = reads_words; fits = reads_fit; alike = rows_alike; crash = crash_reads; image = image_reads }
