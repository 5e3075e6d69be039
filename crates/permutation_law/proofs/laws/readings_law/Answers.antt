use Rattle.permutation_law.proofs.Loads as loads
use Rattle.permutation_law.proofs.Reading as lemma
use Rattle.permutation_law.proofs.laws.readings_law.Goals as goal

pub returns : goal.returns
returns c = record { begins = lemma.reading_begins; goes_on = lemma.reading_goes_on; loads = loads.loads_read; steps = lemma.reading_is_kept; sorts = lemma.sorts_keep_reading; frames = lemma.frames_keep_reading; serves = lemma.reading_serves }
