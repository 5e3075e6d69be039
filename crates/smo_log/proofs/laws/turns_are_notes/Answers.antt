use Rattle.smo_log.proofs.LineLaw.{takes_are_notes, opens_are_notes, readies_are_notes, reads_are_notes}
use Rattle.smo_log.proofs.laws.turns_are_notes.Goals as goal

pub returns-clause-takes : goal.returns-clause-takes
returns-clause-takes c = takes_are_notes

pub returns-clause-opens : goal.returns-clause-opens
returns-clause-opens c = opens_are_notes

pub returns-clause-readies : goal.returns-clause-readies
returns-clause-readies c = readies_are_notes

pub returns-clause-reads : goal.returns-clause-reads
returns-clause-reads c = reads_are_notes
