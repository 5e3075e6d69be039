use Rattle.index_law.proofs.Noting as lemma
use Rattle.index_law.proofs.laws.notes_law.Goals as goal

pub returns : goal.returns
returns c = record { notes = lemma.notes_law; nodes = lemma.nodes_leave_lines; evict = lemma.evict_fits }
