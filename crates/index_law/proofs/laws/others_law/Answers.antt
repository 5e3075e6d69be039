use Rattle.index_law.proofs.Beside as lemma
use Rattle.index_law.proofs.laws.others_law.Goals as goal

pub returns : goal.returns
returns c = record { nodes = lemma.nodes_leave_others; prevs = lemma.prevs_keep }
