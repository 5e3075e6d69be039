use Rattle.index_law.proofs.Whole as lemma
use Rattle.index_law.proofs.laws.whole_law.Goals as goal

pub returns : goal.returns
returns c = record { nodes = lemma.whole_node; lines = lemma.whole_line; prevs = lemma.whole_prev }
