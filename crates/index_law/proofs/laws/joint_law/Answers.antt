use Rattle.index_law.proofs.Joint as lemma
use Rattle.index_law.proofs.laws.joint_law.Goals as goal

pub returns : goal.returns
returns c = record { nodes = lemma.node_step; lines = lemma.line_step }
