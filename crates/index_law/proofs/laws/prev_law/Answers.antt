use Rattle.index_law.proofs.Prevs as lemma
use Rattle.index_law.proofs.laws.prev_law.Goals as goal

pub returns : goal.returns
returns c = record { nodes = lemma.step_traces; prevs = lemma.prev_traces; evict = lemma.evict_traces; start = lemma.start_traces; out = lemma.gone_come_out; within = lemma.prevs_are_nodes; rest = lemma.rest_traced; idle = lemma.idle_follow }
