use Rattle.lone_hops_law.proofs.Lengthening.{tries_lengthen}
use Rattle.lone_hops_law.proofs.NodesGo.{nodes_go, nodes_end}
use Rattle.lone_hops_law.proofs.laws.nodes_law.Goals as goal

pub returns : goal.returns
returns c = record { go = nodes_go; end = nodes_end; lengthen = tries_lengthen }
