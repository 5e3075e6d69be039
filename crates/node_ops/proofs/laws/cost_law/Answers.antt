use Rattle.node_ops.proofs.Costs.{turns_spare, walks_end_so, puts_spare_splits}
use Rattle.node_ops.proofs.laws.cost_law.Goals as goal

pub returns : goal.returns
returns c = record { spare = turns_spare; ends = walks_end_so; splits = puts_spare_splits }
