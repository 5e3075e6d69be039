use Rattle.data_node.proofs.RangeNames.{range_names}
use Rattle.data_node.proofs.laws.names_law.Goals as goal

pub returns : goal.returns
returns c = range_names
