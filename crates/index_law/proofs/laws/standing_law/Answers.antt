use Rattle.index_law.proofs.Standing.{free_nodes_stand, standing_is_kept, reads_stand}
use Rattle.index_law.proofs.laws.standing_law.Goals as goal

pub returns : goal.returns
returns c = record { free = free_nodes_stand; kept = standing_is_kept; reads = reads_stand }
