use Rattle.tree_floor.proofs.FloorStays.{floor_stays}
use Rattle.tree_floor.proofs.FloorLoads.{floor_only_loads}
use Rattle.tree_floor.proofs.FloorExact.{floor_is_exact}
use Rattle.tree_floor.proofs.laws.floor_law.Goals as goal

pub returns : goal.returns
returns c = record { stays = floor_stays; loads = floor_only_loads; exact = floor_is_exact }
