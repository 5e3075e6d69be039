use Rattle.radix_nodes.proofs.FillLaw.{fills_begin, fills_stay, leaves_are_filled, cells_are_filled}
use Rattle.radix_nodes.proofs.laws.filling_law.Goals as goal

pub returns : goal.returns
returns c = record { begins = fills_begin; stays = fills_stay; leaves = leaves_are_filled; cells = cells_are_filled }
