use Rattle.radix_nodes.proofs.IndexForm.{place_fills, index_adds, index_moves, index_goes}
use Rattle.radix_nodes.proofs.laws.index_law.Goals as goal

pub returns : goal.returns
returns c = record { fills = place_fills; adds = index_adds; moves = index_moves; goes = index_goes }
