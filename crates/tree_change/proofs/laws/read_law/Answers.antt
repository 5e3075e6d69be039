use Rattle.tree_change.proofs.ReadExact.{read_stays, read_is_exact}
use Rattle.tree_change.proofs.ReadLaw.{read_is_cell}
use Rattle.tree_change.proofs.laws.read_law.Goals as goal

pub returns : goal.returns
returns c = record { stays = read_stays; reads = read_is_exact; sound = read_is_cell }
