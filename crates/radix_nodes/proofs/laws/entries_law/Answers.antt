use Rattle.radix_nodes.proofs.EntryForms.{entry_adds, entry_moves, entry_goes}
use Rattle.radix_nodes.proofs.laws.entries_law.Goals as goal

pub returns : goal.returns
returns c = record { adds = entry_adds; moves = entry_moves; goes = entry_goes }
