use Rattle.radix_nodes.proofs.CellWords.{children_are_bytes, crash_shows_either}
use Rattle.radix_nodes.proofs.laws.children_law.Goals as goal

pub returns : goal.returns
returns c = record { bytes = children_are_bytes; crash = crash_shows_either }
