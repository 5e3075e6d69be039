use Rattle.index_opening_law.proofs.Opened.{opening_is_at_rest}
use Rattle.index_opening_law.proofs.Footing.{opening_is_footed}
use Rattle.index_opening_law.proofs.Layering.{opening_is_layered}
use Rattle.index_opening_law.proofs.laws.opening_law.Goals as goal

pub returns : goal.returns
returns c = record { rest = opening_is_at_rest; footed = opening_is_footed; layered = opening_is_layered }
