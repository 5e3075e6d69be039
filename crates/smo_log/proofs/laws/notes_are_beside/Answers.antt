use Rattle.smo_log.proofs.LineLaw.{notes_beside}
use Rattle.smo_log.proofs.laws.notes_are_beside.Goals as goal

pub returns : goal.returns
returns c = notes_beside
